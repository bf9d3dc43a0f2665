-- What holds of all items of lists that are made of others.
use Rattle.std.proofs.Common.{◌≡◌, ℕ, true, List, [], ◌∷◌, ◌++◌, map, inl, inr, sym, subst}
use Rattle.std.specs.Prelude.{nat_eq}
use Rattle.std.specs.List.{AllByRecursion, flat_map}
use Rattle.std.specs.Cmp.{unsigned_Decides}
use Rattle.std.proofs.lemmas.Bool.{false≢true}
use Rattle.sc_base.proofs.Bools.{or_true}
use Rattle.sc_terms.specs.Lookup.{is_listed}
use Rattle.sc_facts.specs.declared.fact.Fact.{Fact}
use Rattle.sc_facts.specs.Same.{same_fact, same_fact-Decides}
use Rattle.sc_facts.specs.Facts.{has}

module _ {X : Type 0} (P : X → Type 0) where
  pub all_left : (xs ys : List X) → AllByRecursion P (xs ++ ys) → AllByRecursion P xs
  all_left [] ys h = tt
  all_left (x ∷ xs) ys h = (h.0, all_left xs ys h.1)

  pub all_right : (xs ys : List X) → AllByRecursion P (xs ++ ys) → AllByRecursion P ys
  all_right [] ys h = h
  all_right (x ∷ xs) ys h = all_right xs ys h.1

  pub all_both : (xs ys : List X) → AllByRecursion P xs → AllByRecursion P ys → AllByRecursion P (xs ++ ys)
  all_both [] ys h k = k
  all_both (x ∷ xs) ys h k = (h.0, all_both xs ys h.1 k)

  pub all_mapped : (f : ℕ → X) → ((n : ℕ) → P (f n)) → (ns : List ℕ) → AllByRecursion P (map f ns)
  all_mapped f h [] = tt
  all_mapped f h (n ∷ ns) = (h n, all_mapped f h ns)

  pub all_flat : (f : ℕ → List X) → ((n : ℕ) → AllByRecursion P (f n)) → (ns : List ℕ) → AllByRecursion P (flat_map f ns)
  all_flat f h [] = tt
  all_flat f h (n ∷ ns) = all_both (f n) (flat_map f ns) (h n) (all_flat f h ns)

  -- that of one number in the list
  pub mapped_at : (f : ℕ → X) (v : ℕ) (ns : List ℕ) → is_listed v ns ≡ true → AllByRecursion P (map f ns) → P (f v)
  mapped_at f v [] e h = absurd (false≢true e)
  mapped_at f v (n ∷ ns) e h = elim (or_true (nat_eq v n) (is_listed v ns) e) [
    | inl a ↦ subst (λ m. P (f m)) (sym ((unsigned_Decides v n).0 a)) h.0
    | inr b ↦ mapped_at f v ns b h.1
  ]

  pub flat_at : (f : ℕ → List X) (v : ℕ) (ns : List ℕ) → is_listed v ns ≡ true → AllByRecursion P (flat_map f ns) → AllByRecursion P (f v)
  flat_at f v [] e h = absurd (false≢true e)
  flat_at f v (n ∷ ns) e h = elim (or_true (nat_eq v n) (is_listed v ns) e) [
    | inl a ↦ subst (λ m. AllByRecursion P (f m)) (sym ((unsigned_Decides v n).0 a)) (all_left (f n) (flat_map f ns) h)
    | inr b ↦ flat_at f v ns b (all_right (f n) (flat_map f ns) h)
  ]

-- that of a fact on the path
pub fact_at : (P : Fact → Type 0) (path : List Fact) (fact : Fact) → has path fact ≡ true → AllByRecursion P path → P fact
fact_at P [] fact e h = absurd (false≢true e)
fact_at P (f ∷ path) fact e h = elim (or_true (same_fact fact f) (has path fact) e) [
  | inl a ↦ subst P (sym ((same_fact-Decides fact f).0 a)) h.0
  | inr b ↦ fact_at P path fact b h.1
]
