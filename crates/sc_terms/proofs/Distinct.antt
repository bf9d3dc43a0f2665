-- The lists of set terms have no repeats where those of their parts have none.
use Rattle.std.proofs.Common.{◌≡◌, ℕ, Bool, true, false, not, ◌||◌, cond, ℤ, List, [], ◌∷◌, ◌++◌, Option, Some, None, refl, sym, ◌∙◌}
use Rattle.std.specs.Prelude.{filter}
use Rattle.std.specs.List.{AllByRecursion, IsDistinct}
use Rattle.std.specs.Ordering.{int_eq}
use Rattle.std.specs.Cmp.{int_eq_equiv}
use Rattle.std.proofs.lemmas.Bool.{false≢true}
use Rattle.sc_terms.specs.declared.nodes.SetTerm.{SetTerm}
use Rattle.sc_terms.specs.declared.nodes.SetTerm.TheVariants as sets
use Rattle.sc_terms.specs.Meaning.{Interpretation, IsInterpretation, Valuation, members_of}
use Rattle.sc_terms.specs.Values.{members_or}
use Rattle.sc_base.specs.Integers.{has_element, without}

All-filter : {X : Type 0} (P : X → Type 0) (p : X → Bool) (xs : List X) → AllByRecursion P xs → AllByRecursion P (filter p xs)
All-filter P p [] h = tt
All-filter P p (x ∷ xs) h =
    elim (p x) as (λ b. AllByRecursion P (cond b (x ∷ filter p xs) (filter p xs))) [ true ↦ (h.0, All-filter P p xs h.1) | false ↦ All-filter P p xs h.1 ]

All-append : {X : Type 0} (P : X → Type 0) (xs ys : List X) → AllByRecursion P xs → AllByRecursion P ys → AllByRecursion P (xs ++ ys)
All-append P [] ys h k = k
All-append P (x ∷ xs) ys h k = (h.0, All-append P xs ys h.1 k)

pub IsDistinct-filter : (p : ℤ → Bool) (xs : List ℤ) → IsDistinct int_eq xs → IsDistinct int_eq (filter p xs)
unfolding IsDistinct
IsDistinct-filter p [] h = tt
IsDistinct-filter p (x ∷ xs) h =
    elim (p x) as (λ b. IsDistinct int_eq (cond b (x ∷ filter p xs) (filter p xs))) [
      | true ↦ (All-filter (λ y. int_eq x y ≡ false) p xs h.0, IsDistinct-filter p xs h.1)
      | false ↦ IsDistinct-filter p xs h.1
    ]

or_false : (a b : Bool) → (a || b) ≡ false → (a ≡ false) × (b ≡ false)
or_false true b e = absurd (false≢true (sym e))
or_false false b e = (refl, e)

-- no element of ys is in x ∷ xs: so each differs from x
apart-head : (x : ℤ) (xs ys : List ℤ) → AllByRecursion (λ y. has_element (x ∷ xs) y ≡ false) ys → AllByRecursion (λ y. int_eq x y ≡ false) ys
apart-head x xs [] h = tt
apart-head x xs (y ∷ ys) h =
    (int_eq_equiv.symm x y ∙ (or_false (int_eq y x) (has_element xs y) h.0).0, apart-head x xs ys h.1)

apart-tail : (x : ℤ) (xs ys : List ℤ) → AllByRecursion (λ y. has_element (x ∷ xs) y ≡ false) ys → AllByRecursion (λ y. has_element xs y ≡ false) ys
apart-tail x xs [] h = tt
apart-tail x xs (y ∷ ys) h = ((or_false (int_eq y x) (has_element xs y) h.0).1, apart-tail x xs ys h.1)

pub IsDistinct-append : (xs ys : List ℤ) → IsDistinct int_eq xs → IsDistinct int_eq ys → AllByRecursion (λ y. has_element xs y ≡ false) ys → IsDistinct int_eq (xs ++ ys)
unfolding IsDistinct
IsDistinct-append [] ys h k apart = k
IsDistinct-append (x ∷ xs) ys h k apart =
    (All-append (λ y. int_eq x y ≡ false) xs ys h.0 (apart-head x xs ys apart), IsDistinct-append xs ys h.1 k (apart-tail x xs ys apart))

not-true : (b : Bool) → not b ≡ true → b ≡ false
not-true true e = sym e
not-true false e = refl

without-apart : (ys xs : List ℤ) → AllByRecursion (λ y. has_element xs y ≡ false) (without ys xs)
without-apart [] xs = tt
without-apart (y ∷ ys) xs =
    let split : (b : Bool) → not (has_element xs y) ≡ b → AllByRecursion (λ z. has_element xs z ≡ false) (cond b (y ∷ without ys xs) (without ys xs)) = λ b e. elim b as (λ b. not (has_element xs y) ≡ b → AllByRecursion (λ z. has_element xs z ≡ false) (cond b (y ∷ without ys xs) (without ys xs))) [ true ↦ λ e. (not-true (has_element xs y) e, without-apart ys xs) | false ↦ λ e. without-apart ys xs ] e in
    split (not (has_element xs y)) refl

module _ (i : Interpretation) (proper : IsInterpretation i) (v : Valuation) (h : (n : ℕ) → IsDistinct int_eq (v.members n)) where
  pub members_of-distinct : (s : SetTerm) → IsDistinct int_eq (members_of i v s)
  unfolding IsDistinct
  members_of-distinct (sets.Const c sort) = proper c
  members_of-distinct (sets.Empty sort) = tt
  members_of-distinct (sets.Single e) = (tt, tt)
  members_of-distinct (sets.Union s t) =
      IsDistinct-append (v.members s) (without (v.members t) (v.members s)) (h s) (IsDistinct-filter (λ x. not (has_element (v.members s) x)) (v.members t) (h t)) (without-apart (v.members t) (v.members s))
  members_of-distinct (sets.Inter s t) = IsDistinct-filter (has_element (v.members t)) (v.members s) (h s)
  members_of-distinct (sets.Minus s t) = IsDistinct-filter (λ x. not (has_element (v.members t) x)) (v.members s) (h s)

  pub members_or-distinct : (o : Option SetTerm) → IsDistinct int_eq (members_or o (members_of i v))
  unfolding IsDistinct
  members_or-distinct None = tt
  members_or-distinct (Some s) = members_of-distinct s
