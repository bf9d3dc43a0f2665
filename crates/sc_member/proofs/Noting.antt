-- What stays noted, and what is.
use Rattle.std.proofs.Common.{◌≡◌, ◌≢◌, ℕ, ◌<◌, Bool, true, false, ◌||◌, cond, List, [], ◌∷◌, ◌++◌, length, ◌⊎◌, inl, inr, refl, sym, ap, subst, ◌∙◌}
use Rattle.std.specs.Prelude.{nat_eq, nat_lt, slice_set, slice_index_or}
use Rattle.std.specs.List.{list_any}
use Rattle.std.specs.Cmp.{unsigned_Decides}
use Rattle.std.proofs.lemmas.Bool.{false≢true}
use Rattle.std.proofs.lemmas.List.{get_or-set_same, get_or-set_other, length-set}
use Rattle.std.proofs.lemmas.List.Folds.{list_any-append}
use Rattle.sc_base.proofs.Bools.{or_right}
use Rattle.sc_terms.specs.Lookup.{is_listed}
use Rattle.sc_member.specs.Notes.{place_of, is_noted, Keeps}

alike : (m n : ℕ) → (m ≡ n) ⊎ (m ≢ n)
alike m n = by (nat_eq m n) refl
  where
    by : (b : Bool) → nat_eq m n ≡ b → (m ≡ n) ⊎ (m ≢ n)
    by true e = inl ((unsigned_Decides m n).0 e)
    by false e = inr (λ s. false≢true (sym e ∙ (unsigned_Decides m n).1 s))

itself : (n : ℕ) → nat_eq n n ≡ true
itself n = (unsigned_Decides n n).1 refl

or_left : (a b : Bool) → a ≡ true → (a || b) ≡ true
or_left a b e = rw e refl

listed_more : (v : ℕ) (xs ys : List ℕ) → is_listed v xs ≡ true → is_listed v (xs ++ ys) ≡ true
listed_more v xs ys e = list_any-append (nat_eq v) xs ys ∙ or_left (list_any (nat_eq v) xs) (list_any (nat_eq v) ys) e

listed_last : (v : ℕ) (xs : List ℕ) → is_listed v (xs ++ v ∷ []) ≡ true
listed_last v xs = list_any-append (nat_eq v) xs (v ∷ []) ∙ or_right (list_any (nat_eq v) xs) (list_any (nat_eq v) (v ∷ [])) (or_left (nat_eq v v) false (itself v))

-- one more number behind the list at a place
module _ (old new : List (List ℕ)) (k w : ℕ) (within : k < length old) (is : new ≡ slice_set old k (slice_index_or old k [] ++ w ∷ [])) where
  same_length : length new ≡ length old
  same_length = ap length is ∙ length-set old k (slice_index_or old k [] ++ w ∷ [])

  same_place : (n : ℕ) → place_of new n ≡ place_of old n
  same_place n = ap (λ l. cond (nat_lt n l) n 0) same_length

  at_place : slice_index_or new k [] ≡ slice_index_or old k [] ++ w ∷ []
  at_place = ap (λ ls. slice_index_or ls k []) is ∙ get_or-set_same old k (slice_index_or old k [] ++ w ∷ []) [] within

  held_more : (i v : ℕ) → is_listed v (slice_index_or old i []) ≡ true → is_listed v (slice_index_or new i []) ≡ true
  held_more i v e = elim (alike k i) [
    | inl same ↦ subst (λ j. is_listed v (slice_index_or new j []) ≡ true) same
        (ap (is_listed v) at_place ∙ listed_more v (slice_index_or old k []) (w ∷ []) (subst (λ j. is_listed v (slice_index_or old j []) ≡ true) (sym same) e))
    | inr other ↦ ap (λ ls. is_listed v (slice_index_or ls i [])) is ∙ (ap (is_listed v) (get_or-set_other old k i (slice_index_or old k [] ++ w ∷ []) [] (λ s. other (sym s))) ∙ e)
  ]

  pub keeps_set : Keeps old new
  keeps_set n v e = subst (λ i. is_listed v (slice_index_or new i []) ≡ true) (sym (same_place n)) (held_more (place_of old n) v e)

  pub noted_set : (n : ℕ) → k ≡ place_of old n → is_noted new n w ≡ true
  noted_set n e =
      subst (λ i. is_listed w (slice_index_or new i []) ≡ true) (e ∙ sym (same_place n)) (ap (is_listed w) at_place ∙ listed_last w (slice_index_or old k []))
