-- Lists in which each number stands once, where it first came.
use Rattle.std.proofs.Common.{◌≡◌, ℕ, suc, ◌+◌, ◌<◌, ◌≤◌, Bool, true, false, ◌||◌, cond, List, [], ◌∷◌, ◌++◌, length, Some, refl, sym, ap, subst, ◌∙◌, arith, length-append}
use Rattle.std.specs.Prelude.{nat_eq, slice_get}
use Rattle.std.specs.Bool.{Decides}
use Rattle.std.specs.Cmp.{unsigned_Decides, nat_eq_equiv}
use Rattle.std.specs.List.{list_any, position_or_len, IsDistinct}
use Rattle.std.proofs.lemmas.Bool.{false≢true}
use Rattle.std.proofs.lemmas.List.Folds.{list_any-append}
use Rattle.std.proofs.lemmas.Map.Keys.{IsDistinct-push}
use Rattle.std.proofs.lemmas.Map.Steps.{length-le_from_distinct_below}
use Rattle.indexmap.specs.IndexSet.{insert_key, insert_all}
use Rattle.sc_base.proofs.Bools.{or_none}
use Rattle.sc_base.specs.Numbered.{item_at}
use Rattle.sc_terms.specs.Lookup.{is_listed}
use Rattle.sc_flatten.specs.Walk.{firsts}
use Rattle.sc_flatten.specs.Stock.{number_in}
use Rattle.sc_flatten.specs.Numbered.{IsAmong}

or_assoc : (a b c : Bool) → ((a || b) || c) ≡ (a || (b || c))
or_assoc true b c = refl
or_assoc false b c = refl

module _ {X : Type 0} (eq : X → X → Bool) (decides : (x y : X) → Decides (eq x y) (x ≡ y)) where
  -- an item that is among them already adds nothing
  or_present : (k x : X) (ks : List X) → list_any (eq x) ks ≡ true → (list_any (eq k) ks || eq k x) ≡ list_any (eq k) ks
  or_present k x ks e =
      elim (eq k x) as (λ b. eq k x ≡ b → (list_any (eq k) ks || b) ≡ list_any (eq k) ks) [
        | true ↦ λ h. rw (ap (λ y. list_any (eq y) ks) ((decides k x).0 h) ∙ e) refl
        | false ↦ λ h. or_none (list_any (eq k) ks)
      ] refl

  any-insert_key : (k x : X) (ks : List X) → list_any (eq k) (insert_key eq ks x) ≡ (list_any (eq k) ks || eq k x)
  any-insert_key k x ks =
      elim (list_any (eq x) ks) as (λ b. list_any (eq x) ks ≡ b → list_any (eq k) (cond b ks (ks ++ x ∷ [])) ≡ (list_any (eq k) ks || eq k x)) [
        | true ↦ λ h. sym (or_present k x ks h)
        | false ↦ λ h. list_any-append (eq k) ks (x ∷ []) ∙ ap (λ b. list_any (eq k) ks || b) (or_none (eq k x))
      ] refl

  -- the items are those before and those that were added
  pub any-insert_all : (k : X) (ks xs : List X) → list_any (eq k) (insert_all eq ks xs) ≡ (list_any (eq k) ks || list_any (eq k) xs)
  any-insert_all k ks [] = sym (or_none (list_any (eq k) ks))
  any-insert_all k ks (x ∷ xs) =
      any-insert_all k (insert_key eq ks x) xs ∙ ap (λ b. b || list_any (eq k) xs) (any-insert_key k x ks) ∙ or_assoc (list_any (eq k) ks) (eq k x) (list_any (eq k) xs)

  one_later : (x : X) (xs : List X) (n : ℕ) (k : X) → slice_get xs n ≡ Some k → slice_get (x ∷ xs) (1 + n) ≡ Some k
  one_later x xs n k e = let next : suc n ≡ 1 + n = omega arith in subst (λ m. slice_get (x ∷ xs) m ≡ Some k) next e

  -- an item that is among them stands at its first place
  pub at_first_place : (k : X) (ks : List X) → list_any (eq k) ks ≡ true → slice_get ks (position_or_len (eq k) ks) ≡ Some k
  at_first_place k [] e = absurd (false≢true e)
  at_first_place k (x ∷ xs) e =
      elim (eq k x) as (λ b. eq k x ≡ b → (b || list_any (eq k) xs) ≡ true → slice_get (x ∷ xs) (position_or_len (eq k) (x ∷ xs)) ≡ Some k) [
        | true ↦ λ h g. rw h (ap Some (sym ((decides k x).0 h)))
        | false ↦ λ h g. rw h (one_later x xs (position_or_len (eq k) xs) k (at_first_place k xs g))
      ] refl e

  pub first_place-within : (k : X) (ks : List X) → list_any (eq k) ks ≡ true → position_or_len (eq k) ks < length ks
  first_place-within k [] e = absurd (false≢true e)
  first_place-within k (x ∷ xs) e =
      elim (eq k x) as (λ b. eq k x ≡ b → (b || list_any (eq k) xs) ≡ true → position_or_len (eq k) (x ∷ xs) < length (x ∷ xs)) [
        | true ↦ λ h g. rw h (omega arith)
        | false ↦ λ h g. rw h (omega (arith, first_place-within k xs g))
      ] refl e

pub insert_all-append : {X : Type 0} (eq : X → X → Bool) (ks xs ys : List X) → insert_all eq ks (xs ++ ys) ≡ insert_all eq (insert_all eq ks xs) ys
insert_all-append eq ks [] ys = refl
insert_all-append eq ks (x ∷ xs) ys = insert_all-append eq (insert_key eq ks x) xs ys

module _ {X : Type 0} (eq : X → X → Bool) where
  key_length : (b : Bool) (x : X) (ks : List X) → length (cond b ks (ks ++ x ∷ [])) ≤ length ks + 1
  key_length true x ks = omega arith
  key_length false x ks = omega (arith, length-append ks (x ∷ []))

  pub inserted_length : (ks xs : List X) → length (insert_all eq ks xs) ≤ length ks + length xs
  inserted_length ks [] = omega arith
  inserted_length ks (x ∷ xs) = omega (arith, inserted_length (insert_key eq ks x) xs, key_length (list_any (eq x) ks) x ks)

pub firsts_length : (xs : List ℕ) → length (firsts xs) ≤ length xs
firsts_length xs = omega (arith, inserted_length nat_eq [] xs)

-- ---- numbers, each once
pub among-firsts : (n : ℕ) (xs : List ℕ) → is_listed n (firsts xs) ≡ is_listed n xs
among-firsts n xs = any-insert_all nat_eq unsigned_Decides n [] xs

distinct_key : (b : Bool) (ks : List ℕ) (x : ℕ) → is_listed x ks ≡ b → IsDistinct nat_eq ks → IsDistinct nat_eq (cond b ks (ks ++ x ∷ []))
distinct_key true ks x e h = h
distinct_key false ks x e h = IsDistinct-push nat_eq_equiv ks x h e

pub distinct-insert_all : (ks xs : List ℕ) → IsDistinct nat_eq ks → IsDistinct nat_eq (insert_all nat_eq ks xs)
distinct-insert_all ks [] h = h
distinct-insert_all ks (x ∷ xs) h = distinct-insert_all (insert_key nat_eq ks x) xs (distinct_key (is_listed x ks) ks x refl h)

pub distinct-firsts : (xs : List ℕ) → IsDistinct nat_eq (firsts xs)
unfolding IsDistinct
distinct-firsts xs = distinct-insert_all [] xs tt

-- numbers from 1 to n that are all different are at most n
pub few_distinct : (n : ℕ) (xs : List ℕ) → IsDistinct nat_eq xs → ((m : ℕ) → IsAmong xs m → m < suc n) → length xs ≤ suc n
few_distinct n xs d h = length-le_from_distinct_below xs (suc n) d h

-- ---- the number that a list gives
pub number_there : (ns : List ℕ) (n : ℕ) → IsAmong ns n → item_at ns (number_in ns n) ≡ Some n
unfolding number_in
number_there ns n h =
    let next : suc (position_or_len (nat_eq n) ns) ≡ position_or_len (nat_eq n) ns + 1 = omega arith in
    subst (λ m. item_at ns m ≡ Some n) next (at_first_place nat_eq unsigned_Decides n ns h)

pub number_within : (ns : List ℕ) (n : ℕ) → IsAmong ns n → (0 < number_in ns n) × (number_in ns n ≤ length ns)
unfolding number_in
number_within ns n h =
    let w : position_or_len (nat_eq n) ns < length ns = first_place-within nat_eq unsigned_Decides n ns h in (omega arith, omega arith)
