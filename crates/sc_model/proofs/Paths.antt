-- What a path without clashes says of members, and lists of integers as sets.
use Rattle.std.proofs.Common.{◌≡◌, ℕ, zero, suc, Bool, true, false, not, ◌&&◌, ◌||◌, ℤ, pos, List, [], ◌∷◌, ◌++◌, length, Option, Some, None, ◌⊎◌, inl, inr, refl, sym, ap, ◌∙◌}
use Rattle.std.specs.Prelude.{is_some, unsigned_abs, filter}
use Rattle.std.specs.List.{list_all}
use Rattle.std.specs.Ordering.{int_eq}
use Rattle.std.specs.Cmp.{signed_Decides}
use Rattle.std.proofs.lemmas.Bool.{false≢true}
use Rattle.std.proofs.lemmas.List.Folds.{list_any-append}
use Rattle.sc_base.specs.Numbered.{item_at}
use Rattle.sc_base.specs.Integers.{has_element, without}
use Rattle.sc_base.proofs.Bools.{and_true, and_right, or_true, or_right}
use Rattle.sc_base.proofs.Integers.{has_element-filter, same-int_eq}
use Rattle.sc_terms.specs.Meaning.{same_elements}
use Rattle.sc_terms.specs.Conditions.{IsIn}
use Rattle.sc_terms.proofs.Ranges.{there}
use Rattle.sc_facts.specs.declared.fact.Fact.{Fact}
use Rattle.sc_facts.specs.declared.name.FactName.TheVariants as names
use Rattle.sc_rules.specs.Pairs.{first_sign}
use Rattle.sc_rules.specs.Members.{within, within_of}
use Rattle.sc_tree.specs.Events.{HasNoClash}

-- ---- items by number
found_in : {X : Type 0} (xs : List X) (n : ℕ) (o : Option X) → IsIn (length xs) n → item_at xs n ≡ o → (x : X) × (item_at xs n ≡ Some x)
found_in xs n None is at = absurd (there xs n is.0 is.1 at)
found_in xs n (Some x) is at = (x, at)

-- there is an item with each number up to the length
pub item_there : {X : Type 0} (xs : List X) (n : ℕ) → IsIn (length xs) n → (x : X) × (item_at xs n ≡ Some x)
item_there xs n is = found_in xs n (item_at xs n) is refl

-- ---- signs
pub plus_first : (p m : Bool) → p ≡ true → first_sign p m ≡ Some true
plus_first p m e = rw e refl

pub minus_second : (p m : Bool) → p ≡ false → m ≡ true → first_sign p m ≡ Some false
minus_second p m e f = rw (e, f) refl

pub signed : (p m : Bool) → is_some (first_sign p m) ≡ true → (p ≡ true) ⊎ (m ≡ true)
signed true m h = inl refl
signed false true h = inr refl
signed false false h = absurd (false≢true h)

plus_back : (p m : Bool) → first_sign p m ≡ Some true → p ≡ true
plus_back true m e = refl
plus_back false true e = absurd cc
plus_back false false e = absurd cc

pub and_false : (a b : Bool) → (a && b) ≡ false → b ≡ true → a ≡ false
and_false true b e h = absurd (false≢true (sym e ∙ h))
and_false false b e h = refl

module _ (path : List Fact) (consistent : HasNoClash path) where
  -- what is outside a set is not in it
  pub not_within : (e s : ℕ) → within path e s false ≡ true → within path e s true ≡ false
  not_within e s h = and_false (within path e s true) (within path e s false) (consistent (names.Member e s)) h

  pub never_both : (e s : ℕ) → within path e s true ≡ true → within path e s false ≡ true → ⊥
  never_both e s p m = false≢true (sym (not_within e s m) ∙ p)

  pub within_is : (e s : ℕ) (b : Bool) → within path e s b ≡ true → within_of path e s ≡ Some b
  within_is e s true h = plus_first (within path e s true) (within path e s false) h
  within_is e s false h = minus_second (within path e s true) (within path e s false) (not_within e s h) h

pub within_plus : (path : List Fact) (e s : ℕ) → within_of path e s ≡ Some true → within path e s true ≡ true
within_plus path e s h = plus_back (within path e s true) (within path e s false) h

-- ---- sets of integers
pub has_union : (xs ys : List ℤ) (x : ℤ) → has_element (xs ++ without ys xs) x ≡ (has_element xs x || has_element ys x)
has_union xs ys x =
    list_any-append (int_eq x) xs (without ys xs) ∙ (ap (λ b. has_element xs x || b) (has_element-filter (λ z. not (has_element xs z)) ys x) ∙ or_more (has_element xs x) (has_element ys x))
  where
    or_more : (a b : Bool) → (a || (b && not a)) ≡ (a || b)
    or_more true b = refl
    or_more false true = refl
    or_more false false = refl

pub has_inter : (xs ys : List ℤ) (x : ℤ) → has_element (filter (has_element ys) xs) x ≡ (has_element xs x && has_element ys x)
has_inter xs ys x = has_element-filter (has_element ys) xs x

pub has_minus : (xs ys : List ℤ) (x : ℤ) → has_element (without xs ys) x ≡ (has_element xs x && not (has_element ys x))
has_minus xs ys x = has_element-filter (λ z. not (has_element ys z)) xs x

pub int_same : (x : ℤ) → int_eq x x ≡ true
int_same x = (signed_Decides x x).1 refl

pub all_among : (xs ys : List ℤ) → ((x : ℤ) → has_element xs x ≡ true → has_element ys x ≡ true) → list_all (has_element ys) xs ≡ true
all_among [] ys h = refl
all_among (x ∷ xs) ys h = rw (h x (ap (λ b. b || has_element xs x) (int_same x)), all_among xs ys (λ y g. h y (or_right (int_eq y x) (has_element xs y) g))) refl

pub not_all_among : (xs ys : List ℤ) (x : ℤ) → has_element xs x ≡ true → has_element ys x ≡ false → list_all (has_element ys) xs ≡ false
not_all_among [] ys x e f = absurd (false≢true e)
not_all_among (y ∷ xs) ys x e f =
    elim (or_true (int_eq x y) (has_element xs x) e) [
      | inl a ↦ let same : x ≡ y = same-int_eq x y a in ap (λ b. b && list_all (has_element ys) xs) (ap (has_element ys) (sym same) ∙ f)
      | inr b ↦ and_right (has_element ys y) (list_all (has_element ys) xs) (not_all_among xs ys x b f)
    ]

pub same_by : (xs ys : List ℤ) → ((x : ℤ) → has_element xs x ≡ true → has_element ys x ≡ true) → ((x : ℤ) → has_element ys x ≡ true → has_element xs x ≡ true) → same_elements xs ys ≡ true
same_by xs ys f g = rw (all_among xs ys f, all_among ys xs g) refl

pub not_same_first : (xs ys : List ℤ) (x : ℤ) → has_element xs x ≡ true → has_element ys x ≡ false → same_elements xs ys ≡ false
not_same_first xs ys x e f = ap (λ b. b && list_all (has_element xs) ys) (not_all_among xs ys x e f)

pub not_same_second : (xs ys : List ℤ) (x : ℤ) → has_element xs x ≡ false → has_element ys x ≡ true → same_elements xs ys ≡ false
not_same_second xs ys x e f = and_right (list_all (has_element ys) xs) (list_all (has_element xs) ys) (not_all_among ys xs x f e)

pub one_label : (m n : ℕ) → pos m ≡ pos n → m ≡ n
one_label m n e = ap unsigned_abs e
