-- Ascending lists and the tests on them.
use Rattle.std.proofs.Common.{◌≡◌, ◌+◌, ◌-ℤ◌, arith, Bool, true, false, ◌&&◌, ◌||◌, ◌↔◌, ℤ, List, [], ◌∷◌, refl, sym, ap, ◌∙◌, subst}
use Rattle.std.specs.Prelude.{IsTrue, unsigned_abs}
use Rattle.std.specs.List.{list_all}
use Rattle.std.specs.Ordering.{int_eq}
use Rattle.std.specs.Cmp.{both_ways}
use Rattle.std.proofs.lemmas.Bool.{false≢true}
use Rattle.std.proofs.lemmas.Int.{ints}
use Rattle.sc_base.specs.Integers.{has_element, upward, in_order, IsAscending}
use Rattle.sc_base.specs.Spans.{width}
use Rattle.sc_runs.proofs.Sets.{in_order_ascending}
use Rattle.sc_base.proofs.Bools.{and_true, or_right}
use Rattle.sc_base.proofs.Integers.{ascending_same, int_eq-same, same-int_eq, IsAscending-in_order, has_element-in_order}
use Rattle.sc_terms.specs.Meaning.{same_elements}

-- what holds of all elements holds of each
pub all_of : (t : ℤ → Bool) (xs : List ℤ) → list_all t xs ≡ true → (x : ℤ) → has_element xs x ≡ true → t x ≡ true
all_of t [] h x e = absurd (false≢true e)
all_of t (y ∷ ys) h x e = by (int_eq x y) refl e (all_of t ys (and_true (t y) (list_all t ys) h).1 x)
  where
    by : (b : Bool) → int_eq x y ≡ b → (b || has_element ys x) ≡ true → (has_element ys x ≡ true → t x ≡ true) → t x ≡ true
    by true same k rest = subst (λ z. t z ≡ true) (sym (same-int_eq x y same)) (and_true (t y) (list_all t ys) h).0
    by false other k rest = rest k

pub all_by : (t : ℤ → Bool) (xs : List ℤ) → ((x : ℤ) → has_element xs x ≡ true → t x ≡ true) → list_all t xs ≡ true
all_by t [] h = refl
all_by t (y ∷ ys) h =
    (λ i. h y (ap (λ b. b || has_element ys y) (int_eq-same y)) i && list_all t ys)
    ∙ all_by t ys (λ x e. h x (or_right (int_eq x y) (has_element ys x) e))

pub same_ascending : (xs ys : List ℤ) (b : Bool) → IsAscending xs → IsAscending ys → IsTrue b ↔ (xs ≡ ys) → b ≡ same_elements xs ys
same_ascending xs ys b p q h =
    both_ways b (same_elements xs ys) (λ e. alike (h.0 (true_is b e))) (λ e. is_true b (h.1 (equal (and_true (list_all (has_element ys) xs) (list_all (has_element xs) ys) e))))
  where
    true_is : (c : Bool) → c ≡ true → IsTrue c
    true_is true e = refl
    true_is false e = absurd (false≢true e)

    is_true : (c : Bool) → IsTrue c → c ≡ true
    is_true true e = refl
    is_true false e = cc

    alike : xs ≡ ys → same_elements xs ys ≡ true
    alike e = subst (λ zs. same_elements xs zs ≡ true) e (λ i. all_by (has_element xs) xs (λ x k. k) i && all_by (has_element xs) xs (λ x k. k) i)

    equal : (list_all (has_element ys) xs ≡ true) × (list_all (has_element xs) ys ≡ true) → xs ≡ ys
    equal e = ascending_same xs ys p q (λ x. both_ways (has_element xs x) (has_element ys x) (all_of (has_element ys) xs e.0 x) (all_of (has_element xs) ys e.1 x))

-- an ascending list is in order
pub in_order_is : (r xs : List ℤ) → r ≡ xs → IsAscending r → r ≡ in_order xs
in_order_is r xs e h = sym (in_order_ascending r h) ∙ ap in_order e

no_width : (x : ℤ) → unsigned_abs (x -ℤ x) ≡ 0
no_width x = omega (arith, ints)

-- from a number to itself there is one number
pub one_upward : (r : List ℤ) (x : ℤ) → r ≡ upward x (width (record { low = x; high = x }) + 1) → r ≡ x ∷ []
unfolding upward
one_upward r x e = e ∙ ap (λ n. upward x (n + 1)) (no_width x)

pub in_order_again : (xs : List ℤ) → in_order (in_order xs) ≡ in_order xs
in_order_again xs = in_order_ascending (in_order xs) (IsAscending-in_order xs)

-- a test of all elements doesn't turn on their order
pub all_in_order : (t : ℤ → Bool) (xs : List ℤ) → list_all t (in_order xs) ≡ list_all t xs
all_in_order t xs =
    both_ways (list_all t (in_order xs)) (list_all t xs)
    (λ e. all_by t xs (λ x h. all_of t (in_order xs) e x (has_element-in_order xs x ∙ h)))
    (λ e. all_by t (in_order xs) (λ x h. all_of t xs e x (sym (has_element-in_order xs x) ∙ h)))
