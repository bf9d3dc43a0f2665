-- Runs against lists in any order: what an evaluation over runs needs.
use Rattle.std.proofs.Common.{◌≡◌, suc, Bool, true, false, not, ◌&&◌, ◌||◌, ℤ, List, [], ◌∷◌, ◌++◌, length, refl, sym, ap, ◌∙◌, arith}
use Rattle.std.specs.Prelude.{int_lt, filter, if◌then◌else◌}
use Rattle.std.specs.List.{AllByRecursion, IsDistinct}
use Rattle.std.specs.Ordering.{int_eq}
use Rattle.std.proofs.lemmas.Int.{ints}
use Rattle.sc_base.specs.Integers.{has_element, without, placed, in_order}
use Rattle.sc_base.proofs.Integers.{has_element-filter, IsAscending-filter, has_element-in_order, IsAscending-in_order, ascending_same}
use Rattle.sc_base.proofs.Bools.{or_false}
use Rattle.sc_runs.proofs.Sets.{has_element-joined, in_order_same}

-- an element that no element of the list equals is not in it
absent : (x : ℤ) (xs : List ℤ) → AllByRecursion (λ y. int_eq x y ≡ false) xs → has_element xs x ≡ false
absent x [] h = refl
absent x (y ∷ ys) h = rw h.0 (absent x ys h.1)

all_differ : (x : ℤ) (xs : List ℤ) → has_element xs x ≡ false → AllByRecursion (λ y. int_eq x y ≡ false) xs
all_differ x [] e = tt
all_differ x (y ∷ ys) e = let h = or_false (int_eq x y) (has_element ys x) e in (h.0, all_differ x ys h.1)

length-placed_step : (x y : ℤ) (ys : List ℤ) (s t : Bool) → int_lt x y ≡ s → int_lt y x ≡ t → int_eq x y ≡ false → length (placed x ys) ≡ suc (length ys)
    → length (if s then x ∷ y ∷ ys else (if t then y ∷ placed x ys else y ∷ ys)) ≡ suc (suc (length ys))
length-placed_step x y ys true t e f n h = refl
length-placed_step x y ys false true e f n h = ap suc h
length-placed_step x y ys false false e f n h = absurd (clash x y e f n) where
  clash : (x y : ℤ) → int_lt x y ≡ false → int_lt y x ≡ false → int_eq x y ≡ false → ⊥
  clash x y e f n = grind (arith, ints)

length-placed : (x : ℤ) (ys : List ℤ) → has_element ys x ≡ false → length (placed x ys) ≡ suc (length ys)
length-placed x [] e = refl
length-placed x (y ∷ ys) e =
    let h = or_false (int_eq x y) (has_element ys x) e in
    length-placed_step x y ys (int_lt x y) (int_lt y x) refl refl h.0 (length-placed x ys h.1)

-- the size of a list without repeats is that of its ascending list
pub length-in_order : (xs : List ℤ) → IsDistinct int_eq xs → length (in_order xs) ≡ length xs
unfolding IsDistinct
length-in_order [] h = refl
length-in_order (x ∷ xs) h = length-placed x (in_order xs) (has_element-in_order xs x ∙ absent x xs h.0) ∙ ap suc (length-in_order xs h.1)

-- each operation on ascending lists is that on the lists themselves, in order
pub in_order-union : (xs ys : List ℤ) → in_order (in_order xs ++ without (in_order ys) (in_order xs)) ≡ in_order (xs ++ without ys xs)
in_order-union xs ys =
    in_order_same (in_order xs ++ without (in_order ys) (in_order xs)) (xs ++ without ys xs)
    (λ x. has_element-joined (in_order xs) (in_order ys) x ∙ (ap (λ b. b || has_element (in_order ys) x) (has_element-in_order xs x) ∙ (ap (λ b. has_element xs x || b) (has_element-in_order ys x) ∙ sym (has_element-joined xs ys x))))

filtered : (p q : ℤ → Bool) (xs : List ℤ) → ((x : ℤ) → p x ≡ q x) → filter p (in_order xs) ≡ in_order (filter q xs)
filtered p q xs e =
    ascending_same (filter p (in_order xs)) (in_order (filter q xs)) (IsAscending-filter p (in_order xs) (IsAscending-in_order xs)) (IsAscending-in_order (filter q xs))
    (λ x. has_element-filter p (in_order xs) x ∙ (ap (λ b. b && p x) (has_element-in_order xs x) ∙ (ap (λ b. has_element xs x && b) (e x) ∙ (sym (has_element-filter q xs x) ∙ sym (has_element-in_order (filter q xs) x)))))

pub in_order-inter : (xs ys : List ℤ) → filter (has_element (in_order ys)) (in_order xs) ≡ in_order (filter (has_element ys) xs)
in_order-inter xs ys = filtered (has_element (in_order ys)) (has_element ys) xs (has_element-in_order ys)

pub in_order-minus : (xs ys : List ℤ) → without (in_order xs) (in_order ys) ≡ in_order (without xs ys)
in_order-minus xs ys = filtered (λ x. not (has_element (in_order ys) x)) (λ x. not (has_element ys x)) xs (λ x. ap not (has_element-in_order ys x))

-- the operations give lists without repeats
distinct-cond : (b : Bool) (x : ℤ) (xs : List ℤ) → has_element xs x ≡ false → IsDistinct int_eq xs → IsDistinct int_eq (if b then x ∷ xs else xs)
unfolding IsDistinct
distinct-cond true x xs h k = (all_differ x xs h, k)
distinct-cond false x xs h k = k

pub IsDistinct-filter : (p : ℤ → Bool) (xs : List ℤ) → IsDistinct int_eq xs → IsDistinct int_eq (filter p xs)
unfolding IsDistinct
IsDistinct-filter p [] h = tt
IsDistinct-filter p (x ∷ xs) h = distinct-cond (p x) x (filter p xs) (has_element-filter p xs x ∙ ap (λ b. b && p x) (absent x xs h.0)) (IsDistinct-filter p xs h.1)

without-placed : (x : ℤ) (xs ys : List ℤ) → has_element xs x ≡ false → has_element ys x ≡ false → has_element (xs ++ ys) x ≡ false
without-placed x [] ys h k = k
without-placed x (z ∷ zs) ys h k =
    let f = or_false (int_eq x z) (has_element zs x) h in
    ap (λ b. b || has_element (zs ++ ys) x) f.0 ∙ without-placed x zs ys f.1 k

pub IsDistinct-append : (xs ys : List ℤ) → IsDistinct int_eq xs → IsDistinct int_eq ys → ((x : ℤ) → has_element xs x ≡ true → has_element ys x ≡ false) → IsDistinct int_eq (xs ++ ys)
unfolding IsDistinct
IsDistinct-append [] ys h k f = k
IsDistinct-append (x ∷ xs) ys h k f =
    (all_differ x (xs ++ ys) (without-placed x xs ys (absent x xs h.0) (f x (ap (λ b. b || has_element xs x) (itself x)))), IsDistinct-append xs ys h.1 k (λ z e. f z (ap (λ b. int_eq z x || b) e ∙ or_true (int_eq z x)))) where
      itself : (x : ℤ) → int_eq x x ≡ true
      itself x = grind (arith, ints)

      or_true : (b : Bool) → (b || true) ≡ true
      or_true true = refl
      or_true false = refl
