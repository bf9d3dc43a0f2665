-- Lists of integers: their order, and what they hold.
use Rattle.std.proofs.Common.{◌≡◌, ℕ, zero, suc, Bool, true, false, ◌&&◌, ◌||◌, cond, ℤ, pos, ◌+ℤ◌, ◌<ℤ◌, ◌≤ℤ◌, List, [], ◌∷◌, ◌++◌, length, refl, sym, ap, ◌∙◌, arith}
use Rattle.std.specs.Prelude.{int_lt, int_le, filter, if◌then◌else◌}
use Rattle.std.specs.List.{AllByRecursion}
use Rattle.std.specs.Ordering.{int_eq}
use Rattle.std.proofs.lemmas.Int.{ints, by_lt_z}
use Rattle.std.proofs.lemmas.Bool.{false≢true}
use Rattle.sc_base.specs.Integers.{has_element, IsAscending, upward, placed, in_order}

-- ---- facts of each element
pub all_weaker : {X : Type 0} (P Q : X → Type 0) → ((x : X) → P x → Q x) → (xs : List X) → AllByRecursion P xs → AllByRecursion Q xs
all_weaker P Q f [] h = tt
all_weaker P Q f (x ∷ xs) h = (f x h.0, all_weaker P Q f xs h.1)

pub all-append : {X : Type 0} (P : X → Type 0) (xs ys : List X) → AllByRecursion P xs → AllByRecursion P ys → AllByRecursion P (xs ++ ys)
all-append P [] ys h k = k
all-append P (x ∷ xs) ys h k = (h.0, all-append P xs ys h.1 k)

all-filter : (P : ℤ → Type 0) (p : ℤ → Bool) (b : Bool) (x : ℤ) (xs : List ℤ) → P x → AllByRecursion P xs → AllByRecursion P (cond b (x ∷ xs) xs)
all-filter P p true x xs h k = (h, k)
all-filter P p false x xs h k = k

pub AllByRecursion-filter : (P : ℤ → Type 0) (p : ℤ → Bool) (xs : List ℤ) → AllByRecursion P xs → AllByRecursion P (filter p xs)
AllByRecursion-filter P p [] h = tt
AllByRecursion-filter P p (x ∷ xs) h = all-filter P p (p x) x (filter p xs) h.0 (AllByRecursion-filter P p xs h.1)

-- ---- so many numbers upward
upward_none : (a x : ℤ) → false ≡ (int_le a x && int_lt x (a +ℤ pos 0))
upward_none a x = grind (arith, ints)

upward_more : (a x : ℤ) (n : ℕ) → (int_eq x a || (int_le (a +ℤ pos 1) x && int_lt x ((a +ℤ pos 1) +ℤ pos n))) ≡ (int_le a x && int_lt x (a +ℤ pos (suc n)))
upward_more a x n = grind (arith, ints)

pub has_element-upward : (a : ℤ) (n : ℕ) (x : ℤ) → has_element (upward a n) x ≡ (int_le a x && int_lt x (a +ℤ pos n))
unfolding upward
has_element-upward a zero x = upward_none a x
has_element-upward a (suc n) x = ap (λ b. int_eq x a || b) (has_element-upward (a +ℤ pos 1) n x) ∙ upward_more a x n

pub above-upward : (x a : ℤ) (n : ℕ) → x <ℤ a → AllByRecursion (λ y. x <ℤ y) (upward a n)
unfolding upward
above-upward x a zero h = tt
above-upward x a (suc n) h = (h, above-upward x (a +ℤ pos 1) n (omega (arith, ints)))

pub below-upward : (a : ℤ) (n : ℕ) (b : ℤ) → (a +ℤ pos n) ≤ℤ b → AllByRecursion (λ x. x <ℤ b) (upward a n)
unfolding upward
below-upward a zero b h = tt
below-upward a (suc n) b h = (omega (arith, ints), below-upward (a +ℤ pos 1) n b (omega (arith, ints)))

pub IsAscending-upward : (a : ℤ) (n : ℕ) → IsAscending (upward a n)
unfolding upward
IsAscending-upward a zero = tt
IsAscending-upward a (suc n) = (above-upward a (a +ℤ pos 1) n (omega (arith, ints)), IsAscending-upward (a +ℤ pos 1) n)

pub length-upward : (a : ℤ) (n : ℕ) → length (upward a n) ≡ n
unfolding upward
length-upward a zero = refl
length-upward a (suc n) = ap suc (length-upward (a +ℤ pos 1) n)

-- ---- ascending lists
pub IsAscending-append : (xs ys : List ℤ) → IsAscending xs → IsAscending ys → AllByRecursion (λ x. AllByRecursion (λ y. x <ℤ y) ys) xs → IsAscending (xs ++ ys)
IsAscending-append [] ys p q h = q
IsAscending-append (x ∷ xs) ys p q h = (all-append (λ y. x <ℤ y) xs ys p.0 h.0, IsAscending-append xs ys p.1 q h.1)

pub int_eq-below : (x y : ℤ) → x <ℤ y → int_eq x y ≡ false
int_eq-below x y h = grind (arith, ints)

pub int_eq-above : (x y : ℤ) → y <ℤ x → int_eq x y ≡ false
int_eq-above x y h = grind (arith, ints)

pub int_eq-same : (x : ℤ) → int_eq x x ≡ true
int_eq-same x = grind (arith, ints)

pub same-int_eq : (x y : ℤ) → int_eq x y ≡ true → x ≡ y
same-int_eq x y h = grind (arith, ints)

pub none_below : (x : ℤ) (ys : List ℤ) → AllByRecursion (λ y. x <ℤ y) ys → has_element ys x ≡ false
none_below x [] h = refl
none_below x (y ∷ ys) h = rw (int_eq-below x y h.0) (none_below x ys h.1)

below_first : (x y : ℤ) (ys : List ℤ) → x <ℤ y → AllByRecursion (λ z. y <ℤ z) ys → has_element (y ∷ ys) x ≡ false
below_first x y ys h k = none_below x (y ∷ ys) (h, all_weaker (λ z. y <ℤ z) (λ z. x <ℤ z) (λ z g. omega (arith, ints)) ys k)

first_same : (x y : ℤ) (xs ys : List ℤ) → AllByRecursion (λ z. x <ℤ z) xs → AllByRecursion (λ z. y <ℤ z) ys → has_element (x ∷ xs) y ≡ true → has_element (y ∷ ys) x ≡ true → x ≡ y
first_same x y xs ys p q h k =
    by_lt_z x y
    (λ lt. absurd (false≢true (sym (below_first x y ys lt q) ∙ k)))
    (λ le. by_lt_z y x (λ lt. absurd (false≢true (sym (below_first y x xs lt p) ∙ h))) (λ ge. omega (arith, ints)))

-- what the rest of two lists with equal heads holds
pub rest_same : (c s t : Bool) → (c ≡ true → s ≡ t) → (c || s) ≡ (c || t) → s ≡ t
rest_same true s t h e = h refl
rest_same false s t h e = e

missing : (x z : ℤ) (xs : List ℤ) → AllByRecursion (λ y. x <ℤ y) xs → int_eq z x ≡ true → has_element xs z ≡ false
missing x z xs h e = rw (same-int_eq z x e) (none_below x xs h)

-- an ascending list is known by what it holds
pub ascending_same : (xs ys : List ℤ) → IsAscending xs → IsAscending ys → ((x : ℤ) → has_element xs x ≡ has_element ys x) → xs ≡ ys
ascending_same [] [] p q h = refl
ascending_same [] (y ∷ ys) p q h = absurd (false≢true (h y ∙ ap (λ b. b || has_element ys y) (int_eq-same y)))
ascending_same (x ∷ xs) [] p q h = absurd (false≢true (sym (h x) ∙ ap (λ b. b || has_element xs x) (int_eq-same x)))
ascending_same (x ∷ xs) (y ∷ ys) p q h =
    let e : x ≡ y = first_same x y xs ys p.0 q.0 (h y ∙ ap (λ b. b || has_element ys y) (int_eq-same y)) (sym (h x) ∙ ap (λ b. b || has_element xs x) (int_eq-same x)) in
    let rest : xs ≡ ys = ascending_same xs ys p.1 q.1 (λ z. rest_same (int_eq z x) (has_element xs z) (has_element ys z) (λ t. missing x z xs p.0 t ∙ sym (missing y z ys q.0 (ap (int_eq z) (sym e) ∙ t))) (h z ∙ ap (λ w. int_eq z w || has_element ys z) (sym e))) in
    λ i. e i ∷ rest i

-- ---- filters
guarded_in : (c h q : Bool) → (c ≡ true → q ≡ true) → (c || (h && q)) ≡ ((c || h) && q)
guarded_in true h q f = sym (f refl)
guarded_in false h q f = refl

guarded_out : (c h q : Bool) → (c ≡ true → q ≡ false) → (h && q) ≡ ((c || h) && q)
guarded_out true true q f = refl
guarded_out true false q f = sym (f refl)
guarded_out false h q f = refl

has-filter_more : (p : ℤ → Bool) (x y : ℤ) (ys rest : List ℤ) (b : Bool) → p y ≡ b → has_element rest x ≡ (has_element ys x && p x) → has_element (cond b (y ∷ rest) rest) x ≡ ((int_eq x y || has_element ys x) && p x)
has-filter_more p x y ys rest true e h = ap (λ v. int_eq x y || v) h ∙ guarded_in (int_eq x y) (has_element ys x) (p x) (λ t. ap p (same-int_eq x y t) ∙ e)
has-filter_more p x y ys rest false e h = h ∙ guarded_out (int_eq x y) (has_element ys x) (p x) (λ t. ap p (same-int_eq x y t) ∙ e)

pub has_element-filter : (p : ℤ → Bool) (xs : List ℤ) (x : ℤ) → has_element (filter p xs) x ≡ (has_element xs x && p x)
has_element-filter p [] x = refl
has_element-filter p (y ∷ ys) x = has-filter_more p x y ys (filter p ys) (p y) refl (has_element-filter p ys x)

ascending-cond : (b : Bool) (x : ℤ) (xs : List ℤ) → AllByRecursion (λ y. x <ℤ y) xs → IsAscending xs → IsAscending (cond b (x ∷ xs) xs)
ascending-cond true x xs h k = (h, k)
ascending-cond false x xs h k = k

pub IsAscending-filter : (p : ℤ → Bool) (xs : List ℤ) → IsAscending xs → IsAscending (filter p xs)
IsAscending-filter p [] h = tt
IsAscending-filter p (x ∷ xs) h = ascending-cond (p x) x (filter p xs) (AllByRecursion-filter (λ y. x <ℤ y) p xs h.0) (IsAscending-filter p xs h.1)

-- ---- in order
or_swap : (a b c : Bool) → (a || (b || c)) ≡ (b || (a || c))
or_swap true true c = refl
or_swap true false c = refl
or_swap false b c = refl

or_again : (a b c : Bool) → (b ≡ true → a ≡ true) → (a || c) ≡ (b || (a || c))
or_again a true c f = rw (f refl) refl
or_again a false c f = refl

has-placed_step : (z x y : ℤ) (ys : List ℤ) (s t : Bool) → int_lt x y ≡ s → int_lt y x ≡ t → has_element (placed x ys) z ≡ (int_eq z x || has_element ys z) → has_element (if s then x ∷ y ∷ ys else (if t then y ∷ placed x ys else y ∷ ys)) z ≡ (int_eq z x || has_element (y ∷ ys) z)
has-placed_step z x y ys true t e f h = refl
has-placed_step z x y ys false true e f h = ap (λ b. int_eq z y || b) h ∙ or_swap (int_eq z y) (int_eq z x) (has_element ys z)
has-placed_step z x y ys false false e f h =
    let same : x ≡ y = grind (arith, ints) in
    or_again (int_eq z y) (int_eq z x) (has_element ys z) (λ k. ap (int_eq z) (sym same) ∙ k)

pub has_element-placed : (x : ℤ) (ys : List ℤ) (z : ℤ) → has_element (placed x ys) z ≡ (int_eq z x || has_element ys z)
has_element-placed x [] z = refl
has_element-placed x (y ∷ ys) z = has-placed_step z x y ys (int_lt x y) (int_lt y x) refl refl (has_element-placed x ys z)

pub has_element-in_order : (xs : List ℤ) (z : ℤ) → has_element (in_order xs) z ≡ has_element xs z
has_element-in_order [] z = refl
has_element-in_order (x ∷ xs) z = has_element-placed x (in_order xs) z ∙ ap (λ b. int_eq z x || b) (has_element-in_order xs z)

all-placed_step : (P : ℤ → Type 0) (x y : ℤ) (ys zs : List ℤ) (s t : Bool) → P x → P y → AllByRecursion P ys → AllByRecursion P zs → AllByRecursion P (if s then x ∷ y ∷ ys else (if t then y ∷ zs else y ∷ ys))
all-placed_step P x y ys zs true t p q h k = (p, (q, h))
all-placed_step P x y ys zs false true p q h k = (q, k)
all-placed_step P x y ys zs false false p q h k = (q, h)

all-placed : (P : ℤ → Type 0) (x : ℤ) (ys : List ℤ) → P x → AllByRecursion P ys → AllByRecursion P (placed x ys)
all-placed P x [] p h = (p, tt)
all-placed P x (y ∷ ys) p h = all-placed_step P x y ys (placed x ys) (int_lt x y) (int_lt y x) p h.0 h.1 (all-placed P x ys p h.1)

ascending-placed_step : (x y : ℤ) (ys : List ℤ) (s t : Bool) → int_lt x y ≡ s → int_lt y x ≡ t → IsAscending (y ∷ ys) → IsAscending (placed x ys) → IsAscending (if s then x ∷ y ∷ ys else (if t then y ∷ placed x ys else y ∷ ys))
ascending-placed_step x y ys true t e f h k =
    let below : x <ℤ y = grind (arith, ints) in
    ((below, all_weaker (λ z. y <ℤ z) (λ z. x <ℤ z) (λ z g. omega (arith, ints)) ys h.0), h)
ascending-placed_step x y ys false true e f h k =
    let below : y <ℤ x = grind (arith, ints) in
    (all-placed (λ z. y <ℤ z) x ys below h.0, k)
ascending-placed_step x y ys false false e f h k = h

pub IsAscending-placed : (x : ℤ) (ys : List ℤ) → IsAscending ys → IsAscending (placed x ys)
IsAscending-placed x [] h = (tt, tt)
IsAscending-placed x (y ∷ ys) h = ascending-placed_step x y ys (int_lt x y) (int_lt y x) refl refl h (IsAscending-placed x ys h.1)

pub IsAscending-in_order : (xs : List ℤ) → IsAscending (in_order xs)
IsAscending-in_order [] = tt
IsAscending-in_order (x ∷ xs) = IsAscending-placed x (in_order xs) (IsAscending-in_order xs)
