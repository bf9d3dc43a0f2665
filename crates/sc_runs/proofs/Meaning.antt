-- The words of the contracts, as membership and order.
use Rattle.std.proofs.Common.{◌≡◌, ℕ, zero, suc, ◌^◌, Bool, true, false, not, ◌&&◌, ◌||◌, ℤ, pos, ◌+ℤ◌, ◌<ℤ◌, ◌≤ℤ◌, ◌⊎◌, inl, inr, List, [], ◌∷◌, ◌++◌, reverse, refl, sym, ap, ◌∙◌, arith}
use Rattle.std.specs.Prelude.{int_lt, int_le, filter, ◌↔◌}
use Rattle.std.specs.List.{All, AllByRecursion, AllPairs, Any, Contains}
use Rattle.std.specs.Ordering.{int_eq}
use Rattle.std.proofs.lemmas.Int.{ints}
use Rattle.std.proofs.lemmas.Bool.{false≢true}
use Rattle.std.proofs.lemmas.Cmp.{int_eq_equiv}
use Rattle.std.proofs.lemmas.Map.Views.{list_any-from_Contains, Contains-from_any}
use Rattle.std.proofs.lemmas.List.{reverse-append}
use Rattle.std.proofs.lemmas.List.Elements.{All-from_recursion, recursion_from_All}
use Rattle.std.proofs.lemmas.List.Folds.{list_any-append, Any-from_list_any, list_any-from_Any}
use Rattle.std.proofs.lemmas.List.Kept.{AllPairs-cons, AllPairs-filter}
use Rattle.sc_base.specs.declared.span.Span.{Span}
use Rattle.sc_base.specs.Integers.{lowest, highest, has_element, without, IsAscending, in_order, upward, fresh_values}
use Rattle.sc_base.specs.Spans.{contains_value, members, AreApart}
use Rattle.sc_base.proofs.Bools.{and_true, or_true}
use Rattle.sc_base.proofs.Integers.{same-int_eq, all_weaker, all-append, ascending_same, has_element-in_order, has_element-filter, has_element-upward, below-upward, IsAscending-upward}
use Rattle.sc_base.proofs.Members.{has_element-members}
use Rattle.sc_runs.specs.Fresh.{Precedes}
use Rattle.sc_runs.proofs.Sets.{has_element-joined, has-reverse}

-- ---- membership
pub found : (xs : List ℤ) (x : ℤ) → Contains xs x → has_element xs x ≡ true
found xs x c = list_any-from_Contains int_eq_equiv x xs c

pub held : (xs : List ℤ) (x : ℤ) → has_element xs x ≡ true → Contains xs x
held xs x e = Contains-from_any same-int_eq x xs e

or_held : (a b : Bool) → (a ≡ true) ⊎ (b ≡ true) → (a || b) ≡ true
or_held true b h = refl
or_held false b (inl e) = absurd (false≢true e)
or_held false b (inr e) = e

and_held : (a b : Bool) → a ≡ true → b ≡ true → (a && b) ≡ true
and_held true b e f = f
and_held false b e f = absurd (false≢true e)

not_true : (b : Bool) → not b ≡ true → b ≡ true → ⊥
not_true true e f = false≢true e
not_true false e f = false≢true f

none_true : (b : Bool) → (b ≡ true → ⊥) → not b ≡ true
none_true true f = absurd (f refl)
none_true false f = refl

either_in : (zs xs ys : List ℤ) (x : ℤ) → has_element zs x ≡ (has_element xs x || has_element ys x) → Contains zs x ↔ (Contains xs x ⊎ Contains ys x)
either_in zs xs ys x e = (
  λ c. elim (or_true (has_element xs x) (has_element ys x) (sym e ∙ found zs x c)) [ inl a ↦ inl (held xs x a) | inr b ↦ inr (held ys x b) ],
  λ d. held zs x (e ∙ or_held (has_element xs x) (has_element ys x) (elim d [ inl a ↦ inl (found xs x a) | inr b ↦ inr (found ys x b) ])),
)

pub in_union : (xs ys : List ℤ) (x : ℤ) → Contains (in_order (xs ++ without ys xs)) x ↔ (Contains xs x ⊎ Contains ys x)
in_union xs ys x = either_in (in_order (xs ++ without ys xs)) xs ys x (has_element-in_order (xs ++ without ys xs) x ∙ has_element-joined xs ys x)

pub in_inter : (xs ys : List ℤ) (x : ℤ) → Contains (filter (has_element ys) xs) x ↔ (Contains xs x × Contains ys x)
in_inter xs ys x = (
  λ c. let p = and_true (has_element xs x) (has_element ys x) (sym (has_element-filter (has_element ys) xs x) ∙ found (filter (has_element ys) xs) x c) in (held xs x p.0, held ys x p.1),
  λ d. held (filter (has_element ys) xs) x (has_element-filter (has_element ys) xs x ∙ and_held (has_element xs x) (has_element ys x) (found xs x d.0) (found ys x d.1)),
)

pub in_minus : (xs ys : List ℤ) (x : ℤ) → Contains (without xs ys) x ↔ (Contains xs x × (Contains ys x → ⊥))
in_minus xs ys x =
    let e : has_element (without xs ys) x ≡ (has_element xs x && not (has_element ys x)) = has_element-filter (λ y. not (has_element ys y)) xs x in (
      λ c. let p = and_true (has_element xs x) (not (has_element ys x)) (sym e ∙ found (without xs ys) x c) in (held xs x p.0, λ d. not_true (has_element ys x) p.1 (found ys x d)),
      λ d. held (without xs ys) x (e ∙ and_held (has_element xs x) (not (has_element ys x)) (found xs x d.0) (none_true (has_element ys x) (λ f. d.1 (held ys x f)))),
    )

pub in_sorted : (xs : List ℤ) (x : ℤ) → Contains (in_order xs) x ↔ Contains xs x
in_sorted xs x = (
  λ c. held xs x (sym (has_element-in_order xs x) ∙ found (in_order xs) x c),
  λ c. held (in_order xs) x (has_element-in_order xs x ∙ found xs x c),
)

both_ways : (a b : Bool) → (a ≡ true → b ≡ true) → (b ≡ true → a ≡ true) → a ≡ b
both_ways true b f g = sym (f refl)
both_ways false true f g = g refl
both_ways false false f g = refl

pub ascending_known : (xs ys : List ℤ) → IsAscending xs → IsAscending ys → ((x : ℤ) → Contains xs x ↔ Contains ys x) → xs ≡ ys
ascending_known xs ys h k f =
    ascending_same xs ys h k (λ x. both_ways (has_element xs x) (has_element ys x) (λ e. found ys x ((f x).0 (held xs x e))) (λ e. found xs x ((f x).1 (held ys x e))))

range_says : (low high x : ℤ) → (int_le low x && int_lt x high) ≡ true → (low ≤ℤ x) × (x <ℤ high)
range_says low high x e =
    let p = and_true (int_le low x) (int_lt x high) e in
    let a = p.0 in
    let b = p.1 in
    (grind (arith, ints), grind (arith, ints))

range_has : (low high x : ℤ) → low ≤ℤ x → x <ℤ high → (int_le low x && int_lt x high) ≡ true
range_has low high x h k = grind (arith, ints)

pub in_upward : (low : ℤ) (count : ℕ) (x : ℤ) → Contains (upward low count) x ↔ ((low ≤ℤ x) × (x <ℤ (low +ℤ pos count)))
in_upward low count x = (
  λ c. range_says low (low +ℤ pos count) x (sym (has_element-upward low count x) ∙ found (upward low count) x c),
  λ d. held (upward low count) x (has_element-upward low count x ∙ range_has low (low +ℤ pos count) x d.0 d.1),
)

-- ---- spans
span_says : (low high x : ℤ) → (int_le low x && int_le x high) ≡ true → (low ≤ℤ x) × (x ≤ℤ high)
span_says low high x e =
    let p = and_true (int_le low x) (int_le x high) e in
    let a = p.0 in
    let b = p.1 in
    (grind (arith, ints), grind (arith, ints))

span_has : (low high x : ℤ) → low ≤ℤ x → x ≤ℤ high → (int_le low x && int_le x high) ≡ true
span_has low high x h k = grind (arith, ints)

any_weaker : {X : Type 0} (P Q : X → Type 0) → ((x : X) → P x → Q x) → (xs : List X) → Any P xs → Any Q xs
any_weaker P Q f xs a = (a.0, a.1, a.2, a.3, f a.1 a.4)

abbrev Holds : ℤ → Span → Type 0
Holds x s = (s.low ≤ℤ x) × (x ≤ℤ s.high)

pub in_members : (ss : List Span) (x : ℤ) → AreApart ss → Contains (members ss) x ↔ Any (λ (s : Span). (s.low ≤ℤ x) × (x ≤ℤ s.high)) ss
in_members ss x h = (
  λ c. any_weaker (λ s. contains_value x s ≡ true) (Holds x) (λ s e. span_says s.low s.high x e) ss (Any-from_list_any (contains_value x) ss (sym (has_element-members ss h x) ∙ found (members ss) x c)),
  λ a. held (members ss) x (has_element-members ss h x ∙ list_any-from_Any (contains_value x) ss (any_weaker (Holds x) (λ s. contains_value x s ≡ true) (λ s e. span_has s.low s.high x e.0 e.1) ss a)),
)

-- ---- order by pairs
abbrev Pairwise : (ℤ → ℤ → Type 0) → List ℤ → Type 0
Pairwise R [] = Unit {0}
Pairwise R (x ∷ xs) = AllByRecursion (R x) xs × Pairwise R xs

AllPairs-pairwise : (R : ℤ → ℤ → Type 0) (xs : List ℤ) → Pairwise R xs → AllPairs R xs
AllPairs-pairwise R [] h = λ i j d p q. absurd (omega arith)
AllPairs-pairwise R (x ∷ xs) h = AllPairs-cons R x xs (All-from_recursion (R x) xs h.0) (AllPairs-pairwise R xs h.1)

pairwise_append : (R : ℤ → ℤ → Type 0) (xs ys : List ℤ) → Pairwise R xs → Pairwise R ys → AllByRecursion (λ x. AllByRecursion (R x) ys) xs → Pairwise R (xs ++ ys)
pairwise_append R [] ys h k f = k
pairwise_append R (x ∷ xs) ys h k f = (all-append (R x) xs ys h.0 f.0, pairwise_append R xs ys h.1 k f.1)

all-reverse : (P : ℤ → Type 0) (xs : List ℤ) → AllByRecursion P xs → AllByRecursion P (reverse xs)
all-reverse P [] h = tt
all-reverse P (x ∷ xs) h = rw (reverse-append (x ∷ []) xs) (all-append P (reverse xs) (x ∷ []) (all-reverse P xs h.1) (h.0, tt))

pairwise_ascending : (xs : List ℤ) → IsAscending xs → Pairwise (λ x y. x <ℤ y) xs
pairwise_ascending [] h = tt
pairwise_ascending (x ∷ xs) h = (h.0, pairwise_ascending xs h.1)

pub ascending_pairs : (xs : List ℤ) → IsAscending xs → AllPairs (λ x y. x <ℤ y) xs
ascending_pairs xs h = AllPairs-pairwise (λ x y. x <ℤ y) xs (pairwise_ascending xs h)

later_pairs : (R : ℤ → ℤ → Type 0) (x : ℤ) (xs : List ℤ) → AllPairs R (x ∷ xs) → AllPairs R xs
later_pairs R x xs h = λ i j d p q. h (suc i) (suc j) d (omega arith) (omega arith)

head_pairs : (R : ℤ → ℤ → Type 0) (x : ℤ) (xs : List ℤ) → AllPairs R (x ∷ xs) → All (R x) xs
head_pairs R x xs h = λ k d p. h 0 (suc k) d (omega arith) (omega arith)

pub pairs_ascending : (xs : List ℤ) → AllPairs (λ x y. x <ℤ y) xs → IsAscending xs
pairs_ascending [] h = tt
pairs_ascending (x ∷ xs) h = (recursion_from_All (λ y. x <ℤ y) xs (head_pairs (λ x y. x <ℤ y) x xs h), pairs_ascending xs (later_pairs (λ x y. x <ℤ y) x xs h))

-- ---- fresh values
not_negative_from : (a : ℤ) (n : ℕ) → pos 0 ≤ℤ a → AllByRecursion (λ x. pos 0 ≤ℤ x) (upward a n)
unfolding upward
not_negative_from a zero h = tt
not_negative_from a (suc n) h = (h, not_negative_from (a +ℤ pos 1) n (omega (arith, ints)))

not_negative : (n : ℕ) → AllByRecursion (λ x. pos 0 ≤ℤ x) (upward (pos 0) n)
not_negative n = not_negative_from (pos 0) n (omega (arith, ints))

from_zero : (xs : List ℤ) → AllByRecursion (λ x. pos 0 ≤ℤ x) xs → IsAscending xs → Pairwise Precedes xs
from_zero [] h k = tt
from_zero (x ∷ xs) h k = (all_weaker (λ y. x <ℤ y) (Precedes x) (λ y l. inl (h.0, inl l)) xs k.0, from_zero xs h.1 k.1)

below_zero : (xs : List ℤ) → AllByRecursion (λ x. x <ℤ pos 0) xs → IsAscending xs → Pairwise Precedes (reverse xs)
below_zero [] h k = tt
below_zero (x ∷ xs) h k =
    rw (reverse-append (x ∷ []) xs)
    (pairwise_append Precedes (reverse xs) (x ∷ []) (below_zero xs h.1 k.1) (tt, tt)
    (all_weaker (λ y. (y <ℤ pos 0) × (x <ℤ y)) (λ y. AllByRecursion (Precedes y) (x ∷ [])) (λ y p. (inr p, tt)) (reverse xs) (all-reverse (λ y. (y <ℤ pos 0) × (x <ℤ y)) xs (both xs h.1 k.0)))) where
      both : (ys : List ℤ) → AllByRecursion (λ y. y <ℤ pos 0) ys → AllByRecursion (λ y. x <ℤ y) ys → AllByRecursion (λ y. (y <ℤ pos 0) × (x <ℤ y)) ys
      both [] h k = tt
      both (y ∷ ys) h k = ((h.0, k.0), both ys h.1 k.1)

in_turn : (n m : ℕ) (a : ℤ) → (a +ℤ pos m) ≤ℤ pos 0 → Pairwise Precedes (upward (pos 0) n ++ reverse (upward a m))
in_turn n m a h =
    let low : AllByRecursion (λ x. x <ℤ pos 0) (upward a m) = below-upward a m (pos 0) h in
    pairwise_append Precedes (upward (pos 0) n) (reverse (upward a m)) (from_zero (upward (pos 0) n) (not_negative n) (IsAscending-upward (pos 0) n)) (below_zero (upward a m) low (IsAscending-upward a m))
    (all_weaker (λ x. pos 0 ≤ℤ x) (λ x. AllByRecursion (Precedes x) (reverse (upward a m)))
    (λ x p. all_weaker (λ y. y <ℤ pos 0) (Precedes x) (λ y q. inl (p, inr q)) (reverse (upward a m)) (all-reverse (λ y. y <ℤ pos 0) (upward a m) low))
    (upward (pos 0) n) (not_negative n))

pub fresh_in_turn : (xs : List ℤ) → AllPairs Precedes (fresh_values xs)
fresh_in_turn xs =
    AllPairs-filter Precedes (λ x. not (has_element xs x)) (upward (pos 0) (2 ^ 127) ++ reverse (upward lowest (2 ^ 127)))
    (AllPairs-pairwise Precedes (upward (pos 0) (2 ^ 127) ++ reverse (upward lowest (2 ^ 127))) (in_turn (2 ^ 127) (2 ^ 127) lowest (omega (arith, ints))))

all_numbers : (x : ℤ) → ((int_le (pos 0) x && int_lt x (pos 0 +ℤ pos (2 ^ 127))) || (int_le lowest x && int_lt x (lowest +ℤ pos (2 ^ 127)))) ≡ (int_le lowest x && int_le x highest)
all_numbers x = grind (arith, ints)

has-fresh_values : (xs : List ℤ) (x : ℤ) → has_element (fresh_values xs) x ≡ ((int_le lowest x && int_le x highest) && not (has_element xs x))
has-fresh_values xs x =
    has_element-filter (λ y. not (has_element xs y)) (upward (pos 0) (2 ^ 127) ++ reverse (upward lowest (2 ^ 127))) x
    ∙ ap (λ b. b && not (has_element xs x))
    (list_any-append (int_eq x) (upward (pos 0) (2 ^ 127)) (reverse (upward lowest (2 ^ 127)))
    ∙ (ap (λ b. b || has_element (reverse (upward lowest (2 ^ 127))) x) (has_element-upward (pos 0) (2 ^ 127) x)
    ∙ (ap (λ b. (int_le (pos 0) x && int_lt x (pos 0 +ℤ pos (2 ^ 127))) || b) (has-reverse (upward lowest (2 ^ 127)) x ∙ has_element-upward lowest (2 ^ 127) x) ∙ all_numbers x)))

pub in_fresh : (xs : List ℤ) (x : ℤ) → Contains (fresh_values xs) x ↔ ((lowest ≤ℤ x) × (x ≤ℤ highest) × (Contains xs x → ⊥))
in_fresh xs x =
    let e = has-fresh_values xs x in (
      λ c. let p = and_true (int_le lowest x && int_le x highest) (not (has_element xs x)) (sym e ∙ found (fresh_values xs) x c) in let r = span_says lowest highest x p.0 in (r.0, r.1, λ d. not_true (has_element xs x) p.1 (found xs x d)),
      λ d. held (fresh_values xs) x (e ∙ and_held (int_le lowest x && int_le x highest) (not (has_element xs x)) (span_has lowest highest x d.0 d.1) (none_true (has_element xs x) (λ f. d.2 (held xs x f)))),
    )
