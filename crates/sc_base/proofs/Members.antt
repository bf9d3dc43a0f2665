-- The values of spans that are apart: ascending, each once.
use Rattle.std.proofs.Common.{◌≡◌, ◌+◌, false, ◌&&◌, ◌||◌, ℤ, pos, ◌+ℤ◌, ◌-ℤ◌, ◌<ℤ◌, ◌≤ℤ◌, List, [], ◌∷◌, refl, ap, ◌∙◌, arith}
use Rattle.std.specs.Prelude.{int_lt, int_le, unsigned_abs}
use Rattle.std.specs.List.{AllByRecursion, IsDistinct}
use Rattle.std.specs.Ordering.{int_eq}
use Rattle.std.proofs.lemmas.Int.{ints}
use Rattle.std.proofs.lemmas.List.Folds.{list_any-append}
use Rattle.sc_base.specs.declared.span.Span.{Span}
use Rattle.sc_base.specs.Integers.{has_element, IsAscending, upward}
use Rattle.sc_base.specs.Spans.{covers, width, members, AreApart}
use Rattle.sc_base.proofs.Integers.{all_weaker, all-append, has_element-upward, above-upward, below-upward, IsAscending-upward, IsAscending-append, ascending_same, int_eq-below}

-- an ascending list has no element twice
pub IsDistinct-ascending : (xs : List ℤ) → IsAscending xs → IsDistinct int_eq xs
unfolding IsDistinct
IsDistinct-ascending [] h = tt
IsDistinct-ascending (x ∷ xs) h = (all_weaker (λ y. x <ℤ y) (λ y. int_eq x y ≡ false) (λ y g. int_eq-below x y g) xs h.0, IsDistinct-ascending xs h.1)

span_holds : (a b x : ℤ) → a ≤ℤ b → (int_le a x && int_lt x (a +ℤ pos (unsigned_abs (b -ℤ a) + 1))) ≡ (int_le a x && int_le x b)
span_holds a b x h = grind (arith, ints)

pub has_element-members : (ss : List Span) → AreApart ss → (x : ℤ) → has_element (members ss) x ≡ covers ss x
has_element-members [] h x = refl
has_element-members (s ∷ ss) h x =
    list_any-append (int_eq x) (upward s.low (width s + 1)) (members ss)
    ∙ (ap (λ b. b || has_element (members ss) x) (has_element-upward s.low (width s + 1) x ∙ span_holds s.low s.high x h.0.ordered)
    ∙ ap (λ b. (int_le s.low x && int_le x s.high) || b) (has_element-members ss h.2 x))

-- a value below all spans is below all their values
pub above-members : (x : ℤ) (ss : List Span) → AllByRecursion (λ t. x <ℤ t.low) ss → AllByRecursion (λ y. x <ℤ y) (members ss)
above-members x [] h = tt
above-members x (s ∷ ss) h = all-append (λ y. x <ℤ y) (upward s.low (width s + 1)) (members ss) (above-upward x s.low (width s + 1) h.0) (above-members x ss h.1)

span_ends : (a b : ℤ) → a ≤ℤ b → (a +ℤ pos (unsigned_abs (b -ℤ a) + 1)) ≤ℤ (b +ℤ pos 1)
span_ends a b h = omega (arith, ints)

pub IsAscending-members : (ss : List Span) → AreApart ss → IsAscending (members ss)
IsAscending-members [] h = tt
IsAscending-members (s ∷ ss) h =
    IsAscending-append (upward s.low (width s + 1)) (members ss)
    (IsAscending-upward s.low (width s + 1))
    (IsAscending-members ss h.2)
    (all_weaker (λ x. x <ℤ (s.high +ℤ pos 1)) (λ x. AllByRecursion (λ y. x <ℤ y) (members ss))
    (λ x g. all_weaker (λ y. (s.high +ℤ pos 1) <ℤ y) (λ y. x <ℤ y) (λ y k. omega (arith, ints)) (members ss) (above-members (s.high +ℤ pos 1) ss h.1))
    (upward s.low (width s + 1)) (below-upward s.low (width s + 1) (s.high +ℤ pos 1) (span_ends s.low s.high h.0.ordered)))

-- the values of spans that are apart have no repeats
pub IsDistinct-members : (ss : List Span) → AreApart ss → IsDistinct int_eq (members ss)
IsDistinct-members ss h = IsDistinct-ascending (members ss) (IsAscending-members ss h)

-- sets that hold the same values are the same lists
pub members_same : (ss : List Span) (xs : List ℤ) → AreApart ss → IsAscending xs → ((x : ℤ) → covers ss x ≡ has_element xs x) → members ss ≡ xs
members_same ss xs h k e = ascending_same (members ss) xs (IsAscending-members ss h) k (λ x. has_element-members ss h x ∙ e x)
