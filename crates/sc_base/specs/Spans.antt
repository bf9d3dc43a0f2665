-- Ascending spans of integers that neither overlap nor touch.
use Rattle.std.specs.Prelude.{ℕ, zero, suc, ◌+◌, ◌-◌, Bool, ◌&&◌, if◌then◌else◌, ℤ, pos, ◌+ℤ◌, ◌-ℤ◌, ◌<ℤ◌, ◌≤ℤ◌, int_lt, int_le, nat_eq, nat_le, unsigned_abs, List, [], ◌∷◌, ◌++◌, ⊤}
use Rattle.std.specs.Int.{int_max, int_min}
use Rattle.std.specs.List.{list_any, AllByRecursion}
use Rattle.sc_base.specs.declared.span.Span.{Span}
use Rattle.sc_base.specs.Integers.{lowest, highest, upward}

abbrev pub contains_value : ℤ → Span → Bool
contains_value x s = int_le s.low x && int_le x s.high

-- whether x lies in a span
abbrev pub covers : List Span → ℤ → Bool
covers ss x = list_any (contains_value x) ss

-- one less than the number of the span's values
abbrev pub width : Span → ℕ
width s = unsigned_abs (s.high -ℤ s.low)

-- the values of the spans, one span after another
abbrev pub members : List Span → List ℤ
members [] = []
members (s ∷ ss) = upward s.low (width s + 1) ++ members ss

-- the span holds a value, and its values have 128 bits
pub record IsSpan (s : Span) : Type 0 where
  pub lower : lowest ≤ℤ s.low
  pub ordered : s.low ≤ℤ s.high
  pub upper : s.high ≤ℤ highest

-- each span of the list ends at least two below the next one's start
abbrev pub AreApart : List Span → Type 0
AreApart [] = ⊤
AreApart (s ∷ ss) = IsSpan s × AllByRecursion (λ t. (s.high +ℤ pos 1) <ℤ t.low) ss × AreApart ss

-- the numbers from a up to, and without, b
abbrev pub gap : ℤ → ℤ → List Span
gap a b = if int_lt a b then record { low = a; high = b -ℤ pos 1 } ∷ [] else []

-- the numbers of 128 bits from next on that lie in no span
abbrev pub gaps : ℤ → List Span → List Span
gaps next [] = gap next (highest +ℤ pos 1)
gaps next (s ∷ ss) = gap next s.low ++ gaps (s.high +ℤ pos 1) ss

-- what two spans share
abbrev pub overlap : Span → Span → List Span
overlap s t =
    let low = int_max s.low t.low in
    let high = int_min s.high t.high in
    if int_le low high then record { low = low; high = high } ∷ [] else []

-- what two lists of spans share, in at most so many steps
abbrev pub common : ℕ → List Span → List Span → List Span
common zero ss ts = []
common (suc n) [] ts = []
common (suc n) (s ∷ ss) [] = []
common (suc n) (s ∷ ss) (t ∷ ts) =
    overlap s t ++ (if int_lt s.high t.high then common n ss (t ∷ ts) else common n (s ∷ ss) ts)

-- the first n values
abbrev pub first_values : ℕ → List Span → List Span
first_values n [] = []
first_values n (s ∷ ss) =
    if nat_eq n 0
    then []
    else (if nat_le n (width s) then record { low = s.low; high = s.low +ℤ pos (n - 1) } ∷ [] else s ∷ first_values (n - (width s + 1)) ss)

-- all but the first n values
abbrev pub later_values : ℕ → List Span → List Span
later_values n [] = []
later_values n (s ∷ ss) = if nat_le n (width s) then record { low = s.low +ℤ pos n; high = s.high } ∷ ss else later_values (n - (width s + 1)) ss
