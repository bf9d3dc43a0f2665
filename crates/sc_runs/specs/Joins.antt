-- One more span after others that begin no higher.
use Rattle.std.specs.Prelude.{◌≡◌, Bool, ◌||◌, ℤ, pos, ◌+ℤ◌, ◌≤ℤ◌, int_lt, List, [], ◌∷◌, ⊤}
use Rattle.std.specs.Int.{int_max}
use Rattle.std.specs.List.{AllByRecursion}
use Rattle.sc_base.specs.declared.span.Span.{Span}
use Rattle.sc_base.specs.Spans.{contains_value, covers, AreApart}

-- a number lies between the two
abbrev pub is_past : Span → Span → Bool
is_past s t = int_lt (s.high +ℤ pos 1) t.low

abbrev pub lengthened : Span → Span → Span
lengthened s t = record { low = s.low; high = int_max s.high t.high }

-- no span begins above a
abbrev pub BeginsBy : ℤ → List Span → Type 0
BeginsBy a ss = AllByRecursion (λ s. s.low ≤ℤ a) ss

-- no span begins above the next one of the list
abbrev pub Goes : List Span → List Span → Type 0
Goes all [] = ⊤
Goes all (s ∷ ss) = BeginsBy s.low all

-- the new spans hold what the old ones and one more hold
pub record IsJoined (old : List Span) (more : Span) (new : List Span) : Type 0 where
  pub apart : AreApart new
  pub values : (x : ℤ) → covers new x ≡ (covers old x || contains_value x more)
  pub starts : BeginsBy more.low new
