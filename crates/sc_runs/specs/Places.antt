-- Places of values in a set that is kept as spans.
use Rattle.std.specs.Prelude.{◌≡◌, ℕ, ◌+◌, List, [], ◌∷◌}
use Rattle.sc_base.specs.declared.span.Span.{Span}
use Rattle.sc_base.specs.Spans.{width, AreApart}

-- the place of the last value of each span, where the first value of the first span is at the place n
abbrev pub last_places : ℕ → List Span → List ℕ
last_places n [] = []
last_places n (s ∷ ss) = (n + width s) ∷ last_places (n + width s + 1) ss

-- runs of a set, with the place of each run's last value
pub record AreRuns (spans : List Span) (lasts : List ℕ) : Type 0 where
  pub apart : AreApart spans
  pub placed : lasts ≡ last_places 0 spans
