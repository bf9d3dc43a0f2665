-- How many trees a list has.
use Rattle.std.specs.Prelude.{ℕ, zero, suc, Bool, true, false}
use Rattle.sc_sexpr.specs.Shapes.{Shapes, Empty, More}

abbrev pub count : Shapes → ℕ
count Empty = zero
count (More s rest) = suc (count rest)

abbrev pub is_end : Shapes → Bool
is_end Empty = true
is_end (More s rest) = false

abbrev pub is_one : Shapes → Bool
is_one Empty = false
is_one (More s rest) = is_end rest
