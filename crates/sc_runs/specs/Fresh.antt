-- The order in which fresh numbers are taken.
use Rattle.std.specs.Prelude.{ℤ, pos, ◌<ℤ◌, ◌≤ℤ◌, ◌⊎◌}

-- 0, 1, 2 and so on, and after all of these -1, -2 and so on
abbrev pub Precedes : ℤ → ℤ → Type 0
Precedes x y = ((pos 0 ≤ℤ x) × ((x <ℤ y) ⊎ (y <ℤ pos 0))) ⊎ ((x <ℤ pos 0) × (y <ℤ x))
