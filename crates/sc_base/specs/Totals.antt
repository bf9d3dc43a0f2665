-- Sums past 128 bits.
use Rattle.std.specs.Prelude.{◌^◌, ℤ, pos, ◌+ℤ◌, ◌*ℤ◌}
use Rattle.sc_base.specs.declared.total.Total.{Total}

-- the number that a rest and so many turns of 2^128 make
abbrev pub amount : Total → ℤ
amount t = t.rest +ℤ (t.turns *ℤ pos (2 ^ 128))
