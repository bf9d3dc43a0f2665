use Rattle.std.proofs.Common.{◌≡◌, ◌++◌, drop}
use Rattle.sc_flatten.specs.Classes.{basis_in}
use Rattle.sc_flatten.proofs.components.basis.Given as goal

-- the basis so far, and that of what is left
abbrev pub invariant-loop-number : goal.invariant-loop-number
invariant-loop-number l = l.basis ++ basis_in l.sets (drop l.number-index l.number-items) ≡ basis_in l.sets l.component
