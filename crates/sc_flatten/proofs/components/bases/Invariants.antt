use Rattle.std.proofs.Common.{◌≡◌, ◌++◌, drop}
use Rattle.sc_flatten.specs.Classes.{bases_of}
use Rattle.sc_flatten.proofs.components.bases.Given as goal

-- the bases so far, and those of the components that are left
abbrev pub invariant-loop-component : goal.invariant-loop-component
invariant-loop-component l = l.bases ++ bases_of l.sets (drop l.component-index l.components) ≡ bases_of l.sets l.components
