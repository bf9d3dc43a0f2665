use Rattle.std.proofs.Common.{◌≡◌, ◌++◌, drop}
use Rattle.sc_elab.specs.Elab as spec
use Rattle.sc_elab.proofs.apply.numbers.Given as goal

abbrev pub invariant-loop-term : goal.invariant-loop-term
invariant-loop-term l = l.made ++ spec.numbers (drop l.term-index l.terms) ≡ spec.numbers l.terms
