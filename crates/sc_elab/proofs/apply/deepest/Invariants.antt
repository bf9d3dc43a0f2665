use Rattle.std.proofs.Common.{◌≡◌, drop, max}
use Rattle.sc_elab.specs.Elab as spec
use Rattle.sc_elab.proofs.apply.deepest.Given as goal

abbrev pub invariant-loop-term : goal.invariant-loop-term
invariant-loop-term l = max l.depth (spec.deepest (drop l.term-index l.terms)) ≡ spec.deepest l.terms
