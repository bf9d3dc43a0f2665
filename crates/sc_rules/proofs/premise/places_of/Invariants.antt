use Rattle.std.proofs.Common.{◌≡◌, [], drop}
use Rattle.sc_rules.specs.Needs as spec
use Rattle.sc_rules.proofs.premise.places_of.Given as goal

abbrev pub invariant-loop-fact : goal.invariant-loop-fact
invariant-loop-fact l = spec.places_from l.path.facts l.places.items (drop l.fact-index l.facts) ≡ spec.places_from l.path.facts [] l.facts
