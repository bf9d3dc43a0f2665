use Rattle.std.proofs.Common.{◌≡◌, drop, None}
use Rattle.sc_rules.specs.Needs as spec
use Rattle.sc_rules.proofs.premise.earliest_sign.Given as goal

abbrev pub invariant-loop-formula : goal.invariant-loop-formula
invariant-loop-formula l = spec.earliest l.path.facts l.best (spec.signs (drop l.formula-index l.formulas) l.sign) ≡ spec.earliest l.path.facts None (spec.signs l.formulas l.sign)
