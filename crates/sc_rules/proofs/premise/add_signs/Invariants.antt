use Rattle.std.proofs.Common.{◌≡◌, ◌++◌, drop}
use Rattle.sc_rules.specs.Needs as spec
use Rattle.sc_rules.proofs.premise.add_signs.Given as goal

abbrev pub invariant-loop-formula : goal.invariant-loop-formula
invariant-loop-formula l = l.facts ++ spec.signs (drop l.formula-index l.formulas) l.sign ≡ l.fn.facts ++ spec.signs l.fn.formulas l.fn.sign
