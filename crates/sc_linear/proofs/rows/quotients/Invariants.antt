use Rattle.std.proofs.Common.{◌≡◌, ◌++◌, drop}
use Rattle.sc_linear.specs.Rows.{quotients}
use Rattle.sc_linear.proofs.rows.quotients.Given as goal

abbrev pub invariant-loop-term : goal.invariant-loop-term
invariant-loop-term l = l.terms.items ++ quotients l.g (drop l.term-index l.form) ≡ quotients l.g l.form
