use Rattle.std.proofs.Common.{◌≡◌, ◌++◌, drop}
use Rattle.sc_linear.specs.Exact.{unless_wide}
use Rattle.sc_linear.specs.Rows.{opposite, opposite_operations}
use Rattle.sc_linear.proofs.rows.opposite.Given as goal

-- the terms so far are no reason for another answer, and with those that are left they are all
abbrev pub invariant-loop-term : goal.invariant-loop-term
invariant-loop-term l = unless_wide (opposite_operations (drop l.term-index l.form)) (l.terms.items ++ opposite (drop l.term-index l.form)) ≡ unless_wide (opposite_operations l.form) (opposite l.form)
