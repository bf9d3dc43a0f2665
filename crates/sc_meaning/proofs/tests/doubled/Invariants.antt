use Rattle.std.proofs.Common.{◌≤◌, ◌-◌}
use Rattle.sc_terms.specs.Bank.{IsFormulaOf}
use Rattle.sc_meaning.proofs.tests.doubled.Given as goal

abbrev pub invariant-loop-made : goal.invariant-loop-made
invariant-loop-made l = record { last : IsFormulaOf l.bank l.last }

abbrev pub decreases-loop-made : goal.decreases-loop-made
decreases-loop-made l = l.count - l.made
