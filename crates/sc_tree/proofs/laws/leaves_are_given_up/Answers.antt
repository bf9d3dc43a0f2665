use Rattle.sc_tree.proofs.HoldingOn.{done_hold_none, over_hold_none}
use Rattle.sc_tree.proofs.laws.leaves_are_given_up.Goals as goal

pub returns-clause-done : goal.returns-clause-done
returns-clause-done c = done_hold_none

pub returns-clause-over : goal.returns-clause-over
returns-clause-over c = over_hold_none
