use Rattle.sc_tree.proofs.HoldingOn.{seats_hold_one}
use Rattle.sc_tree.proofs.laws.seats_hold_one.Goals as goal

pub returns-clause-one : goal.returns-clause-one
returns-clause-one c = seats_hold_one
