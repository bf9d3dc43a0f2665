use Rattle.sc_tree.proofs.HoldingOn.{takes_hold}
use Rattle.sc_tree.proofs.laws.leaves_are_held.Goals as goal

pub returns-clause-takes : goal.returns-clause-takes
returns-clause-takes c = takes_hold
