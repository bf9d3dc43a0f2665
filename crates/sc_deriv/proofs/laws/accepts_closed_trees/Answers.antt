use Rattle.sc_deriv.proofs.Trees.{accepts_closed_trees}
use Rattle.sc_deriv.proofs.laws.accepts_closed_trees.Goals as goal

pub returns : goal.returns
returns c = accepts_closed_trees
