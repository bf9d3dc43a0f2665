use Rattle.sc_tree.proofs.Tried.{leaves_are_tried}
use Rattle.sc_tree.proofs.laws.leaves_are_tried.Goals as goal

pub returns : goal.returns
returns c = leaves_are_tried
