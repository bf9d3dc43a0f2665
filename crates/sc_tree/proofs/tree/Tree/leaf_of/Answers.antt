use Rattle.sc_tree.proofs.Kept.{leaf-told}
use Rattle.sc_tree.proofs.tree.Tree.leaf_of.Goals as goal

pub returns : goal.returns
returns c = rw (← c.self.view_is) (leaf-told _ _ _ _ _ _ _ _ _ c.self.invariant.0 c.leaf_of.ensures)
