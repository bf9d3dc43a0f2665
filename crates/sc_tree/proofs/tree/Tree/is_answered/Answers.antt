use Rattle.sc_tree.proofs.Kept.{answered-told}
use Rattle.sc_tree.proofs.tree.Tree.is_answered.Goals as goal

pub returns : goal.returns
returns c = rw (← c.self.view_is, c.is_over.ensures, c.is_some.ensures, c.none_is_open.ensures, c.is_empty.ensures) (answered-told _ _ _ _ _ _ _ c.self.invariant.0)
