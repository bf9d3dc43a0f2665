use Rattle.sc_tree.specs.Machine.{state}
use Rattle.sc_tree.proofs.Kept.{leaf_there, not_ok}
use Rattle.sc_tree.proofs.tree.Tree.answer.Goals as goal

pub returns-in-Err-clause-sure : goal.returns-in-Err-clause-sure
returns-in-Err-clause-sure c = λ room.
    let h = leaf_there c.args.self.now.problem c.args.self.now.budget (state c.args.self.now) c.args.seat c.args.event c.requires.may room in
    absurd (not_ok _ _ c.in-Err.is (c.end.ensures.sure h.0 h.1))
