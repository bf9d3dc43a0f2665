use Rattle.std.proofs.Common.{◌∙◌}
use Rattle.sc_classes.proofs.Near.{taken_back}
use Rattle.sc_classes.proofs.neighbours.connect.Goals as goal

pub returns-in-Err-clause-err : goal.returns-in-Err-clause-err
returns-in-Err-clause-err c =
    taken_back c.args.lists.now c.push_at-2.new.lists c.undo_at.new.lists c.args.first c.args.second c.requires.first (c.in-Err.ensures.err ∙ c.in_ok-push_at.ensures.ok) c.undo_at.ensures
