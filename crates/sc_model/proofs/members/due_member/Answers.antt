use Rattle.std.proofs.Common.{◌≡◌, true, sym, ◌∙◌}
use Rattle.sc_model.specs.Modelling.{label_in}
use Rattle.sc_model.specs.Deciding.{IsDue, FollowsIn}
use Rattle.sc_model.proofs.Following.{all_next, kept_none}
use Rattle.sc_model.proofs.members.due_member.Goals as goal

pub loop-place-preserved : goal.loop-place-preserved
loop-place-preserved c = all_next (FollowsIn c.args.problem.now c.args.path.now.facts (label_in c.args.labels.now)) c.loop-place.place c.loop-place.invariant (kept_none (IsDue c.args.problem.now c.args.path.now.facts) c.in_ok-due.due (sym c.is_some.ensures ∙ c.if-is_some.false) c.in_ok-due.ensures)
