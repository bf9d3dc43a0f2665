use Rattle.std.proofs.Common.{sym, ◌∙◌}
use Rattle.sc_model.specs.Deciding.{IsDue}
use Rattle.sc_model.proofs.Forcing.{borne_next, none_due}
use Rattle.sc_model.proofs.signs.due_sign.Goals as goal

pub loop-place-preserved : goal.loop-place-preserved
loop-place-preserved c = borne_next c.args.problem.now c.args.path.now.facts c.loop-place.place c.loop-place.invariant (none_due (IsDue c.args.problem.now c.args.path.now.facts) c.due_at-due.result c.due_at-due.ensures (sym c.is_some.ensures ∙ c.if-is_some.false))
