use Rattle.std.proofs.Common.{sym, ◌∙◌}
use Rattle.sc_model.proofs.Following.{lacking_concludes}
use Rattle.sc_model.proofs.steps.due_step.Goals as goal

pub returns-then-new : goal.returns-then-new
returns-then-new c = lacking_concludes c.args.problem.now c.args.path.now.facts c.args.step (sym c.in_ok-new.ensures ∙ c.if-new.true)
