use Rattle.std.proofs.Common.{sym, ◌∙◌}
use Rattle.sc_model.proofs.Following.{copy_concludes}
use Rattle.sc_model.proofs.links.new_step.Goals as goal

pub returns-then-new : goal.returns-then-new
returns-then-new c = copy_concludes c.args.problem.now c.args.path.now.facts c.args.step.now c.in_ok-copy.copy c.in_ok-copy.ensures.cases (sym c.in_ok-new.ensures ∙ c.if-new.true)
