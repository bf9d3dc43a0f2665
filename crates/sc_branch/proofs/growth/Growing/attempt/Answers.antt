use Rattle.std.proofs.Common.{◌<◌, sym, subst, ◌∙◌}
use Rattle.sc_branch.proofs.Steps.{attempt_goes}
use Rattle.sc_branch.proofs.growth.Growing.attempt.Goals as goal

pub returns-clause-goes : goal.returns-clause-goes
returns-clause-goes c =
    attempt_goes c.args.problem.now c.args.budget c.args.step c.in-Some.fact (record { path = c.self.inside.path; steps = c.self.inside.steps; chain = c.self.inside.chain }) c.args.self.now c.add.new.self c.self.view_is c.in_ok-add.ensures (sym c.fact_of.ensures ∙ c.in-Some.is) (sym c.has.ensures ∙ c.if-has.false) (subst (λ n. n < c.args.budget) c.len.ensures c.if-len-budget.false)
