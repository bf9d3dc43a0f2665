use Rattle.std.proofs.Common.{◌≡◌, IfOk, subst, ◌∙◌}
use Rattle.sc_flatten.proofs.Ready.{order_range, ready, problem_is}
use Rattle.sc_flatten.proofs.assemble.prepare.Goals as goal

pub of-requires-clause-range : goal.of-requires-clause-range
of-requires-clause-range c = order_range c.args.bank.now c.len-count.ensures.bank c.args.assertions.now c.requires c.as_slice.result.now (c.as_slice.ensures.keys ∙ c.in_ok-order.ensures)

pub problem-requires : goal.problem-requires
problem-requires c = ready c.args.bank.now c.len-count.ensures.bank c.args.assertions.now c.requires c.in_ok-tables.tables c.as_slice.result.now (c.as_slice.ensures.keys ∙ c.in_ok-order.ensures) c.in_ok-tables.ensures

pub returns : goal.returns
returns c =
    subst (λ q. IfOk c.problem.result (λ p. p ≡ q))
    (problem_is c.args.bank.now c.len-count.ensures.bank c.args.assertions.now c.requires c.in_ok-tables.tables c.as_slice.result.now (c.as_slice.ensures.keys ∙ c.in_ok-order.ensures) c.in_ok-tables.ensures)
    c.problem.ensures
