use Rattle.std.proofs.Common.{sym}
use Rattle.sc_sexpr.specs.Shapes.{shape}
use Rattle.sc_check.proofs.Tallying.{judged_if}
use Rattle.sc_check.proofs.judge.judge.Goals as goal

pub returns-in_ok-problem-in-Ok : goal.returns-in_ok-problem-in-Ok
returns-in_ok-problem-in-Ok c =
    judged_if c.accepts_closed_trees.ensures c.refuses_first_failure.ensures.first c.args.session.now.bank c.args.assertions.now (shape c.args.tree.now) c.in_ok-problem-in-Ok.problem c.in-Ok.derivation c.check.result
    (rw (sym c.bank.ensures, sym c.as_slice.ensures) c.in_ok-problem-in-Ok.ensures) c.in-Ok.ensures.exact c.in-Ok.ensures.spelt c.check.ensures.accepted c.check.ensures.refused
