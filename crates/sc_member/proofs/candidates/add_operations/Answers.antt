use Rattle.std.proofs.Common.{arith}
use Rattle.sc_member.proofs.Adding.{operations_next, operations_all}
use Rattle.sc_member.proofs.candidates.add_operations.Goals as goal

pub loop-n-preserved : goal.loop-n-preserved
loop-n-preserved c = operations_next c.args.e c.args.numbers.now c.loop-n.n-index c.loop-n.steps.items c.add_operation.new.steps.items _ c.loop-n-test.true c.in_ok-add_operation.ensures c.loop-n.invariant

pub returns : goal.returns
returns c = operations_all c.args.e c.args.numbers.now c.loop-n.n-index c.loop-n.steps.items _ (omega (arith, c.loop-n-test.false)) c.loop-n.invariant
