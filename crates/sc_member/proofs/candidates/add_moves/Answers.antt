use Rattle.std.proofs.Common.{arith}
use Rattle.sc_member.proofs.Adding.{moves_next, moves_all}
use Rattle.sc_member.proofs.candidates.add_moves.Goals as goal

pub loop-t-preserved : goal.loop-t-preserved
loop-t-preserved c = moves_next c.args.e c.args.s c.args.others.now c.loop-t.t-index c.loop-t.steps.items c.push.new.self.items _ c.loop-t-test.true c.in_ok-push.ensures.items c.loop-t.invariant

pub returns : goal.returns
returns c = moves_all c.args.e c.args.s c.args.others.now c.loop-t.t-index c.loop-t.steps.items _ (omega (arith, c.loop-t-test.false)) c.loop-t.invariant
