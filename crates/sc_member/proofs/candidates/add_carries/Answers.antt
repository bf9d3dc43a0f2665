use Rattle.std.proofs.Common.{arith}
use Rattle.sc_member.proofs.Adding.{carries_next, carries_all}
use Rattle.sc_member.proofs.candidates.add_carries.Goals as goal

pub loop-f-preserved : goal.loop-f-preserved
loop-f-preserved c = carries_next c.args.e c.args.s c.args.others.now c.loop-f.f-index c.loop-f.steps.items c.push.new.self.items _ c.loop-f-test.true c.in_ok-push.ensures.items c.loop-f.invariant

pub returns : goal.returns
returns c = carries_all c.args.e c.args.s c.args.others.now c.loop-f.f-index c.loop-f.steps.items _ (omega (arith, c.loop-f-test.false)) c.loop-f.invariant
