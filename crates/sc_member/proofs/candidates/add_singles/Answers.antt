use Rattle.std.proofs.Common.{arith}
use Rattle.sc_member.proofs.Adding.{singles_next, singles_all}
use Rattle.sc_member.proofs.candidates.add_singles.Goals as goal

pub loop-s-preserved : goal.loop-s-preserved
loop-s-preserved c = singles_next c.args.e c.args.sets.now c.loop-s.s-index c.loop-s.steps.items c.push.new.self.items _ c.loop-s-test.true c.in_ok-push.ensures.items c.loop-s.invariant

pub returns : goal.returns
returns c = singles_all c.args.e c.args.sets.now c.loop-s.s-index c.loop-s.steps.items _ (omega (arith, c.loop-s-test.false)) c.loop-s.invariant
