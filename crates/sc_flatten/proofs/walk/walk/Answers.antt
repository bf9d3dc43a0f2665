use Rattle.sc_flatten.proofs.Walking.{walk_starts, visited_keeps, visited_less}
use Rattle.sc_flatten.proofs.walk.walk.Goals as goal

pub loop-number-init : goal.loop-number-init
loop-number-init c = walk_starts c.args.bank.now c.len-count.ensures.bank c.args.assertions.now c.new-met.result.keys c.new-pending.result c.push_all.new.self c.requires c.new-met.ensures.empty c.new-pending.ensures c.in_ok-push_all.ensures

pub loop-number-smaller : goal.loop-number-smaller
loop-number-smaller c = visited_less c.args.bank.now c.len-count.ensures.bank c.args.assertions.now c.in-Some.number c.loop-number.met.keys c.loop-number.pending c.pop.new.self c.visit.new.met.keys c.visit.new.pending (c.pop.ensures.some c.in-Some.number c.in-Some.is) c.in_ok-visit.ensures.met c.in_ok-visit.ensures.pending c.loop-number.invariant

pub loop-number-preserved : goal.loop-number-preserved
loop-number-preserved c = visited_keeps c.args.bank.now c.len-count.ensures.bank c.args.assertions.now c.in-Some.number c.loop-number.met.keys c.loop-number.pending c.pop.new.self c.visit.new.met.keys c.visit.new.pending (c.pop.ensures.some c.in-Some.number c.in-Some.is) c.in_ok-visit.ensures.met c.in_ok-visit.ensures.pending c.loop-number.invariant
