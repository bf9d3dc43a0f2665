use Rattle.std.proofs.Common.{arith}
use Rattle.sc_tree.proofs.Climbing.{climbed, lower}
use Rattle.sc_tree.proofs.climb.steps_to.Goals as goal

pub loop-number-smaller : goal.loop-number-smaller
loop-number-smaller c =
    let goes = c.requires.1 in
    lower c.args.places.now c.requires.0 c.loop-number.number c.in-Ok.parent _ _ _ goes.places_are goes.come (λ e. omega (arith, e, c.loop-number-test.true)) c.in-Ok.ensures (c.loop-number.invariant c.requires.0 goes)

pub loop-number-preserved : goal.loop-number-preserved
loop-number-preserved c cells goes =
    climbed c.args.places.now cells c.loop-number.number c.in-Ok.parent _ _ _ goes.places_are goes.come (λ e. omega (arith, e, c.loop-number-test.true)) c.in-Ok.ensures (c.loop-number.invariant cells goes)
