use Rattle.std.proofs.Common.{◌∙◌}
use Rattle.sc_tree.proofs.Climbing.{follow_on, applies_next, front_item}
use Rattle.sc_tree.proofs.climb.path_to.Goals as goal

pub walk_on-requires : goal.walk_on-requires
walk_on-requires c =
    applies_next c.args.problem.now c.loop-taken.path c.args.steps.now c.loop-taken.taken-index c.taken-item.result _ (front_item c.args.steps.now c.loop-taken.taken-index c.taken-item.result c.loop-taken-test.true c.taken-item.is) c.loop-taken.invariant.told c.requires

pub loop-taken-preserved : goal.loop-taken-preserved
loop-taken-preserved c =
    let on = follow_on c.args.problem.now c.loop-taken.path c.walk_on.new.path c.args.steps.now c.loop-taken.taken-index c.taken-item.result _ (front_item c.args.steps.now c.loop-taken.taken-index c.taken-item.result c.loop-taken-test.true c.taken-item.is) c.loop-taken.invariant.told c.requires c.in-Ok.ensures in
    record { told = on.0; roots = on.1 ∙ c.loop-taken.invariant.roots }
