use Rattle.sc_flatten.proofs.Hanging.{find_step}
use Rattle.sc_flatten.proofs.classes.find.Goals as goal

pub loop-parents-preserved : goal.loop-parents-preserved
loop-parents-preserved c = find_step c.args.parents.now c.args.number c.loop-parents.parents c.loop-parents.at c.loop-parents-test.true c.loop-parents.invariant
