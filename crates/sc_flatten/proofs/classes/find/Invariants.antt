use Rattle.sc_flatten.proofs.Hanging.{FindStands}
use Rattle.sc_flatten.proofs.classes.find.Given as goal

abbrev pub invariant-loop-parents : goal.invariant-loop-parents
invariant-loop-parents l = FindStands l.fn.parents l.fn.number l.parents l.at

abbrev pub decreases-loop-parents : goal.decreases-loop-parents
decreases-loop-parents l = l.at
