use Rattle.std.proofs.Common.{◌<◌, length}
use Rattle.sc_classes.proofs.Along.{FollowsTo}
use Rattle.sc_classes.proofs.explain.long.Given as goal

abbrev pub invariant-loop-at : goal.invariant-loop-at
invariant-loop-at l =
    record {
      within : l.at < length l.visits;
      follows : FollowsTo l.visits l.e l.second l.at l.steps;
    }

abbrev pub decreases-loop-at : goal.decreases-loop-at
decreases-loop-at l = l.at
