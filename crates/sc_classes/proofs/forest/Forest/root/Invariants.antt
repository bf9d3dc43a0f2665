use Rattle.std.proofs.Common.{◌≡◌, ◌≤◌, ◌-◌, length}
use Rattle.std.specs.Prelude.{slice_index}
use Rattle.sc_classes.specs.Classes.{least_of}
use Rattle.sc_classes.proofs.forest.Forest.root.Given as goal

abbrev pub invariant-loop-at : goal.invariant-loop-at
invariant-loop-at l =
    record {
      within : l.at ≤ l.last;
      same : least_of l.self.pairs.items l.at ≡ least_of l.self.pairs.items l.number;
    }

abbrev pub decreases-loop-at : goal.decreases-loop-at
decreases-loop-at l = length l.self.pairs.items - slice_index l.self.ranks.items l.at
