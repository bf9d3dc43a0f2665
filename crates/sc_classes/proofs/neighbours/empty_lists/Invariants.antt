use Rattle.std.proofs.Common.{◌≡◌, ℕ, [], length}
use Rattle.sc_classes.specs.Forests.{held_at}
use Rattle.sc_classes.proofs.neighbours.empty_lists.Given as goal

abbrev pub invariant-loop-number : goal.invariant-loop-number
invariant-loop-number l =
    record {
      count : length l.lists.items ≡ l.number;
      none : (n : ℕ) → held_at l.lists.items n ≡ [];
    }
