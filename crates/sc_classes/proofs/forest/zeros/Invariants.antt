use Rattle.std.proofs.Common.{◌≡◌, ◌<◌, ℕ, length}
use Rattle.std.specs.Prelude.{slice_index}
use Rattle.sc_classes.proofs.forest.zeros.Given as goal

abbrev pub invariant-loop : goal.invariant-loop
invariant-loop l =
    record {
      count : length l.zeros.items ≡ l.counter;
      own : (n : ℕ) → n < l.counter → slice_index l.zeros.items n ≡ 0;
    }
