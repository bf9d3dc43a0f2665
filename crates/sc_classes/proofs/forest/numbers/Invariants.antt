use Rattle.std.proofs.Common.{◌≡◌, ◌<◌, ℕ, length}
use Rattle.std.specs.Prelude.{slice_index}
use Rattle.sc_classes.proofs.forest.numbers.Given as goal

-- each number so far stands at its own place
abbrev pub invariant-loop-number : goal.invariant-loop-number
invariant-loop-number l =
    record {
      count : length l.numbers.items ≡ l.number;
      own : (n : ℕ) → n < l.number → slice_index l.numbers.items n ≡ n;
    }
