use Rattle.std.proofs.Common.{◌≡◌, ◌<◌, ℕ, length}
use Rattle.std.specs.Prelude.{slice_index}
use Rattle.sc_flatten.proofs.classes.singles.Given as goal

-- each number so far is its own parent
abbrev pub invariant-loop-number : goal.invariant-loop-number
invariant-loop-number l =
    record {
      count : length l.parents.items ≡ l.number;
      own : (n : ℕ) → n < l.number → slice_index l.parents.items n ≡ n;
    }
