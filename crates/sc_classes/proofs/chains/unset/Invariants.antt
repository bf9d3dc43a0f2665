use Rattle.std.proofs.Common.{◌≡◌, ℕ, false, length}
use Rattle.std.specs.Prelude.{slice_index_or}
use Rattle.sc_classes.proofs.chains.unset.Given as goal

abbrev pub invariant-loop : goal.invariant-loop
invariant-loop l =
    record {
      count : length l.marks.items ≡ l.counter;
      none : (n : ℕ) → slice_index_or l.marks.items n false ≡ false;
    }
