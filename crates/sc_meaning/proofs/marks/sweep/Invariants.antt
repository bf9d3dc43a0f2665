use Rattle.std.proofs.Common.{◌≡◌, ◌≤◌}
use Rattle.sc_meaning.specs.Marks.{swept}
use Rattle.sc_meaning.proofs.marks.sweep.Given as goal

abbrev pub invariant-loop-number : goal.invariant-loop-number
invariant-loop-number l =
    record {
      rest : swept l.bank l.number l.marks.items ≡ swept l.bank l.last l.fn.marks.items;
      within : l.number ≤ l.last;
    }

abbrev pub decreases-loop-number : goal.decreases-loop-number
decreases-loop-number l = l.number
