use Rattle.std.proofs.Common.{◌≡◌, ◌≤◌, ◌-◌}
use Rattle.sc_terms.specs.Values.{interpretation_of}
use Rattle.sc_meaning.specs.Pass.{worths_up, FitsUp}
use Rattle.sc_meaning.proofs.pass.values_up.Given as goal

abbrev pub invariant-loop-number : goal.invariant-loop-number
invariant-loop-number l =
    record {
      worths : l.values ≡ worths_up (interpretation_of l.interp) l.bank l.marks l.number;
      fits : FitsUp (interpretation_of l.interp) l.bank l.marks l.number;
      within : l.number ≤ l.last;
    }

abbrev pub decreases-loop-number : goal.decreases-loop-number
decreases-loop-number l = l.last - l.number
