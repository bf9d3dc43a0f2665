use Rattle.std.proofs.Common.{◌≡◌, ◌+◌, drop}
use Rattle.sc_terms.specs.Lookup.{diff_from}
use Rattle.sc_terms.proofs.lookups.first_diff.Given as goal

abbrev pub invariant-loop-element : goal.invariant-loop-element
invariant-loop-element l =
    record {
      place : l.place ≡ l.element-index;
      rest : diff_from (l.place + 1) (drop l.element-index l.elements) l.s l.t ≡ diff_from 1 l.elements l.s l.t;
    }
