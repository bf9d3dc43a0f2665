use Rattle.std.proofs.Common.{◌≡◌, ◌+◌, drop}
use Rattle.sc_terms.specs.Lookup.{component_from}
use Rattle.sc_terms.proofs.lookups.first_with.Given as goal

abbrev pub invariant-loop-list : goal.invariant-loop-list
invariant-loop-list l =
    record {
      place : l.place ≡ l.list-index;
      rest : component_from (l.place + 1) (drop l.list-index l.lists) l.number ≡ component_from 1 l.lists l.number;
    }
