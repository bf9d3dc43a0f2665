use Rattle.std.proofs.Common.{◌≤◌, take}
use Rattle.std.specs.List.{AllByRecursion}
use Rattle.sc_terms.specs.Conditions.{IsIn}
use Rattle.sc_meaning.proofs.calls.greatest.Given as goal

abbrev pub invariant-loop-number : goal.invariant-loop-number
invariant-loop-number l =
    record {
      taken : AllByRecursion (IsIn l.greatest) (take l.number-index l.numbers);
      limit : l.greatest ≤ l.limit;
    }
