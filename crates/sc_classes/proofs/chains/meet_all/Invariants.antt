use Rattle.std.proofs.Common.{◌≡◌, ◌<◌, length, drop}
use Rattle.std.specs.List.{AllByRecursion}
use Rattle.sc_classes.specs.Searches.{searching, meet_all}
use Rattle.sc_classes.proofs.chains.meet_all.Given as goal

abbrev pub invariant-loop-number : goal.invariant-loop-number
invariant-loop-number l =
    record {
      goes : meet_all l.from (searching l.visits.items l.marks.items) (drop l.number-index l.numbers) ≡ meet_all l.from (searching l.fn.visits.items l.fn.marks.items) l.numbers;
      within : AllByRecursion (λ n. n < length l.marks.items) (drop l.number-index l.numbers);
    }
