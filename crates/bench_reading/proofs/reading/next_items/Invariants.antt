use Rattle.std.proofs.Common.{◌≡◌}
use Rattle.bench_reading.proofs.reading.next_items.Given as goal

abbrev pub invariant-loop-count : goal.invariant-loop-count
invariant-loop-count l = l.splitter.last ≡ l.initial.splitter.last
