use Rattle.std.proofs.Common.{◌≡◌, ◌++◌, drop}
use Rattle.sc_base.specs.Integers.{lowest}
use Rattle.sc_base.specs.Spans.{gaps}
use Rattle.sc_runs.proofs.spans.gaps.Given as goal

abbrev pub invariant-loop-span : goal.invariant-loop-span
invariant-loop-span l = l.between.items ++ gaps l.next (drop l.span-index l.spans) ≡ gaps lowest l.spans
