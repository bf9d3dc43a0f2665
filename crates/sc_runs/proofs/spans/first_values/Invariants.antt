use Rattle.std.proofs.Common.{◌≡◌, ◌++◌, drop}
use Rattle.sc_base.specs.Spans.{first_values}
use Rattle.sc_runs.proofs.spans.first_values.Given as goal

abbrev pub invariant-loop-span : goal.invariant-loop-span
invariant-loop-span l = l.taken.items ++ first_values l.left (drop l.span-index l.spans) ≡ first_values l.fn.count l.spans
