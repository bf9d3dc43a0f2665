use Rattle.std.proofs.Common.{◌≡◌, drop}
use Rattle.sc_base.specs.Spans.{later_values}
use Rattle.sc_runs.proofs.spans.later_values.Given as goal

abbrev pub invariant-loop-i : goal.invariant-loop-i
invariant-loop-i l = later_values l.left (drop l.i l.spans) ≡ later_values l.fn.count l.spans
