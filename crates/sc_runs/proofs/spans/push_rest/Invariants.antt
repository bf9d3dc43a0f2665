use Rattle.std.proofs.Common.{[], drop}
use Rattle.sc_runs.proofs.Joins.{Joins}
use Rattle.sc_runs.proofs.spans.push_rest.Given as goal

abbrev pub invariant-loop-i : goal.invariant-loop-i
invariant-loop-i l = Joins l.spans.items (drop l.i l.more) [] l.initial.spans.items (drop l.start l.more)
