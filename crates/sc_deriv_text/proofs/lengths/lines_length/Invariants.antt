use Rattle.std.proofs.Common.{drop}
use Rattle.sc_deriv_text.proofs.LineCounts.{Counts}
use Rattle.sc_deriv_text.proofs.lengths.lines_length.Given as goal

abbrev pub invariant-loop-node : goal.invariant-loop-node
invariant-loop-node l = Counts l.nodes (drop l.node-index l.nodes) l.total
