use Rattle.std.proofs.Common.{drop}
use Rattle.sc_deriv_text.proofs.Holding.{IsAt}
use Rattle.sc_deriv_text.proofs.writing.put_lines.Given as goal

abbrev pub invariant-loop-node : goal.invariant-loop-node
invariant-loop-node g l = IsAt (g.O.Sink.moment l.initial.out) (g.O.Sink.moment l.out) l.held.held l.nodes (drop l.node-index l.nodes)
