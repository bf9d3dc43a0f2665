use Rattle.std.proofs.Common.{rules}
use Rattle.sc_deriv_text.proofs.LineCounts.{ends, gone}
use Rattle.sc_deriv_text.proofs.lengths.lines_length.Goals as goal

pub returns-clause-count : goal.returns-clause-count
returns-clause-count c = ends c.args.nodes.now _ c.loop-node.total c.loop-node.invariant (gone c.args.nodes.now c.loop-node.node-index (search rules))
