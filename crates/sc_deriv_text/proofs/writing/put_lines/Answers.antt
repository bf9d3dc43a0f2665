use Rattle.std.proofs.Common.{rules}
use Rattle.sc_deriv_text.proofs.Holding.{ends, line_goes, line_stops}
use Rattle.sc_deriv_text.proofs.LineCounts.{gone}
use Rattle.sc_deriv_text.proofs.Puts.{item_front}
use Rattle.sc_deriv_text.proofs.writing.put_lines.Goals as goal

pub returns-in-Err-clause-put : goal.returns-in-Err-clause-put
returns-in-Err-clause-put g c =
    let front = item_front c.args.nodes.now c.loop-node.node-index c.node-item.result (search rules) c.node-item.is in
    line_stops _ _ _ _ c.args.nodes.now _ _ c.node-item.result c.in-Err.error c.loop-node.invariant front c.in-Err.ensures.put

pub loop-node-preserved : goal.loop-node-preserved
loop-node-preserved g c =
    let front = item_front c.args.nodes.now c.loop-node.node-index c.node-item.result (search rules) c.node-item.is in
    line_goes _ _ _ _ _ c.args.nodes.now _ _ c.node-item.result c.loop-node.invariant front c.in_default.ensures.put c.in_default.ensures.fits

pub returns-clause-put : goal.returns-clause-put
returns-clause-put g c = ends _ _ _ _ _ c.args.nodes.now _ c.put_all.result c.loop-node.invariant (gone c.args.nodes.now c.loop-node.node-index (search rules)) c.bytes.ensures c.put_all.ensures
