use Rattle.std.proofs.Common.{rules}
use Rattle.sc_deriv_text.proofs.Puts.{piece_stops, piece_goes}
use Rattle.sc_deriv_text.proofs.writing.put_each.Goals as goal

pub returns-in-Err : goal.returns-in-Err
returns-in-Err g c = piece_stops _ _ _ c.args.pieces.now c.loop-piece.piece-index _ c.in-Err.error c.loop-piece.invariant (search rules) c.in-Err.ensures

pub loop-piece-preserved : goal.loop-piece-preserved
loop-piece-preserved g c = piece_goes _ _ _ c.args.pieces.now c.loop-piece.piece-index _ c.loop-piece.invariant (search rules) c.in_default.ensures
