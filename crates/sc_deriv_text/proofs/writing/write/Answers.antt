use Rattle.sc_deriv_text.proofs.Puts.{frame_stops, lines_stop, text_ends}
use Rattle.sc_deriv_text.proofs.writing.write.Goals as goal

pub returns-in-Err-clause-put : goal.returns-in-Err-clause-put
returns-in-Err-clause-put g c = frame_stops _ _ c.args.derivation.now c.in-Err.error c.in-Err.ensures

pub returns-in-Err-put_lines-clause-put : goal.returns-in-Err-put_lines-clause-put
returns-in-Err-put_lines-clause-put g c = lines_stop _ _ _ c.args.derivation.now _ c.in-Err-put_lines.error c.as_slice.ensures c.in_default.ensures c.in-Err-put_lines.ensures.put

pub returns-clause-put : goal.returns-clause-put
returns-clause-put g c = text_ends _ _ _ _ c.args.derivation.now _ c.put_all-2.result c.as_slice.ensures c.in_default.ensures c.in_default-put_lines.ensures.put c.put_all-2.ensures
