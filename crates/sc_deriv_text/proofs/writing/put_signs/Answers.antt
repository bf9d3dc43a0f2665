use Rattle.std.proofs.Common.{rules}
use Rattle.sc_deriv_text.proofs.Puts.{sign_goes, sign_stops}
use Rattle.sc_deriv_text.proofs.writing.put_signs.Goals as goal

pub returns-in-Err : goal.returns-in-Err
returns-in-Err g c = sign_stops _ _ _ c.args.signs.now c.loop-sign.sign-index _ _ c.in-Err.error c.loop-sign.invariant (search rules) c.sign_text.ensures c.in-Err.ensures

pub loop-sign-preserved : goal.loop-sign-preserved
loop-sign-preserved g c = sign_goes _ _ _ c.args.signs.now c.loop-sign.sign-index _ _ c.loop-sign.invariant (search rules) c.sign_text.ensures c.in_default.ensures
