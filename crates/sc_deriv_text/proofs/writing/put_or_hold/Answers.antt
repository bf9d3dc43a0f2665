use Rattle.std.proofs.Common.{rules}
use Rattle.sc_deriv_text.proofs.Holding.{alone}
use Rattle.sc_deriv_text.proofs.writing.put_or_hold.Goals as goal

pub returns-clause-put : goal.returns-clause-put
returns-clause-put g c = alone _ _ _ _ _ _ c.put_line.result (search rules) (search rules) c.put_line.ensures.put
