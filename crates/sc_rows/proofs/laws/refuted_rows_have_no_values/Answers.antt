use Rattle.sc_rows.proofs.Sound.{refutes_sound}
use Rattle.sc_rows.proofs.laws.refuted_rows_have_no_values.Goals as goal

pub returns : goal.returns
returns c = refutes_sound (record { sums = c.sums_hold.ensures; quotients = c.quotients_hold.ensures })
