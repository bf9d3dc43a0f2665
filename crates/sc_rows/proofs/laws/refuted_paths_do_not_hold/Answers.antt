use Rattle.sc_rows.proofs.Sound.{refuted_paths_do_not_hold}
use Rattle.sc_rows.proofs.laws.refuted_paths_do_not_hold.Goals as goal

pub returns : goal.returns
returns c = refuted_paths_do_not_hold c.refuted_rows_have_no_values.ensures c.rows_hold_by_atoms.ensures
