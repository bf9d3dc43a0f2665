use Rattle.sc_deriv_text.proofs.Exactly.{reads_exactly}
use Rattle.sc_deriv_text.proofs.laws.derivations_read_exactly.Goals as goal

pub returns : goal.returns
returns c = reads_exactly
