use Rattle.sc_print.proofs.ErrorsBack.{error_reads_back}
use Rattle.sc_print.proofs.laws.errors_read_back.Goals as goal

pub returns : goal.returns
returns c = error_reads_back
