use Rattle.sc_print.proofs.ValuesBack.{value_reads_back}
use Rattle.sc_print.proofs.laws.values_read_back.Goals as goal

pub returns : goal.returns
returns c = value_reads_back
