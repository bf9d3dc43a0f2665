use Rattle.sc_print.proofs.NumbersBack.{number_reads_back}
use Rattle.sc_print.proofs.laws.numbers_read_back.Goals as goal

pub returns : goal.returns
returns c = number_reads_back
