use Rattle.sc_print.proofs.SymbolsBack.{symbol_reads_back}
use Rattle.sc_print.proofs.laws.symbols_read_back.Goals as goal

pub returns : goal.returns
returns c = symbol_reads_back
