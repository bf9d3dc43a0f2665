use Rattle.sc_print.proofs.ValuesBack.{values_differ}
use Rattle.sc_print.proofs.laws.values_differ.Goals as goal

pub returns : goal.returns
returns c = values_differ
