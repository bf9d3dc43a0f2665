use Rattle.sc_elab.proofs.KnownSorts.{declarations_keep_sorts}
use Rattle.sc_elab.proofs.laws.declarations_keep_sorts.Goals as goal

pub returns-clause-constant : goal.returns-clause-constant
returns-clause-constant c = declarations_keep_sorts
