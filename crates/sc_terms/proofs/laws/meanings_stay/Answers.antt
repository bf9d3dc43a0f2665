use Rattle.sc_terms.proofs.BankMeanings.{meanings_stay}
use Rattle.sc_terms.proofs.laws.meanings_stay.Goals as goal

pub returns : goal.returns
returns c = meanings_stay
