use Rattle.sc_flatten.proofs.Meanings.{meanings_agree}
use Rattle.sc_flatten.proofs.laws.meanings_agree.Goals as goal

pub returns : goal.returns
returns c = meanings_agree c.meanings_fit.ensures c.bank_meanings_fit.ensures
