use Rattle.sc_flatten.proofs.Posing.{stocks_are_posed}
use Rattle.sc_flatten.proofs.laws.stocks_are_posed.Goals as goal

pub returns : goal.returns
returns c = stocks_are_posed c.meanings_fit.ensures c.bank_meanings_fit.ensures
