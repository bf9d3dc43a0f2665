use Rattle.sc_flatten.proofs.Fitting.{stocks_fit}
use Rattle.sc_flatten.proofs.laws.stocks_fit.Goals as goal

pub returns : goal.returns
returns c = stocks_fit c.meanings_fit.ensures c.bank_meanings_fit.ensures
