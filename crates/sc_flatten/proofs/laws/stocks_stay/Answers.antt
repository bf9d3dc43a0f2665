use Rattle.sc_flatten.proofs.Staying.{stocks_stay}
use Rattle.sc_flatten.proofs.laws.stocks_stay.Goals as goal

pub returns : goal.returns
returns c = stocks_stay
