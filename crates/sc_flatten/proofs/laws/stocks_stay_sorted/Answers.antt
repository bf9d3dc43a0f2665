use Rattle.sc_flatten.proofs.Sortings.{stocks_stay_sorted}
use Rattle.sc_flatten.proofs.laws.stocks_stay_sorted.Goals as goal

pub returns : goal.returns
returns c = stocks_stay_sorted
