use Rattle.sc_flatten.proofs.Sorted.{sorts_stay}
use Rattle.sc_flatten.proofs.laws.sorts_stay.Goals as goal

pub returns : goal.returns
returns c = sorts_stay
