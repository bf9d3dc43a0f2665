use Rattle.sc_rules.proofs.Earliest.{earliest_is_first}
use Rattle.sc_rules.proofs.laws.earliest_is_first.Goals as goal

pub returns : goal.returns
returns c = earliest_is_first
