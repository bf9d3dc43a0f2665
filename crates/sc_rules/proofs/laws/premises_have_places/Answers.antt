use Rattle.sc_rules.proofs.Needed.{premises_have_places}
use Rattle.sc_rules.proofs.laws.premises_have_places.Goals as goal

pub returns : goal.returns
returns c = premises_have_places
