use Rattle.sc_rules.proofs.Needed.{premises_stand}
use Rattle.sc_rules.proofs.laws.premises_stand.Goals as goal

pub returns : goal.returns
returns c = premises_stand
