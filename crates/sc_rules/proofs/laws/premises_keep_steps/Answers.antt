use Rattle.sc_rules.proofs.Needed.{premises_keep_steps}
use Rattle.sc_rules.proofs.laws.premises_keep_steps.Goals as goal

pub returns : goal.returns
returns c = premises_keep_steps
