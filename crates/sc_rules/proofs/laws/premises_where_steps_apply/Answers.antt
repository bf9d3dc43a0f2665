use Rattle.sc_rules.proofs.Needed.{premises_where_steps_apply}
use Rattle.sc_rules.proofs.laws.premises_where_steps_apply.Goals as goal

pub returns : goal.returns
returns c = premises_where_steps_apply
