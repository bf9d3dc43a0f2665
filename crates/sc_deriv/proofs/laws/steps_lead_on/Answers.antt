use Rattle.sc_deriv.proofs.Taking.{steps_lead_on}
use Rattle.sc_deriv.proofs.laws.steps_lead_on.Goals as goal

pub returns : goal.returns
returns c = steps_lead_on
