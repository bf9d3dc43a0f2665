use Rattle.sc_deriv.proofs.Taking.{steps_add}
use Rattle.sc_deriv.proofs.laws.steps_add.Goals as goal

pub returns : goal.returns
returns c = steps_add
