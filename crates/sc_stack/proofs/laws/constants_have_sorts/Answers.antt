use Rattle.sc_stack.proofs.Found.{constants_have_sorts}
use Rattle.sc_stack.proofs.laws.constants_have_sorts.Goals as goal

pub returns : goal.returns
returns c = constants_have_sorts
