use Rattle.sc_flatten.proofs.Ascending.{components_ascend}
use Rattle.sc_flatten.proofs.laws.components_ascend.Goals as goal

pub returns : goal.returns
returns c = components_ascend
