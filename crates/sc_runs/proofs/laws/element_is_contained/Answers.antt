use Rattle.sc_runs.proofs.Meaning.{found, held}
use Rattle.sc_runs.proofs.laws.element_is_contained.Goals as goal

pub returns : goal.returns
returns c = λ xs x. (held xs x, found xs x)
