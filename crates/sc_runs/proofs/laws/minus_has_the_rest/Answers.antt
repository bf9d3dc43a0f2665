use Rattle.sc_runs.proofs.Meaning.{in_minus}
use Rattle.sc_runs.proofs.laws.minus_has_the_rest.Goals as goal

pub returns : goal.returns
returns c = in_minus
