use Rattle.sc_runs.proofs.Meaning.{in_union}
use Rattle.sc_runs.proofs.laws.union_has_either.Goals as goal

pub returns : goal.returns
returns c = in_union
