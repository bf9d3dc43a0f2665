use Rattle.sc_runs.proofs.Meaning.{ascending_known}
use Rattle.sc_runs.proofs.laws.ascending_lists_are_equal.Goals as goal

pub returns : goal.returns
returns c = ascending_known
