use Rattle.sc_base.proofs.Integers.{IsAscending-upward}
use Rattle.sc_runs.proofs.Meaning.{in_upward}
use Rattle.sc_runs.proofs.laws.upward_counts.Goals as goal

pub returns-clause-ascending : goal.returns-clause-ascending
returns-clause-ascending c = IsAscending-upward

pub returns-clause-elements : goal.returns-clause-elements
returns-clause-elements c = in_upward
