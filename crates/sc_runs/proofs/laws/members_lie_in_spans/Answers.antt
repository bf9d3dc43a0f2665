use Rattle.sc_base.proofs.Members.{IsAscending-members}
use Rattle.sc_runs.proofs.Meaning.{in_members}
use Rattle.sc_runs.proofs.Sets.{same_spans}
use Rattle.sc_runs.proofs.laws.members_lie_in_spans.Goals as goal

pub returns-clause-ascending : goal.returns-clause-ascending
returns-clause-ascending c = IsAscending-members

pub returns-clause-elements : goal.returns-clause-elements
returns-clause-elements c = in_members

pub returns-clause-unique : goal.returns-clause-unique
returns-clause-unique c = same_spans
