use Rattle.sc_base.proofs.Integers.{IsAscending-in_order}
use Rattle.sc_runs.proofs.Meaning.{in_sorted}
use Rattle.sc_runs.proofs.laws.in_order_sorts.Goals as goal

pub returns-clause-ascending : goal.returns-clause-ascending
returns-clause-ascending c = IsAscending-in_order

pub returns-clause-elements : goal.returns-clause-elements
returns-clause-elements c = in_sorted
