use Rattle.sc_runs.proofs.Meaning.{in_fresh, fresh_in_turn}
use Rattle.sc_runs.proofs.laws.fresh_values_lie_outside.Goals as goal

pub returns-clause-elements : goal.returns-clause-elements
returns-clause-elements c = in_fresh

pub returns-clause-order : goal.returns-clause-order
returns-clause-order c = fresh_in_turn
