use Rattle.sc_deriv.proofs.Trees.{refuses_first_failure, fails_by_nodes}
use Rattle.sc_deriv.proofs.laws.refuses_first_failure.Goals as goal

pub returns-clause-first : goal.returns-clause-first
returns-clause-first c = refuses_first_failure

pub returns-clause-reasons : goal.returns-clause-reasons
returns-clause-reasons c = fails_by_nodes
