use Rattle.sc_elab.proofs.NamedFaults.{term_faults, sort_faults}
use Rattle.sc_elab.proofs.laws.faults_are_named.Goals as goal

pub returns-clause-term : goal.returns-clause-term
returns-clause-term c = term_faults

pub returns-clause-sort : goal.returns-clause-sort
returns-clause-sort c = sort_faults
