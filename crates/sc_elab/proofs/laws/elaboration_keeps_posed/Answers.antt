use Rattle.sc_elab.proofs.Keeping.{done_posed, fault_posed}
use Rattle.sc_elab.proofs.laws.elaboration_keeps_posed.Goals as goal

pub returns-clause-done : goal.returns-clause-done
returns-clause-done c = done_posed c.constants_have_sorts.ensures c.bank_with_node.ensures.number

pub returns-clause-fault : goal.returns-clause-fault
returns-clause-fault c = fault_posed c.constants_have_sorts.ensures c.bank_with_node.ensures.number
