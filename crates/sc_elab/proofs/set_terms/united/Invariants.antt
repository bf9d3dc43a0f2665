use Rattle.sc_elab.specs.Builds as spec
use Rattle.sc_elab.proofs.Loops.{Nests}
use Rattle.sc_terms.specs.Bank.{IsSetOf}
use Rattle.sc_elab.proofs.Growing.{still_set}
use Rattle.sc_elab.proofs.set_terms.united.Given as goal

abbrev pub invariant-loop-index : goal.invariant-loop-index
invariant-loop-index l = Nests IsSetOf still_set spec.union l.fn.singles l.fn.last l.fn.bank l.made l.index l.bank
