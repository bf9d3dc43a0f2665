use Rattle.std.proofs.Common.{drop}
use Rattle.sc_elab.specs.Builds as spec
use Rattle.sc_elab.proofs.Loops.{Folds}
use Rattle.sc_terms.specs.Bank.{IsSetOf}
use Rattle.sc_elab.proofs.Growing.{still_set}
use Rattle.sc_elab.proofs.set_terms.grouped.Given as goal

abbrev pub invariant-loop-next : goal.invariant-loop-next
invariant-loop-next l = Folds IsSetOf still_set (spec.joined l.fn.join) (spec.grouped l.fn.join l.fn.first l.fn.rest l.fn.bank) l.fn.bank l.made (drop l.next-index l.rest) l.bank
