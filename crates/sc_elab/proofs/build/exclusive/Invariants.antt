use Rattle.std.proofs.Common.{drop}
use Rattle.sc_elab.specs.Builds as spec
use Rattle.sc_elab.proofs.Loops.{Folds}
use Rattle.sc_terms.specs.Bank.{IsFormulaOf}
use Rattle.sc_elab.proofs.Growing.{still_formula}
use Rattle.sc_elab.proofs.build.exclusive.Given as goal

abbrev pub invariant-loop-next : goal.invariant-loop-next
invariant-loop-next l = Folds IsFormulaOf still_formula spec.exclusive_or (spec.exclusive l.fn.first l.fn.rest l.fn.bank) l.fn.bank l.made (drop l.next-index l.rest) l.bank
