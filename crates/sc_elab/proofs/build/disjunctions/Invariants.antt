use Rattle.sc_elab.specs.Builds as spec
use Rattle.sc_elab.proofs.Loops.{Nests}
use Rattle.sc_terms.specs.Bank.{IsFormulaOf}
use Rattle.sc_elab.proofs.Growing.{still_formula}
use Rattle.sc_elab.proofs.build.disjunctions.Given as goal

abbrev pub invariant-loop-index : goal.invariant-loop-index
invariant-loop-index l = Nests IsFormulaOf still_formula spec.disjunction l.fn.negations l.fn.last l.fn.bank l.made l.index l.bank
