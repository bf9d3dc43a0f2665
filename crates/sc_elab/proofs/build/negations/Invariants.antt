use Rattle.std.proofs.Common.{drop}
use Rattle.sc_elab.specs.Builds as spec
use Rattle.sc_elab.specs.States.{each}
use Rattle.sc_elab.specs.Growth.{AreFormulas}
use Rattle.sc_elab.proofs.Loops.{Collects}
use Rattle.sc_terms.specs.Bank.{IsFormulaOf}
use Rattle.sc_elab.proofs.Growing.{still_formula}
use Rattle.sc_elab.proofs.build.negations.Given as goal

abbrev pub invariant-loop-formula : goal.invariant-loop-formula
invariant-loop-formula l = Collects IsFormulaOf still_formula spec.negation (each spec.negation l.fn.formulas l.fn.bank) l.fn.bank l.made (drop l.formula-index l.formulas) l.bank × AreFormulas l.bank (drop l.formula-index l.formulas)
