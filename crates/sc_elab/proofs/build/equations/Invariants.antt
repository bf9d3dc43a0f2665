use Rattle.std.proofs.Common.{drop, ◌∷◌}
use Rattle.sc_elab.specs.Builds as spec
use Rattle.sc_elab.specs.States.{each}
use Rattle.sc_elab.specs.Growth.{AreOfSort}
use Rattle.sc_elab.proofs.Loops.{Collects}
use Rattle.sc_terms.specs.Bank.{IsFormulaOf}
use Rattle.sc_elab.proofs.Growing.{still_formula}
use Rattle.sc_elab.proofs.build.equations.Given as goal

abbrev pub invariant-loop-next : goal.invariant-loop-next
invariant-loop-next l = Collects IsFormulaOf still_formula (spec.equation l.fn.sort) (each (spec.equation l.fn.sort) (spec.neighbours (l.fn.first ∷ l.fn.rest)) l.fn.bank) l.fn.bank l.made (spec.neighbours (l.last ∷ drop l.next-index l.rest)) l.bank × AreOfSort l.bank l.fn.sort (l.last ∷ drop l.next-index l.rest)
