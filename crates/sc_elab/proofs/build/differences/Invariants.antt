use Rattle.std.proofs.Common.{drop}
use Rattle.sc_elab.specs.Builds as spec
use Rattle.sc_elab.specs.States.{each}
use Rattle.sc_elab.specs.Growth.{AreOfSort}
use Rattle.sc_elab.proofs.Loops.{Collects}
use Rattle.sc_terms.specs.Bank.{IsFormulaOf}
use Rattle.sc_elab.proofs.Growing.{still_formula}
use Rattle.sc_elab.proofs.build.differences.Given as goal

abbrev pub invariant-loop-index : goal.invariant-loop-index
invariant-loop-index l = Collects IsFormulaOf still_formula (spec.difference l.fn.sort) (each (spec.difference l.fn.sort) (spec.pairs l.fn.things) l.fn.bank) l.fn.bank l.made (spec.pairs (drop l.index l.things)) l.bank × AreOfSort l.bank l.fn.sort (drop l.index l.things)
