use Rattle.std.proofs.Common.{drop, map, ◌++◌}
use Rattle.sc_terms.specs.Bank.{IsFormulaOf}
use Rattle.sc_elab.specs.Builds as spec
use Rattle.sc_elab.specs.States.{Done, bind, each}
use Rattle.sc_elab.specs.Growth.{AreOfSort, IsOfSort}
use Rattle.sc_elab.proofs.Loops.{Collects}
use Rattle.sc_elab.proofs.Growing.{still_formula}
use Rattle.sc_elab.proofs.build.more_differences.Given as goal

abbrev pub invariant-loop-other : goal.invariant-loop-other
invariant-loop-other l =
    Collects IsFormulaOf still_formula (spec.difference l.fn.sort) (bind (each (spec.difference l.fn.sort) (map (λ y. (l.fn.first, y)) l.fn.others) l.fn.bank) (λ ns b. Done (l.fn.made ++ ns) b)) l.fn.bank l.made (map (λ y. (l.fn.first, y)) (drop l.other-index l.others)) l.bank
    × AreOfSort l.bank l.fn.sort (drop l.other-index l.others)
    × IsOfSort l.bank l.fn.sort l.fn.first
