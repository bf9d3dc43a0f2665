use Rattle.std.proofs.Common.{drop}
use Rattle.std.specs.List.{AllByRecursion}
use Rattle.sc_terms.specs.Bank.{IsSetOf, IsElementOf}
use Rattle.sc_elab.specs.Builds as spec
use Rattle.sc_elab.specs.States.{each}
use Rattle.sc_elab.proofs.Growing.{still_set}
use Rattle.sc_elab.proofs.Loops.{Collects}
use Rattle.sc_elab.proofs.set_terms.singles.Given as goal

abbrev pub invariant-loop-element : goal.invariant-loop-element
invariant-loop-element l = Collects IsSetOf still_set spec.single (each spec.single l.fn.elements l.fn.bank) l.fn.bank l.made (drop l.element-index l.elements) l.bank × AllByRecursion (IsElementOf l.bank) (drop l.element-index l.elements)
