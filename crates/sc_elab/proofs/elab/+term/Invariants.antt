use Rattle.std.proofs.Common.{drop, map}
use Rattle.sc_sexpr.specs.Shapes.{shape, shapes_of}
use Rattle.sc_elab.specs.Elab as spec
use Rattle.sc_elab.proofs.Terms.{Elaborates}
use Rattle.sc_elab.proofs.elab.+term.Given as goal

abbrev pub invariant-arguments-loop-index : goal.invariant-arguments-loop-index
invariant-arguments-loop-index l = Elaborates l.fn.stack (spec.behind_head l.fn.stack (shapes_of (map shape l.fn.items.trees.items)) l.fn.bank) l.fn.bank l.made (drop l.index l.fn.items.trees.items) l.bank
