use Rattle.std.proofs.Common.{◌≡◌, map, drop, Some}
use Rattle.sc_sexpr.specs.Shapes.{shape, shapes_of}
use Rattle.sc_elab.specs.Heads as spec
use Rattle.sc_elab.proofs.heads.are_attributes.Given as goal

abbrev pub invariant-loop-tree : goal.invariant-loop-tree
invariant-loop-tree l = spec.goes_on (Some l.awaited) (shapes_of (map shape (drop l.tree-index l.trees))) ≡ spec.are_attributes (shapes_of (map shape l.trees))
