use Rattle.std.proofs.Common.{◌≡◌, take}
use Rattle.sc_model.specs.Modelling.{label_in}
use Rattle.sc_model.specs.Modelling as spec
use Rattle.sc_model.proofs.model.labels_of.Given as goal

-- the labels of those so far
abbrev pub invariant-loop-element : goal.invariant-loop-element
invariant-loop-element l = l.found ≡ spec.labels_of l.problem (label_in l.labels) l.set (take l.element-index l.elements)
