use Rattle.std.proofs.Common.{length}
use Rattle.sc_branch.specs.Labels.{Collects}
use Rattle.sc_branch.proofs.labels.classes_of.Given as goal

-- the classes have the pairs of the facts so far
abbrev pub invariant-loop-place : goal.invariant-loop-place
invariant-loop-place l = Collects (length l.problem.elements) l.place l.path.facts l.classes
