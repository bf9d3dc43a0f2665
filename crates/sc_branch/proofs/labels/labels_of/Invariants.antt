use Rattle.sc_branch.specs.Labels.{HasLabels}
use Rattle.sc_branch.proofs.labels.labels_of.Given as goal

-- the elements so far have their labels
abbrev pub invariant-loop-place : goal.invariant-loop-place
invariant-loop-place l = HasLabels l.classes l.place l.labels.items
