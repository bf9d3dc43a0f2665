use Rattle.std.proofs.Common.{take}
use Rattle.std.specs.List.{AllByRecursion}
use Rattle.sc_model.specs.Modelling.{label_in}
use Rattle.sc_model.specs.Deciding.{HasOtherLabels}
use Rattle.sc_model.proofs.members.due_apart.Given as goal

-- where the facts so far say that elements differ, their labels do
abbrev pub invariant-loop-fact : goal.invariant-loop-fact
invariant-loop-fact l = AllByRecursion (HasOtherLabels l.problem (label_in l.labels)) (take l.fact-index l.path.facts)
