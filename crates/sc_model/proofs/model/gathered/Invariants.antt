use Rattle.std.proofs.Common.{length, take}
use Rattle.sc_model.specs.Modelling.{Gathers}
use Rattle.sc_model.proofs.model.gathered.Given as goal

-- the lists hold what the facts so far put into the sets
abbrev pub invariant-loop-fact : goal.invariant-loop-fact
invariant-loop-fact l = Gathers (length l.problem.sets) (take l.fact-index l.path.facts) l.lists.items
