use Rattle.sc_branch.specs.Growing.{GoesOn}
use Rattle.sc_branch.proofs.spread.spread_to_all.Given as goal

-- the branch has grown on
abbrev pub invariant-loop-part : goal.invariant-loop-part
invariant-loop-part l = GoesOn l.task.problem.now l.task.budget l.initial.growing l.growing
