use Rattle.sc_branch.specs.Growing.{GoesOn}
use Rattle.sc_branch.proofs.members.spread_singles.Given as goal

-- the branch has grown on
abbrev pub invariant-loop-place : goal.invariant-loop-place
invariant-loop-place l = GoesOn l.task.problem.now l.task.budget l.initial.growing l.growing
