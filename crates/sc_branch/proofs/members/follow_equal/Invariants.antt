use Rattle.sc_branch.specs.Growing.{GoesOn}
use Rattle.sc_branch.proofs.members.follow_equal.Given as goal

-- the branch has grown on
abbrev pub invariant-loop-set : goal.invariant-loop-set
invariant-loop-set l = GoesOn l.task.problem.now l.task.budget l.initial.growing l.growing

-- the branch has grown on
abbrev pub invariant-loop-other : goal.invariant-loop-other
invariant-loop-other l = GoesOn l.task.problem.now l.task.budget l.initial.growing l.growing
