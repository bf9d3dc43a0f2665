use Rattle.sc_branch.specs.Growing.{GoesOn}
use Rattle.sc_branch.proofs.members.attempt_from_equals.Given as goal

-- the branch has grown on
abbrev pub invariant-loop-other : goal.invariant-loop-other
invariant-loop-other l = GoesOn l.task.problem.now l.task.budget l.initial.growing l.growing
