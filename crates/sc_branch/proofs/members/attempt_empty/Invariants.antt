use Rattle.sc_branch.specs.Growing.{GoesOn}
use Rattle.sc_branch.proofs.members.attempt_empty.Given as goal

-- the branch has grown on
abbrev pub invariant-loop-element : goal.invariant-loop-element
invariant-loop-element l = GoesOn l.task.problem.now l.task.budget l.initial.growing l.growing
