use Rattle.sc_branch.specs.Growing.{GoesOn}
use Rattle.sc_branch.proofs.members.join.Given as goal

-- the branch has grown on
abbrev pub invariant-loop-step : goal.invariant-loop-step
invariant-loop-step l = GoesOn l.task.problem.now l.task.budget l.initial.growing l.growing
