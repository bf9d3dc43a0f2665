use Rattle.sc_branch.specs.Growing.{GoesOn}
use Rattle.sc_branch.proofs.spread.spread.Given as goal

-- the branch has grown on
abbrev pub invariant-loop : goal.invariant-loop
invariant-loop l = GoesOn l.task.problem.now l.task.budget l.initial.growing l.growing
