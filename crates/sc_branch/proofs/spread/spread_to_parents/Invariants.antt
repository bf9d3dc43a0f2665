use Rattle.sc_branch.specs.Growing.{GoesOn}
use Rattle.sc_branch.proofs.spread.spread_to_parents.Given as goal

-- the branch has grown on
abbrev pub invariant-loop-parent : goal.invariant-loop-parent
invariant-loop-parent l = GoesOn l.task.problem.now l.task.budget l.initial.growing l.growing
