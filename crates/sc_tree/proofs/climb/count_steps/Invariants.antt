use Rattle.std.proofs.Common.{◌≡◌, ◌+◌, List}
use Rattle.sc_tree.specs.Machine.{Cell}
use Rattle.sc_tree.specs.Climbing.{step_count, IsClimbed}
use Rattle.sc_tree.proofs.climb.count_steps.Given as goal

-- the steps that were counted, and those that lead to the place reached, are as many as the leaf's
abbrev pub invariant-loop-place : goal.invariant-loop-place
invariant-loop-place l =
    (cells : List Cell) → IsClimbed l.places cells → l.count + step_count cells l.number ≡ step_count cells l.fn.leaf

abbrev pub decreases-loop-place : goal.decreases-loop-place
decreases-loop-place l = l.number
