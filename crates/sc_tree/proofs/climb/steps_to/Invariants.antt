use Rattle.std.proofs.Common.{◌≡◌, ◌++◌, true, reverse, List, ◌⊎◌}
use Rattle.std.specs.Prelude.{is_some}
use Rattle.sc_base.specs.Numbered.{item_at}
use Rattle.sc_tree.specs.Machine.{Cell}
use Rattle.sc_tree.specs.Climbing.{steps_or, GoesTo}
use Rattle.sc_tree.proofs.climb.steps_to.Given as goal

-- the steps of the place reached, then those that were added, are the leaf's; and the place is there, or the root's was passed
abbrev pub invariant-loop-number : goal.invariant-loop-number
invariant-loop-number l =
    (cells : List Cell) → GoesTo l.places cells l.fn.leaf → (steps_or (item_at cells l.number) ++ reverse l.steps.items ≡ steps_or (item_at cells l.fn.leaf)) × ((l.number ≡ 0) ⊎ (is_some (item_at cells l.number) ≡ true))

abbrev pub decreases-loop-number : goal.decreases-loop-number
decreases-loop-number l = l.number
