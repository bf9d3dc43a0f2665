use Rattle.std.proofs.Common.{◌≡◌, take}
use Rattle.sc_tree.specs.Chains.{firsts}
use Rattle.sc_tree.proofs.climb.firsts_of.Given as goal

-- the first branches of the steps so far
abbrev pub invariant-loop-step : goal.invariant-loop-step
invariant-loop-step l = l.steps.items ≡ firsts (take l.step-index l.chain)
