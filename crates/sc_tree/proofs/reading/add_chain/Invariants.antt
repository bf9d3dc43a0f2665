use Rattle.std.proofs.Common.{◌≡◌, ◌++◌, take}
use Rattle.sc_tree.specs.Reading.{step_nodes}
use Rattle.sc_tree.proofs.reading.add_chain.Given as goal

-- the steps so far were added
abbrev pub invariant-loop-step : goal.invariant-loop-step
invariant-loop-step l = l.nodes.items ≡ l.fn.nodes.items ++ step_nodes (take l.step-index l.chain)
