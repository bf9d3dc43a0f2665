use Rattle.std.proofs.Common.{take}
use Rattle.sc_model.specs.Deciding.{AllPassOn}
use Rattle.sc_model.proofs.links.link.Given as goal

-- of the pairs so far none has one of its two linked alone
abbrev pub invariant-loop-pair : goal.invariant-loop-pair
invariant-loop-pair l = AllPassOn l.path.facts l.element (take l.pair-index l.pairs)
