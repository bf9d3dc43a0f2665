use Rattle.std.proofs.Common.{◌≡◌, ◌++◌, drop}
use Rattle.sc_flatten.specs.Walk.{form_parts}
use Rattle.sc_flatten.proofs.pending.Pending.push_cards.Given as goal

-- the sets of the terms from the place on are pending
abbrev pub invariant-loop-place : goal.invariant-loop-place
invariant-loop-place l = l.self ≡ form_parts (drop l.place l.terms) ++ l.fn.self
