use Rattle.std.proofs.Common.{◌≡◌, ◌++◌, drop}
use Rattle.sc_flatten.proofs.pending.Pending.push_all.Given as goal

-- the numbers from the place on are pending
abbrev pub invariant-loop-place : goal.invariant-loop-place
invariant-loop-place l = l.self ≡ drop l.place l.numbers ++ l.fn.self
