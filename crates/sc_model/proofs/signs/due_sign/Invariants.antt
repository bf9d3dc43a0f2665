use Rattle.std.proofs.Common.{ℕ, ◌<◌, ◌≤◌}
use Rattle.sc_model.specs.Settled.{IsBorneOut}
use Rattle.sc_model.proofs.signs.due_sign.Given as goal

-- the path bears out the signs so far
abbrev pub invariant-loop-place : goal.invariant-loop-place
invariant-loop-place l = (n : ℕ) → 0 < n → n ≤ l.place → IsBorneOut l.problem l.path.facts n
