use Rattle.std.proofs.Common.{ℕ, ◌<◌, ◌≤◌, ◌≡◌, true, false, length, take}
use Rattle.sc_model.specs.Deciding.{HasMoves}
use Rattle.sc_model.proofs.equations.due_moves.Given as goal

-- all that follows stands at the formulas so far
abbrev pub invariant-loop-place : goal.invariant-loop-place
invariant-loop-place l = (n : ℕ) → 0 < n → n ≤ l.place → HasMoves l.problem l.path.facts n
