use Rattle.std.proofs.Common.{ℕ, ◌<◌, ◌≤◌, ◌≡◌, true, false, length, take}
use Rattle.sc_sorts.specs.Sorts.{may_hold}
use Rattle.sc_model.specs.Settled.{MovesStand}
use Rattle.sc_model.proofs.equations.due_moves_of.Given as goal

-- all that follows stands for the elements so far
abbrev pub invariant-loop-place : goal.invariant-loop-place
invariant-loop-place l = (n : ℕ) → 0 < n → n ≤ l.place → may_hold l.problem l.first n ≡ true → MovesStand l.path.facts n l.first l.second
