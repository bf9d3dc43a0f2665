use Rattle.std.proofs.Common.{ℕ, ◌<◌, ◌≤◌, ◌≡◌, true, false, length, take}
use Rattle.sc_sorts.specs.Sorts.{may_hold}
use Rattle.sc_model.specs.Deciding.{tells}
use Rattle.sc_model.proofs.equations.are_told_apart.Given as goal

-- no element so far tells them apart
abbrev pub invariant-loop-place : goal.invariant-loop-place
invariant-loop-place l = (n : ℕ) → 0 < n → n ≤ l.place → may_hold l.problem l.first n ≡ true → tells l.path.facts n l.first l.second ≡ false
