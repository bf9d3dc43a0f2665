use Rattle.std.proofs.Common.{ℕ, ◌<◌, ◌≤◌, ◌≡◌, true, false, length, take}
use Rattle.sc_model.specs.Deciding.{IsTold}
use Rattle.sc_model.proofs.equations.due_differ.Given as goal

-- the sets are told apart at the formulas so far
abbrev pub invariant-loop-place : goal.invariant-loop-place
invariant-loop-place l = (n : ℕ) → 0 < n → n ≤ l.place → IsTold l.problem l.path.facts n
