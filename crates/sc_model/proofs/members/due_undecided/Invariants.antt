use Rattle.std.proofs.Common.{ℕ, ◌<◌, ◌≤◌, ◌≡◌, true, false, length, take}
use Rattle.sc_model.specs.Deciding.{IsDecidedIn}
use Rattle.sc_model.proofs.members.due_undecided.Given as goal

-- each element is in each of the sets so far or outside it
abbrev pub invariant-loop-place : goal.invariant-loop-place
invariant-loop-place l = (n : ℕ) → 0 < n → n ≤ l.place → IsDecidedIn l.problem l.path.facts n
