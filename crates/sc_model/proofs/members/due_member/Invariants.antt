use Rattle.std.proofs.Common.{ℕ, ◌<◌, ◌≤◌, ◌≡◌, true, false, length, take}
use Rattle.sc_model.specs.Modelling.{label_in}
use Rattle.sc_model.specs.Deciding.{FollowsIn}
use Rattle.sc_model.proofs.members.due_member.Given as goal

-- all that follows stands in the sets so far
abbrev pub invariant-loop-place : goal.invariant-loop-place
invariant-loop-place l = (n : ℕ) → 0 < n → n ≤ l.place → FollowsIn l.problem l.path.facts (label_in l.labels) n
