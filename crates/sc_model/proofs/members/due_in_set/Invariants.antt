use Rattle.std.proofs.Common.{ℕ, ◌<◌, ◌≤◌, ◌≡◌, true, false, length, take}
use Rattle.sc_sorts.specs.Sorts.{may_hold}
use Rattle.sc_model.specs.Modelling.{label_in}
use Rattle.sc_model.specs.Deciding.{FollowsAt}
use Rattle.sc_model.proofs.members.due_in_set.Given as goal

-- all that follows stands for the elements so far
abbrev pub invariant-loop-place : goal.invariant-loop-place
invariant-loop-place l = (n : ℕ) → 0 < n → n ≤ l.place → may_hold l.problem l.set n ≡ true → FollowsAt l.problem l.path.facts (label_in l.labels) n l.set
