use Rattle.std.proofs.Common.{ℕ, ◌<◌, ◌≤◌, ◌≡◌, true, false, length, take}
use Rattle.std.specs.Prelude.{is_some}
use Rattle.sc_sorts.specs.Sorts.{may_hold}
use Rattle.sc_rules.specs.Members.{within_of}
use Rattle.sc_model.proofs.members.undecided_in_set.Given as goal

-- the elements so far are in the set or outside it
abbrev pub invariant-loop-place : goal.invariant-loop-place
invariant-loop-place l = (n : ℕ) → 0 < n → n ≤ l.place → may_hold l.problem l.set n ≡ true → is_some (within_of l.path.facts n l.set) ≡ true
