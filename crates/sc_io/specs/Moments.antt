-- A source and a sink at a moment, as contracts see them.
use Rattle.std.specs.Prelude.{ℕ, Bool, List, Option}

-- A source at a moment: the bytes that are left, where it tells them; its count of faults;
-- how often a call has answered `Failed`; whether the last call did; and whether none ever does.
pub record SourceMoment : Type 0 where
  pub left : Option (List ℕ)
  pub faults : ℕ
  pub failed_answers : ℕ
  pub has_failed : Bool
  pub never_fails : Bool

-- A sink at a moment: the bytes that were written, where it tells them; its count of faults; how often a call has answered
-- `Failed`, and whether the last one did; how often a call has answered `Memory`, and whether the last one did;
-- whether none ever answers `Failed`, and whether none ever answers `Memory`.
pub record SinkMoment : Type 0 where
  pub written : Option (List ℕ)
  pub faults : ℕ
  pub failed_answers : ℕ
  pub has_failed : Bool
  pub wants : ℕ
  pub has_wanted : Bool
  pub never_fails : Bool
  pub never_lacks_memory : Bool
