-- What reads do to a source.
use Rattle.std.specs.Prelude.{◌≡◌, ℕ, ◌<◌, ◌≤◌, true, false, List, [], length, take}
use Rattle.std.specs.Io.KnownBytes.{Consumes, IsAtEnd}
use Rattle.sc_io.specs.Counts.{next_count, Rose}
use Rattle.sc_io.specs.Moments.{SourceMoment}
use Rattle.sc_io.specs.declared.source.Got.{Got}
use Rattle.sc_io.specs.declared.source.Got.TheVariants as got

-- these bytes were taken, by any number of reads, and none of them failed
pub record IsRead (before after : SourceMoment) (bytes : List ℕ) : Type 0 where
  pub consumed : Consumes before.left after.left bytes
  pub later : before.faults ≤ after.faults
  pub unfailed : after.failed_answers ≡ before.failed_answers
  pub steady : before.never_fails ≡ true → after.faults ≡ before.faults
  pub same : after.never_fails ≡ before.never_fails

-- these bytes were taken, and then the last read failed, and no other
pub record IsReadToFault (before after : SourceMoment) (bytes : List ℕ) : Type 0 where
  pub consumed : Consumes before.left after.left bytes
  pub later : before.faults ≤ after.faults
  pub rose : Rose before.faults after.faults
  pub failed : after.failed_answers ≡ next_count before.failed_answers
  pub last : after.has_failed ≡ true
  pub may_fail : before.never_fails ≡ false
  pub same : after.never_fails ≡ before.never_fails

-- a read gives the next bytes, at least one; at the end there is none, and a failed read takes none
abbrev pub ReadGives : SourceMoment → SourceMoment → List ℕ → Got → Type 0
ReadGives before after buf (got.Bytes n) = (0 < n) × (n ≤ length buf) × (after.has_failed ≡ false) × IsRead before after (take n buf)
ReadGives before after buf got.End = IsAtEnd after.left × (after.has_failed ≡ false) × IsRead before after []
ReadGives before after buf got.Failed = IsReadToFault before after []
