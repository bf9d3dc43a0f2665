-- What writes do to a sink.
use Rattle.std.specs.Prelude.{◌≡◌, ℕ, ◌<◌, ◌≤◌, true, false, List, [], ◌++◌, length, take, Result, Ok, Err}
use Rattle.std.specs.Io.KnownBytes.{Appends}
use Rattle.sc_io.specs.Counts.{next_count, Rose}
use Rattle.sc_io.specs.Moments.{SinkMoment}
use Rattle.sc_io.specs.declared.sink.Wrote.{Wrote}
use Rattle.sc_io.specs.declared.sink.Wrote.TheVariants as wrote
use Rattle.sc_io.specs.declared.put.PutError.{PutError}
use Rattle.sc_io.specs.declared.put.PutError.TheVariants as errors

-- what calls never change
pub record IsSameSink (before after : SinkMoment) : Type 0 where
  pub failing : after.never_fails ≡ before.never_fails
  pub memory : after.never_lacks_memory ≡ before.never_lacks_memory

-- these bytes were appended, by any number of writes, each of which took some
pub record IsWritten (before after : SinkMoment) (bytes : List ℕ) : Type 0 where
  pub appended : Appends before.written after.written bytes
  pub later : before.faults ≤ after.faults
  pub unfailed : after.failed_answers ≡ before.failed_answers
  pub unwanting : after.wants ≡ before.wants
  pub steady : before.never_fails ≡ true → after.faults ≡ before.faults
  pub same : IsSameSink before after

-- these bytes were appended, and then the last write failed, and no other
pub record IsWrittenToFault (before after : SinkMoment) (bytes : List ℕ) : Type 0 where
  pub appended : Appends before.written after.written bytes
  pub later : before.faults ≤ after.faults
  pub rose : Rose before.faults after.faults
  pub failed : after.failed_answers ≡ next_count before.failed_answers
  pub last : after.has_failed ≡ true
  pub unwanting : after.wants ≡ before.wants
  pub may_fail : before.never_fails ≡ false
  pub same : IsSameSink before after

-- these bytes were appended, and then the last write wanted memory, and no other
pub record IsWrittenToWant (before after : SinkMoment) (bytes : List ℕ) : Type 0 where
  pub appended : Appends before.written after.written bytes
  pub later : before.faults ≤ after.faults
  pub unfailed : after.failed_answers ≡ before.failed_answers
  pub wanted : after.wants ≡ next_count before.wants
  pub last : after.has_wanted ≡ true
  pub steady : before.never_fails ≡ true → after.faults ≡ before.faults
  pub may_want : before.never_lacks_memory ≡ false
  pub same : IsSameSink before after

-- a write appends the first bytes of the piece, at least one, or none at all; want of memory is no fault
abbrev pub WriteGives : SinkMoment → SinkMoment → List ℕ → Wrote → Type 0
WriteGives before after piece (wrote.Took n) = (0 < n) × (n ≤ length piece) × (after.has_failed ≡ false) × (after.has_wanted ≡ false) × IsWritten before after (take n piece)
WriteGives before after piece wrote.Failed = (after.has_wanted ≡ false) × IsWrittenToFault before after []
WriteGives before after piece wrote.Memory = (after.has_failed ≡ false) × (after.faults ≡ before.faults) × IsWrittenToWant before after []

-- a front of the bytes was appended, and then the sink wanted memory, before the rest
pub record IsCutByMemory (before after : SinkMoment) (bytes : List ℕ) : Type 0 where
  pub front : List ℕ
  pub rest : List ℕ
  pub parts : bytes ≡ front ++ rest
  pub left : 0 < length rest
  pub written : IsWrittenToWant before after front

-- a front of the bytes was appended, and then the sink failed, before the rest
pub record IsCutByFault (before after : SinkMoment) (bytes : List ℕ) : Type 0 where
  pub front : List ℕ
  pub rest : List ℕ
  pub parts : bytes ≡ front ++ rest
  pub left : 0 < length rest
  pub written : IsWrittenToFault before after front

-- the whole piece is written, or a front of it with an error
abbrev pub PutGives : SinkMoment → SinkMoment → List ℕ → Result (Unit {0}) PutError → Type 0
PutGives before after piece (Ok _) = IsWritten before after piece
PutGives before after piece (Err errors.Sink) = IsCutByFault before after piece
PutGives before after piece (Err errors.Memory) = IsCutByMemory before after piece
