-- A source and a sink in memory, as contracts see them, and what their calls do.
use Rattle.std.specs.Prelude.{◌≡◌, ◌==◌, if◌then◌else◌, ℕ, min, Bool, true, false, List, [], ◌++◌, length, take, drop, Some}
use Rattle.std.specs.List.{list_any}
use Rattle.sc_io.specs.Counts.{next_count}
use Rattle.sc_io.specs.Moments.{SourceMoment, SinkMoment}
use Rattle.sc_io.specs.declared.source.Got.{Got}
use Rattle.sc_io.specs.declared.source.Got.TheVariants as got
use Rattle.sc_io.specs.declared.sink.Wrote.{Wrote}
use Rattle.sc_io.specs.declared.sink.Wrote.TheVariants as wrote

-- A source in memory: the bytes that are left, the numbers of the calls that fail, the most bytes of a call,
-- how many calls there were, how many of them failed, and whether the last did. The counts stand still at 2 ^ 64 - 1.
pub record MemoryInput : Type 0 where
  pub left : List ℕ
  pub failing : List ℕ
  pub most : ℕ
  pub calls : ℕ
  pub faults : ℕ
  pub has_failed : Bool

-- A sink in memory: the bytes that were written, how often a call wanted memory, whether the last one did, and the rest as for a source.
pub record MemoryOutput : Type 0 where
  pub written : List ℕ
  pub failing : List ℕ
  pub most : ℕ
  pub calls : ℕ
  pub faults : ℕ
  pub has_failed : Bool
  pub wants : ℕ
  pub has_wanted : Bool

-- Whether the next call fails: its number, counted from 1, is listed.
abbrev pub fails_next : List ℕ → ℕ → Bool
fails_next failing calls = list_any (λ call. call == next_count calls) failing

-- a source on which no call was made
abbrev pub fresh_input : List ℕ → List ℕ → ℕ → MemoryInput
fresh_input bytes failing most = record { left = bytes; failing = failing; most = most; calls = 0; faults = 0; has_failed = false }

-- a sink on which no call was made
abbrev pub fresh_output : List ℕ → ℕ → MemoryOutput
fresh_output failing most = record { written = []; failing = failing; most = most; calls = 0; faults = 0; has_failed = false; wants = 0; has_wanted = false }

-- A source in memory as any source: with an empty list it never fails.
abbrev pub input_moment : MemoryInput → SourceMoment
input_moment s = record { left = Some s.left; faults = s.faults; failed_answers = s.faults; has_failed = s.has_failed; never_fails = length s.failing == 0 }

-- A sink in memory as any sink: with an empty list it never fails, and it may always want memory.
abbrev pub output_moment : MemoryOutput → SinkMoment
output_moment s = record { written = Some s.written; faults = s.faults; failed_answers = s.faults; has_failed = s.has_failed; wants = s.wants; has_wanted = s.has_wanted; never_fails = length s.failing == 0; never_lacks_memory = false }

-- what a read into a buffer of so many bytes answers
abbrev pub read_answer : MemoryInput → ℕ → Got
read_answer s room = if fails_next s.failing s.calls then got.Failed else if length s.left == 0 then got.End else got.Bytes (min s.most (min room (length s.left)))

-- how many bytes a read gave
abbrev pub given_by : Got → ℕ
given_by (got.Bytes n) = n
given_by got.End = 0
given_by got.Failed = 0

-- the source after a read with this answer
abbrev pub after_read : MemoryInput → Got → MemoryInput
after_read s (got.Bytes n) = record s { left = drop n s.left; calls = next_count s.calls; has_failed = false }
after_read s got.End = record s { calls = next_count s.calls; has_failed = false }
after_read s got.Failed = record s { calls = next_count s.calls; faults = next_count s.faults; has_failed = true }

-- a write of so many bytes may answer this: want of memory alone is free, where the call is not to fail
abbrev pub MayAnswer : MemoryOutput → ℕ → Wrote → Type 0
MayAnswer s size (wrote.Took n) = (fails_next s.failing s.calls ≡ false) × (n ≡ min s.most size)
MayAnswer s size wrote.Failed = fails_next s.failing s.calls ≡ true
MayAnswer s size wrote.Memory = fails_next s.failing s.calls ≡ false

-- the sink after a write of a piece with this answer
abbrev pub after_write : MemoryOutput → List ℕ → Wrote → MemoryOutput
after_write s piece (wrote.Took n) = record s { written = s.written ++ take n piece; calls = next_count s.calls; has_failed = false; has_wanted = false }
after_write s piece wrote.Failed = record s { calls = next_count s.calls; faults = next_count s.faults; has_failed = true; has_wanted = false }
after_write s piece wrote.Memory = record s { calls = next_count s.calls; has_failed = false; wants = next_count s.wants; has_wanted = true }
