-- A reader and a writer of std, as contracts see them.
use Rattle.std.specs.Prelude.{ℕ, true, false, List, Option}
use Rattle.sc_io.specs.Moments.{SourceMoment, SinkMoment}
use Rattle.sc_io.specs.declared.edge.ReaderSource.{ReaderSource}
use Rattle.sc_io.specs.declared.edge.WriterSink.{WriterSink}

-- A source over a reader of std: what is left is what the reader tells, and each fault is one answer.
abbrev pub reader_moment : {R : Type 0} → (R → Option (List ℕ)) → ReaderSource R → SourceMoment
reader_moment remaining s = record { left = remaining s.reader; faults = s.faults; failed_answers = s.faults; has_failed = s.has_failed; never_fails = false }

-- A sink over a writer of std: what was written is what the writer tells, and each fault is one answer. It never wants memory.
abbrev pub writer_moment : {W : Type 0} → (W → Option (List ℕ)) → WriterSink W → SinkMoment
writer_moment contents s = record { written = contents s.writer; faults = s.faults; failed_answers = s.faults; has_failed = s.has_failed; wants = 0; has_wanted = false; never_fails = false; never_lacks_memory = true }

-- a source that has not failed yet, with these bytes left
abbrev pub fresh_source : Option (List ℕ) → SourceMoment
fresh_source left = record { left = left; faults = 0; failed_answers = 0; has_failed = false; never_fails = false }

-- a sink that has not failed yet and never wants memory, with these bytes written
abbrev pub fresh_sink : Option (List ℕ) → SinkMoment
fresh_sink written = record { written = written; faults = 0; failed_answers = 0; has_failed = false; wants = 0; has_wanted = false; never_fails = false; never_lacks_memory = true }
