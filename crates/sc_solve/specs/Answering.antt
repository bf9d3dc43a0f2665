-- What one item, or the end of the items, does to a session and a sink.
use Rattle.std.specs.Prelude.{◌≡◌, ◌⊎◌, ℕ, List, Option, Some, None, Result, Ok, Err}
use Rattle.sc_io.specs.Moments.{SinkMoment}
use Rattle.sc_io.specs.Writing.{IsWritten, IsCutByFault, IsCutByMemory}
use Rattle.sc_session.specs.Said.{Said}
use Rattle.sc_session.specs.Said as said
use Rattle.sc_session.specs.Scripts.{Item}
use Rattle.sc_session.specs.States.{State}
use Rattle.sc_session.specs.Effects.{turn}
use Rattle.sc_session.specs.Doing.{HasEffect}
use Rattle.sc_session.specs.Courses.{fault_line}
use Rattle.sc_sexpr.specs.declared.item.Fault.{Fault}
use Rattle.sc_io.specs.declared.put.PutError.{PutError}
use Rattle.sc_io.specs.declared.put.PutError.TheVariants as put
use Rattle.sc_solve.specs.declared.ending.Ending.{Ending}
use Rattle.sc_solve.specs.declared.ending.Ending.TheVariants as ending

-- how a piece that isn't written whole ends the run
abbrev pub of_writing : PutError → Ending
of_writing put.Sink = ending.WriteFault
of_writing put.Memory = ending.Memory

abbrev pub bytes_of : Said → List ℕ
bytes_of (said.Text bytes) = bytes
bytes_of (said.Error bytes) = bytes
bytes_of (said.Exit bytes) = bytes

-- how the script ends with a response, or nothing where it goes on
abbrev pub end_of : Said → Option Ending
end_of (said.Text bytes) = None
end_of (said.Error bytes) = Some ending.Error
end_of (said.Exit bytes) = Some ending.Done

-- the same, where the bytes may not have been written whole
abbrev pub ended_with : Result (Unit {0}) PutError → Option Ending → Option Ending
ended_with (Ok u) end = end
ended_with (Err e) end = Some (of_writing e)

-- the item was answered, and the bytes were written
pub record IsAnswered (old new : State) (i : Item) (budget : ℕ) (before after : SinkMoment) (r : Said) : Type 0 where
  pub does : HasEffect old (turn old i) budget r new
  pub written : IsWritten before after (bytes_of r)

-- the item was answered, and the sink failed within the bytes, or wanted memory
pub record IsCut (old new : State) (i : Item) (budget : ℕ) (Cut : List ℕ → Type 0) : Type 0 where
  pub given : Said
  pub does : HasEffect old (turn old i) budget given new
  pub cut : Cut (bytes_of given)

-- there was no memory for the item's response, and nothing was written
pub record IsUnanswered (old new : State) (before after : SinkMoment) : Type 0 where
  pub verdicts : new.verdicts ≡ old.verdicts
  pub same : after ≡ before

-- What an item does: the script goes on behind it, or how it ends.
abbrev pub AnswerGives : State → State → Item → ℕ → SinkMoment → SinkMoment → Option Ending → Type 0
AnswerGives old new i budget before after None = (bytes : List ℕ) × IsAnswered old new i budget before after (said.Text bytes)
AnswerGives old new i budget before after (Some ending.Done) = (bytes : List ℕ) × IsAnswered old new i budget before after (said.Exit bytes)
AnswerGives old new i budget before after (Some ending.Error) = (bytes : List ℕ) × IsAnswered old new i budget before after (said.Error bytes)
AnswerGives old new i budget before after (Some ending.ReadFault) = ⊥
AnswerGives old new i budget before after (Some ending.WriteFault) = IsCut old new i budget (IsCutByFault before after)
AnswerGives old new i budget before after (Some ending.Memory) = IsCut old new i budget (IsCutByMemory before after) ⊎ IsUnanswered old new before after

-- What a fault of the text does.
abbrev pub RefuseGives : Fault → SinkMoment → SinkMoment → Ending → Type 0
RefuseGives fault before after ending.Error = IsWritten before after (fault_line fault)
RefuseGives fault before after ending.WriteFault = IsCutByFault before after (fault_line fault)
RefuseGives fault before after ending.Memory = IsCutByMemory before after (fault_line fault) ⊎ (after ≡ before)
RefuseGives fault before after e = ⊥
