-- How a check ends, and why.
use Rattle.std.specs.Prelude.{◌≡◌, ◌⊎◌, ℕ, List}
use Rattle.sc_io.specs.Moments.{SourceMoment, SinkMoment}
use Rattle.sc_io.specs.Writing.{IsWritten, IsCutByFault, IsCutByMemory}
use Rattle.sc_sexpr.specs.View.{View}
use Rattle.sc_check.specs.declared.ending.Ending.{Ending}
use Rattle.sc_check.specs.declared.ending.Ending.TheVariants.{Done, Error, ReadFault, WriteFault, Memory, Refused, Nothing}
use Rattle.sc_input.specs.Gathering.{IsReadInPart, IsCutOff}
use Rattle.sc_check.specs.Gathering.{IsGathered, most_input}
use Rattle.sc_check.specs.Reports.{IsWhole, Reports, Says}

-- the outside at a moment
pub record Moment : Type 0 where
  pub source : SourceMoment
  pub sink : SinkMoment

abbrev pub at_moment : SourceMoment → SinkMoment → Moment
at_moment source sink = record { source = source; sink = sink }

-- all that is said of the input was written
pub record IsReported (v : View) (before after : SinkMoment) (e : Ending) : Type 0 where
  pub bytes : List ℕ
  pub reports : Reports v bytes e
  pub written : IsWritten before after bytes

-- what is said up to some item was not written whole, as the sink failed
pub record IsCutShort (v : View) (before after : SinkMoment) : Type 0 where
  pub bytes : List ℕ
  pub says : Says v bytes
  pub cut : IsCutByFault before after bytes

-- what is said up to some item was written, or a front of it, and then memory was wanted
pub record IsLeftOff (v : View) (before after : SinkMoment) : Type 0 where
  pub bytes : List ℕ
  pub says : Says v bytes
  pub part : IsCutByMemory before after bytes ⊎ IsWritten before after bytes

-- how a check ends for a splitter that has the whole text
abbrev pub JudgeGives : View → SinkMoment → SinkMoment → Ending → Type 0
JudgeGives v before after Done = IsReported v before after Done
JudgeGives v before after Error = IsReported v before after Error
JudgeGives v before after ReadFault = ⊥
JudgeGives v before after WriteFault = IsCutShort v before after
JudgeGives v before after Memory = IsLeftOff v before after
JudgeGives v before after Refused = IsReported v before after Refused
JudgeGives v before after Nothing = IsReported v before after Nothing

-- The input was read to its end, and so the check of its text ends.
pub record IsChecked (before after : Moment) (e : Ending) : Type 0 where
  pub text : List ℕ
  pub gathered : IsGathered before.source after.source text
  pub splitter : View
  pub whole : IsWhole splitter text
  pub judged : JudgeGives splitter before.sink after.sink e

-- How a run that checks ends.
abbrev pub CheckEnds : Moment → Moment → Ending → Type 0
CheckEnds before after Done = IsChecked before after Done
CheckEnds before after Error = IsChecked before after Error
CheckEnds before after ReadFault = IsCutOff before.source after.source most_input × (after.sink ≡ before.sink)
CheckEnds before after WriteFault = IsChecked before after WriteFault
CheckEnds before after Memory = (IsReadInPart before.source after.source most_input × (after.sink ≡ before.sink)) ⊎ IsChecked before after Memory
CheckEnds before after Refused = IsChecked before after Refused
CheckEnds before after Nothing = IsChecked before after Nothing
