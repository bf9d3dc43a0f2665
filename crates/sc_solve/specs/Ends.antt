-- How a run that solves ends, and why.
use Rattle.std.specs.Prelude.{◌≡◌, ◌⊎◌, ℕ, true, false, List, [], ◌+◌, ◌<◌, ◌++◌, length}
use Rattle.sc_io.specs.Moments.{SourceMoment, SinkMoment}
use Rattle.sc_io.specs.Writing.{IsWritten, IsCutByFault, IsCutByMemory}
use Rattle.sc_sexpr.specs.Scans.{Reading}
use Rattle.sc_tree.specs.declared.verdict.Verdict.{Verdict}
use Rattle.sc_session.specs.Scripts.{Script, IsScriptOf, Reads, most_bytes}
use Rattle.sc_session.specs.Courses.{course_of, HasVerdicts, HasFirstVerdicts}
use Rattle.sc_solve.specs.declared.ending.Ending.{Ending}
use Rattle.sc_solve.specs.declared.ending.Ending.TheVariants.{Done, Error, ReadFault, WriteFault, Memory}
use Rattle.sc_input.specs.Gathering.{IsReadInPart}
use Rattle.sc_solve.specs.Gathering.{IsGathered, IsCutOff}

-- the outside at a moment
pub record Moment : Type 0 where
  pub source : SourceMoment
  pub sink : SinkMoment

abbrev pub at_moment : SourceMoment → SinkMoment → Moment
at_moment source sink = record { source = source; sink = sink }

-- the bytes of the responses to a script, where its check-sats have these verdicts
abbrev pub responses : Script → List Verdict → List ℕ
responses script verdicts = (course_of script verdicts).bytes

-- a front of the bytes was written, and no write failed or wanted memory
pub record IsWrittenInPart (before after : SinkMoment) (bytes : List ℕ) : Type 0 where
  pub front : List ℕ
  pub rest : List ℕ
  pub parts : bytes ≡ front ++ rest
  pub written : IsWritten before after front

-- How the responses to a script end, by the ending.
abbrev pub Responds : ℕ → Script → SinkMoment → SinkMoment → Ending → List Verdict → Type 0
Responds budget script before after Done verdicts = HasVerdicts budget script verdicts × ((course_of script verdicts).fails ≡ false) × IsWritten before after (responses script verdicts)
Responds budget script before after Error verdicts = HasVerdicts budget script verdicts × ((course_of script verdicts).fails ≡ true) × IsWritten before after (responses script verdicts)
Responds budget script before after ReadFault verdicts = ⊥
Responds budget script before after WriteFault verdicts = HasFirstVerdicts budget script verdicts × IsCutByFault before after (responses script verdicts)
Responds budget script before after Memory verdicts = HasFirstVerdicts budget script verdicts × (IsCutByMemory before after (responses script verdicts) ⊎ IsWrittenInPart before after (responses script verdicts))

-- how the responses to the script that these items are end
abbrev pub RespondGives : ℕ → Reading → SinkMoment → SinkMoment → Ending → List Verdict → Type 0
RespondGives budget r before after e verdicts = (script : Script) → IsScriptOf r script → Responds budget script before after e verdicts

-- A text was read to the end of the input, or up to one byte more than a script may have; it is this script, and so its responses end.
pub record IsSolved (budget : ℕ) (before after : Moment) (e : Ending) (verdicts : List Verdict) : Type 0 where
  pub text : List ℕ
  pub gathered : IsGathered before.source after.source text
  pub script : Script
  pub reads : Reads text script
  -- what follows a text that is longer than a script may have does not matter
  pub long : most_bytes < length text → (more : List ℕ) → Reads (text ++ more) script
  pub responds : Responds budget script before.sink after.sink e verdicts

-- nothing was written, and no check-sat was done
abbrev pub IsSilent : Moment → Moment → List Verdict → Type 0
IsSilent before after verdicts = (after.sink ≡ before.sink) × (verdicts ≡ [])

-- How a run that solves ends.
abbrev pub SolveEnds : ℕ → Moment → Moment → Ending → List Verdict → Type 0
SolveEnds budget before after Done verdicts = IsSolved budget before after Done verdicts
SolveEnds budget before after Error verdicts = IsSolved budget before after Error verdicts
SolveEnds budget before after ReadFault verdicts = IsCutOff before.source after.source most_bytes × IsSilent before after verdicts
SolveEnds budget before after WriteFault verdicts = IsSolved budget before after WriteFault verdicts
SolveEnds budget before after Memory verdicts = (IsReadInPart before.source after.source (most_bytes + 1) × IsSilent before after verdicts) ⊎ IsSolved budget before after Memory verdicts
