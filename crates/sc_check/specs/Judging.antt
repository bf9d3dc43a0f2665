-- What judging the items of a transcript does.
use Rattle.std.specs.Prelude.{◌≡◌, ◌⊎◌, ℕ, ◌+◌, ◌==◌, ◌||◌, Bool, true, false, not, if◌then◌else◌, List, ◌++◌, Option, Some, None, slice_get, ⊤, Result, Ok, Err}
use Rattle.std.specs.List.{AllByRecursion}
use Rattle.sc_io.specs.Moments.{SinkMoment}
use Rattle.sc_io.specs.Writing.{IsWritten, IsCutByFault, IsCutByMemory}
use Rattle.sc_io.specs.declared.put.PutError.{PutError}
use Rattle.sc_io.specs.declared.put.PutError.TheVariants as put
use Rattle.sc_sexpr.specs.declared.item.Item.TheVariants as item
use Rattle.sc_sexpr.specs.declared.item.Fault.{Fault}
use Rattle.sc_sexpr.specs.Shapes.{Shape}
use Rattle.sc_sexpr.specs.View.{View, answer}
use Rattle.sc_terms.specs.Bank.{IsFormulaOf}
use Rattle.sc_terms.specs.declared.nodes.Node.{Node}
use Rattle.sc_deriv.specs.declared.derivation.Judgement.{Judgement}
use Rattle.sc_deriv_text.specs.Reading.{reading}
use Rattle.sc_flatten.specs.Stock.{stock}
use Rattle.sc_sexpr.specs.Scans.{Piece}
use Rattle.sc_session.specs.Scripts.{Item, IsTold}
use Rattle.sc_session.specs.States.{State}
use Rattle.sc_session.specs.Courses.{fault_line}
use Rattle.sc_check.specs.declared.ending.Ending.{Ending}
use Rattle.sc_check.specs.declared.ending.Ending.TheVariants as ending
use Rattle.sc_check.specs.declared.finding.Finding.{Finding}
use Rattle.sc_check.specs.declared.judge.Count.{Count}
use Rattle.sc_check.specs.Lines.{Tally, no_lines, judged, finding, finding_line, is_accepted, is_derivation, tally}
use Rattle.sc_check.specs.Reports.{Gives, ending_of as ending_of_tally}

-- the numbers are those of formulas of the session's terms
abbrev pub AreOf : State → List ℕ → Type 0
AreOf s ns = AllByRecursion (IsFormulaOf s.bank) ns

abbrev pub AreOfAll : State → Option (List ℕ) → Type 0
AreOfAll s (Some ns) = AreOf s ns
AreOfAll s None = ⊤

abbrev pub AreAllOf : State → List (List ℕ) → Type 0
AreAllOf s lists = AllByRecursion (AreOf s) lists

abbrev pub judgement : State → List ℕ → Shape → Judgement
judgement s ns shape = judged (stock s.bank ns) (reading shape)

abbrev pub of_writing : PutError → Ending
of_writing put.Sink = ending.WriteFault
of_writing put.Memory = ending.Memory

-- one more derivation was counted
abbrev pub counted : Count → Finding → Count
counted c f = record { number = c.number + 1; refused = c.refused || not (is_accepted f) }

-- the line was written and counted, or not written whole
abbrev pub TellGives : Finding → Count → Count → SinkMoment → SinkMoment → Result (Unit {0}) Ending → Type 0
TellGives f old new before after (Ok u) = IsWritten before after (finding_line (old.number + 1) f) × (new ≡ counted old f)
TellGives f old new before after (Err ending.WriteFault) = IsCutByFault before after (finding_line (old.number + 1) f)
TellGives f old new before after (Err ending.Memory) = IsCutByMemory before after (finding_line (old.number + 1) f) ⊎ (after ≡ before)
TellGives f old new before after (Err e) = ⊥

-- what is no derivation was passed over
abbrev pub IsPassed : Count → Count → SinkMoment → SinkMoment → Type 0
IsPassed old new before after = (new ≡ old) × (after ≡ before)

-- one of two, by a test
abbrev pub Either : Bool → Type 0 → Type 0 → Type 0
Either true first second = first
Either false first second = second

-- these bytes are an item; where it is a derivation it was judged, and its line written so
pub record IsItem (bank : List Node) (asked : List (List ℕ)) (p : Piece) (number : ℕ) (Judged : Finding → Type 0) (Passed : Type 0) : Type 0 where
  pub i : Item
  pub told : IsTold p i
  pub line : Either (is_derivation i.shape) (Judged (finding bank (slice_get asked number) i.shape)) Passed

-- an item was judged or passed over, or there was no memory to read it
abbrev pub ItemGives : List Node → List (List ℕ) → Piece → Count → Count → SinkMoment → SinkMoment → Result (Unit {0}) Ending → Type 0
ItemGives bank asked p old new before after (Ok u) = IsItem bank asked p old.number (λ f. TellGives f old new before after (Ok u)) (IsPassed old new before after)
ItemGives bank asked p old new before after (Err ending.Memory) = IsItem bank asked p old.number (λ f. TellGives f old new before after (Err ending.Memory)) ⊥ ⊎ (after ≡ before)
ItemGives bank asked p old new before after (Err e) = IsItem bank asked p old.number (λ f. TellGives f old new before after (Err e)) ⊥

-- the line of an error, which ends the check
abbrev pub RefuseGives : List ℕ → SinkMoment → SinkMoment → Ending → Type 0
RefuseGives line before after ending.Error = IsWritten before after line
RefuseGives line before after ending.WriteFault = IsCutByFault before after line
RefuseGives line before after ending.Memory = IsCutByMemory before after line
RefuseGives line before after e = ⊥

abbrev pub ending_of : Count → Ending
ending_of c = if c.refused then ending.Refused else if c.number == 0 then ending.Nothing else ending.Done

-- the lines of some items that the splitter gives
pub record IsTallied (v : View) (bank : List Node) (asked : List (List ℕ)) (t : Tally) (w : View) : Type 0 where
  pub items : List Item
  pub gives : Gives v items w
  pub tallied : t ≡ tally bank asked no_lines items

-- all lines were written
pub record IsJudged (v : View) (bank : List Node) (asked : List (List ℕ)) (before after : SinkMoment) (e : Ending) : Type 0 where
  pub lines : Tally
  pub behind : View
  pub tallied : IsTallied v bank asked lines behind
  pub at_end : (answer behind).item ≡ item.End
  pub ending : e ≡ ending_of_tally lines
  pub written : IsWritten before after lines.bytes

-- all lines were written, and that of a fault of the text
pub record IsFaulty (v : View) (bank : List Node) (asked : List (List ℕ)) (Puts : List ℕ → Type 0) : Type 0 where
  pub lines : Tally
  pub behind : View
  pub fault : Fault
  pub tallied : IsTallied v bank asked lines behind
  pub bad : (answer behind).item ≡ item.Bad fault
  pub puts : Puts (lines.bytes ++ fault_line fault)

-- the lines up to some item were written so
pub record IsStopped (v : View) (bank : List Node) (asked : List (List ℕ)) (Puts : List ℕ → Type 0) : Type 0 where
  pub lines : Tally
  pub behind : View
  pub tallied : IsTallied v bank asked lines behind
  pub puts : Puts lines.bytes

abbrev pub TranscriptGives : View → List Node → List (List ℕ) → SinkMoment → SinkMoment → Ending → Type 0
TranscriptGives v bank asked before after ending.Done = IsJudged v bank asked before after ending.Done
TranscriptGives v bank asked before after ending.Error = IsFaulty v bank asked (IsWritten before after)
TranscriptGives v bank asked before after ending.ReadFault = ⊥
TranscriptGives v bank asked before after ending.WriteFault = IsStopped v bank asked (IsCutByFault before after) ⊎ IsFaulty v bank asked (IsCutByFault before after)
TranscriptGives v bank asked before after ending.Memory = IsStopped v bank asked (IsCutByMemory before after) ⊎ (IsStopped v bank asked (IsWritten before after) ⊎ IsFaulty v bank asked (IsCutByMemory before after))
TranscriptGives v bank asked before after ending.Refused = IsJudged v bank asked before after ending.Refused
TranscriptGives v bank asked before after ending.Nothing = IsJudged v bank asked before after ending.Nothing
