-- The responses to a script as the transcript of a check.
use Rattle.std.specs.Prelude.{◌≡◌, ℕ, true, false, List, ◌∷◌, ◌++◌, length}
use Rattle.std.specs.List.{AllByRecursion, AllZip, flat_map}
use Rattle.sc_text.specs.Readings.{Lexeme, Reads, Whole}
use Rattle.sc_sexpr.specs.declared.item.Item.TheVariants as item
use Rattle.sc_sexpr.specs.Scans.{Piece}
use Rattle.sc_sexpr.specs.View.{View, answer}
use Rattle.sc_deriv_text.specs.Sexpr.{plain, tokens_of}
use Rattle.sc_tree.specs.declared.verdict.Verdict.{Verdict}
use Rattle.sc_session.specs.Scripts.{Item, Script, IsTold, Reads as IsScript}
use Rattle.sc_session.specs.Courses.{course_of, HasVerdicts}
use Rattle.sc_check.specs.Lines.{Tally}
use Rattle.sc_check.specs.Reports.{IsWhole, Judges}
use Rattle.sc_check.specs.Printed.{proofs_of, IsCopyOf, derivations_in, all_accepted}

-- some bytes have the tokens of the item
abbrev pub IsToldItem : Item → Type 0
IsToldItem i = (p : Piece) × IsTold p i

-- The items are those of the text: their tokens, one after the other, are the text's.
pub record AreItemsOf (text : List ℕ) (items : List Item) : Type 0 where
  pub told : AllByRecursion IsToldItem items
  pub tokens : Reads true text (flat_map (λ i. tokens_of (plain i.shape)) items) Whole

-- The derivations among the items of the responses to a script, also where the last one is an error, are copies of those that its get-proofs are answered with, in order.
abbrev pub TranscriptsAreCopies : Type 0
TranscriptsAreCopies =
    (text : List ℕ) (script : Script) → IsScript text script →
    (budget : ℕ) (verdicts : List Verdict) → HasVerdicts budget script verdicts →
    (items : List Item) → AreItemsOf (course_of script verdicts).bytes items → AllZip IsCopyOf (proofs_of script verdicts) (derivations_in items)

-- Both texts have these tokens: white space and comments may differ.
pub record HaveSameTokens (a b : List ℕ) : Type 0 where
  pub tokens : List Lexeme
  pub first : Reads true a tokens Whole
  pub second : Reads true b tokens Whole

-- So where a check has an input, follows such a script without an error up to its (exit), and the bytes behind that are the responses, but for white space and comments, each derivation that was printed is accepted when all items are judged, and none is refused. Where solving has no error, there is one for each get-proof.
abbrev pub ChecksAcceptTranscripts : Type 0
ChecksAcceptTranscripts =
    (text : List ℕ) (script : Script) → IsScript text script →
    (budget : ℕ) (verdicts : List Verdict) → HasVerdicts budget script verdicts →
    (input : List ℕ) (v y : View) → IsWhole v input → (t : Tally) (judges : Judges v t y) (behind : List Item) → script.items ≡ judges.follows.items ++ judges.leaves.i ∷ behind →
    HaveSameTokens (course_of script verdicts).bytes judges.behind.unread → (answer y).item ≡ item.End →
    (t ≡ all_accepted (length (proofs_of script verdicts))) × ((course_of script verdicts).fails ≡ false → length (proofs_of script verdicts) ≡ length judges.script.asked)
