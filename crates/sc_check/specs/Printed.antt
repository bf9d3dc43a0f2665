-- What a check says of the derivations that the same script prints where it is solved.
use Rattle.std.specs.Prelude.{◌≡◌, ℕ, zero, suc, Bool, true, false, List, [], ◌∷◌, ◌++◌, length, filter, Option, Some, None, slice_get, Result, Ok}
use Rattle.std.specs.List.{AllZip}
use Rattle.sc_text.specs.declared.code.Code.{Code}
use Rattle.sc_text.specs.Readings.{Lexeme, Reads, Whole}
use Rattle.sc_sexpr.specs.Scans.{Piece}
use Rattle.sc_sexpr.specs.View.{View}
use Rattle.sc_commands.specs.Commands.{CommandShape, GetProof}
use Rattle.sc_commands.specs.Forms.{command_of}
use Rattle.sc_terms.specs.declared.nodes.Node.{Node}
use Rattle.sc_deriv.specs.declared.derivation.Derivation.{Derivation}
use Rattle.sc_deriv.specs.declared.derivation.Judgement.TheVariants.{Accepted}
use Rattle.sc_deriv_text.specs.Text.{item_of, text_of}
use Rattle.sc_tree.specs.declared.verdict.Verdict.{Verdict}
use Rattle.sc_session.specs.Said as said
use Rattle.sc_session.specs.declared.tracing.Traced.TheVariants as traced
use Rattle.sc_session.specs.Scripts.{Item, Script, IsTold}
use Rattle.sc_session.specs.States.{State, start, with_verdict, proof}
use Rattle.sc_session.specs.Effects.{Effect, Answers, Checks, turn}
use Rattle.sc_session.specs.Courses.{course_of, AreJust, HasVerdicts}
use Rattle.sc_session.specs.Tracing.{step}
use Rattle.sc_check.specs.declared.finding.Finding.TheVariants as found
use Rattle.sc_check.specs.Lines.{Tally, no_lines, finding, finding_line, is_derivation, tally}
use Rattle.sc_check.specs.Reports.{standing, follow, fresh, Judges}

-- ---- where the script is solved
-- what a get-proof is answered with; no other command asks for a derivation
abbrev pub proof_for : Result CommandShape Code → State → Option Derivation
proof_for (Ok GetProof) s = proof s
proof_for command s = None

abbrev pub with_proof : Option Derivation → List Derivation → List Derivation
with_proof (Some d) ds = d ∷ ds
with_proof None ds = ds

-- behind an item with this effect, as the course goes
abbrev pub proofs_after : Effect → State → List Verdict → (State → List Verdict → List Derivation) → List Derivation
proofs_after (Answers (said.Text bytes) t) s vs rest = rest t vs
proofs_after (Answers (said.Error bytes) t) s vs rest = []
proofs_after (Answers (said.Exit bytes) t) s vs rest = []
proofs_after (Checks problem) s [] rest = []
proofs_after (Checks problem) s (v ∷ vs) rest = rest (with_verdict s v) vs

unfoldable pub proofs : State → List Item → List Verdict → List Derivation
proofs s [] vs = []
proofs s (i ∷ is) vs = with_proof (proof_for (command_of i.shape) s) (proofs_after (turn s i) s vs (λ t us. proofs t is us))

-- the derivations that the get-proofs of a script are answered with, in order, up to the script's end or the first error
abbrev pub proofs_of : Script → List Verdict → List Derivation
proofs_of script verdicts = proofs start script.items verdicts

-- The texts of the derivations stand in the bytes, in this order.
pub data Prints : List Derivation → List ℕ → Type 0 where
  none : (bytes : List ℕ) → Prints [] bytes
  next : (before after : List ℕ) (d : Derivation) (ds : List Derivation) → Prints ds after → Prints (d ∷ ds) (before ++ (text_of d ++ after))

-- A script prints what its get-proofs are answered with.
abbrev pub ProofsArePrinted : Type 0
ProofsArePrinted = (script : Script) (verdicts : List Verdict) → Prints (proofs_of script verdicts) (course_of script verdicts).bytes

-- ---- where it is followed
-- The items of a script were followed up to its (exit), and none is an error: for these assertions the get-proofs ask, and these terms were made.
pub record IsFollowed (items : List Item) (asked : List (List ℕ)) (bank : List Node) : Type 0 where
  pub before : List Item
  pub leaving : Item
  pub behind : List Item
  pub session : State
  pub parts : items ≡ before ++ leaving ∷ behind
  pub follows : follow (Some fresh) before ≡ Some (standing session asked)
  pub leaves : (step session leaving).given ≡ traced.Exit
  pub terms : bank ≡ (step session leaving).session.bank

-- ---- the transcript
-- The item has the tokens of the derivation's text: white space and comments may differ.
pub record IsCopyOf (d : Derivation) (i : Item) : Type 0 where
  pub tokens : List Lexeme
  pub printed : Reads true (text_of d) tokens Whole
  pub piece : Piece
  pub copied : Reads true piece.text tokens Whole
  pub told : IsTold piece i

abbrev pub derivations_in : List Item → List Item
derivations_in items = filter (λ i. is_derivation i.shape) items

-- derivation 1: accepted, and so on
abbrev pub accepted_lines : ℕ → List ℕ
accepted_lines zero = []
accepted_lines (suc n) = accepted_lines n ++ finding_line (suc n) (found.Judged Accepted)

-- so many derivations were accepted, and none was refused
abbrev pub all_accepted : ℕ → Tally
all_accepted n = record { bytes = accepted_lines n; count = n; refused = false }

-- What a check finds of copies of these derivations.
pub record AreAccepted (bank : List Node) (asked : List (List ℕ)) (ds : List Derivation) : Type 0 where
  -- the text itself, which a reader of items gives up to its last parenthesis, is a copy
  pub own_texts : (k : ℕ) (d : Derivation) (i : Item) (line : ℕ) → slice_get ds k ≡ Some d → IsTold (record { text = item_of d; line = line }) i → IsCopyOf d i
  -- each copy of the k-th is accepted against the assertions for which the k-th get-proof asks
  pub copies : (k : ℕ) (d : Derivation) (i : Item) → slice_get ds k ≡ Some d → IsCopyOf d i → finding bank (slice_get asked k) i.shape ≡ found.Judged Accepted
  -- a transcript whose derivations are copies of them, in order, has exactly the lines that say so
  pub lines : (items : List Item) → AllZip IsCopyOf ds (derivations_in items) → tally bank asked no_lines items ≡ all_accepted (length ds)

-- What a script prints, solved with just verdicts, is accepted where the script is followed up to its (exit).
abbrev pub PrintedAreAccepted : Type 0
PrintedAreAccepted =
    (may_miss : Bool) (budget : ℕ) (script : Script) (verdicts : List Verdict) → AreJust may_miss budget start [] script.items verdicts →
    (asked : List (List ℕ)) (bank : List Node) → IsFollowed script.items asked bank → AreAccepted bank asked (proofs_of script verdicts)

-- Where the script is solved without an error, each of its get-proofs is answered.
abbrev pub EachIsAnswered : Type 0
EachIsAnswered =
    (budget : ℕ) (script : Script) (verdicts : List Verdict) → HasVerdicts budget script verdicts → (course_of script verdicts).fails ≡ false →
    (asked : List (List ℕ)) (bank : List Node) → IsFollowed script.items asked bank → length (proofs_of script verdicts) ≡ length asked

-- So where a check finds copies of what the script prints, in order, and no other derivation, its lines say of each that it was accepted.
abbrev pub ChecksAcceptPrinted : Type 0
ChecksAcceptPrinted =
    (may_miss : Bool) (budget : ℕ) (script : Script) (verdicts : List Verdict) → AreJust may_miss budget start [] script.items verdicts →
    (v y : View) (t : Tally) (judges : Judges v t y) (behind : List Item) → script.items ≡ judges.follows.items ++ judges.leaves.i ∷ behind →
    AllZip IsCopyOf (proofs_of script verdicts) (derivations_in judges.items) →
    t ≡ all_accepted (length (proofs_of script verdicts))
