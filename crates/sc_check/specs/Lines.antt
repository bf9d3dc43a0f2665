-- The lines of a check.
use Rattle.std.specs.Prelude.{ℕ, ◌+◌, Bool, true, false, not, ◌||◌, if◌then◌else◌, List, [], ◌∷◌, ◌++◌, codes, decimal, Option, Some, None, slice_get, Result, Ok, Err}
use Rattle.std.specs.List.{concat}
use Rattle.std.specs.Str.{bytes_eq}
use Rattle.sc_text.specs.declared.token.Kind.TheVariants as kind
use Rattle.sc_sexpr.specs.Shapes.{Shape, Single, Listed, More}
use Rattle.sc_terms.specs.declared.nodes.Node.{Node}
use Rattle.sc_terms.specs.declared.problem.Parts.{Parts}
use Rattle.sc_flatten.specs.Stock.{stock}
use Rattle.sc_facts.specs.Facts.{root_facts}
use Rattle.sc_deriv.specs.declared.derivation.Derivation.{Derivation}
use Rattle.sc_deriv.specs.declared.derivation.Judgement.{Judgement}
use Rattle.sc_deriv.specs.declared.derivation.Judgement.TheVariants.{Accepted, Refused}
use Rattle.sc_deriv.specs.declared.derivation.Reason.{Reason}
use Rattle.sc_deriv.specs.declared.derivation.Reason.TheVariants as reason
use Rattle.sc_deriv.specs.Acceptance.{hypotheses_of}
use Rattle.sc_deriv.specs.Judging.{judgement_on}
use Rattle.sc_deriv_text.specs.Reading.{Refusal, reading}
use Rattle.sc_session.specs.Scripts.{Item}
use Rattle.sc_check.specs.declared.finding.Finding.{Finding}
use Rattle.sc_check.specs.declared.finding.Finding.TheVariants as found

-- a code and its text
abbrev pub reason_text : Reason → List ℕ
reason_text reason.P1 = codes "P1 not a derivation"
reason_text reason.P2 = codes "P2 unknown word"
reason_text reason.P3 = codes "P3 malformed node"
reason_text reason.P4 = codes "P4 number"
reason_text reason.P5 = codes "P5 nodes missing"
reason_text reason.P6 = codes "P6 nodes left over"
reason_text reason.Q1 = codes "Q1 step does not apply"
reason_text reason.Q2 = codes "Q2 no clash"
reason_text reason.Q3 = codes "Q3 rows do not refute"
reason_text reason.Q4 = codes "Q4 lemma does not apply"
reason_text reason.Q5 = codes "Q5 number past 128 bits"

-- what is said of a derivation
abbrev pub finding_text : Finding → List ℕ
finding_text (found.Judged Accepted) = codes "accepted"
finding_text (found.Judged (Refused n r)) = concat (codes "refused at node " ∷ decimal n ∷ codes ": " ∷ reason_text r ∷ [])
finding_text found.Unasked = codes "refused: no get-proof"

-- derivation 3: accepted, and a line feed
abbrev pub finding_line : ℕ → Finding → List ℕ
finding_line k f = concat (codes "derivation " ∷ decimal k ∷ codes ": " ∷ finding_text f ∷ (10 ∷ []) ∷ [])

abbrev pub is_accepted : Finding → Bool
is_accepted (found.Judged Accepted) = true
is_accepted (found.Judged (Refused n r)) = false
is_accepted found.Unasked = false

-- the judgement of what was read as a derivation, or why it was not
abbrev pub judged : Parts → Result Derivation Refusal → Judgement
judged problem (Ok d) = judgement_on problem (hypotheses_of d.lemmas) (root_facts problem.roots) d.nodes
judged problem (Err r) = Refused r.node r.reason

-- what is found of a derivation against these assertions of a bank, where a get-proof asks for one
abbrev pub finding : List Node → Option (List ℕ) → Shape → Finding
finding bank (Some assertions) s = found.Judged (judged (stock bank assertions) (reading s))
finding bank None s = found.Unasked

-- a list whose head is the bare word derivation
abbrev pub is_derivation : Shape → Bool
is_derivation (Listed line (More (Single kind.Word text start at) rest)) = bytes_eq (codes "derivation") text
is_derivation s = false

-- the lines so far, of how many derivations, and whether one was refused
pub record Tally : Type 0 where
  pub bytes : List ℕ
  pub count : ℕ
  pub refused : Bool

abbrev pub no_lines : Tally
no_lines = record { bytes = []; count = 0; refused = false }

abbrev pub with_finding : Tally → Finding → Tally
with_finding t f = record { bytes = t.bytes ++ finding_line (t.count + 1) f; count = t.count + 1; refused = t.refused || not (is_accepted f) }

-- The k-th derivation belongs to the k-th get-proof. All else is passed over.
abbrev pub with_item : List Node → List (List ℕ) → Tally → Item → Tally
with_item bank asked t i = if is_derivation i.shape then with_finding t (finding bank (slice_get asked t.count) i.shape) else t

-- the lines of the items of a transcript, behind those so far
abbrev pub tally : List Node → List (List ℕ) → Tally → List Item → Tally
tally bank asked t [] = t
tally bank asked t (i ∷ is) = tally bank asked (with_item bank asked t i) is
