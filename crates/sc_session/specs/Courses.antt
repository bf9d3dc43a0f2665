-- The course of a session: the responses to the items of a script in order, up to its end or the first error, where the check-sats have these verdicts.
use Rattle.std.specs.Prelude.{◌≡◌, ℕ, Bool, true, false, List, [], ◌∷◌, ◌++◌}
use Rattle.sc_text.specs.declared.code.Code.TheVariants as code
use Rattle.sc_sexpr.specs.declared.item.Fault.{Fault}
use Rattle.sc_sexpr.specs.declared.item.Fault.TheVariants.{Lexical, Unmatched, Unclosed, Limit}
use Rattle.sc_sexpr.specs.declared.item.Last.{Last}
use Rattle.sc_sexpr.specs.declared.item.Last.TheVariants as last
use Rattle.sc_print.specs.Spelling.{spelt_error}
use Rattle.sc_tree.specs.declared.verdict.Verdict.{Verdict}
use Rattle.sc_session.specs.Said as said
use Rattle.sc_session.specs.Scripts.{Item, Script}
use Rattle.sc_session.specs.States.{State, start, with_verdict}
use Rattle.sc_session.specs.Effects.{Effect, Answers, Checks, turn, verdict_line}
use Rattle.sc_session.specs.Giving.{IsGiven}
use Rattle.sc_session.specs.Meaning.{Assertion, asserted_by, IsRight}

-- the bytes of the responses, and whether the last one is an error
pub record Course : Type 0 where
  pub bytes : List ℕ
  pub fails : Bool

abbrev pub behind : List ℕ → Course → Course
behind bytes c = record { bytes = bytes ++ c.bytes; fails = c.fails }

abbrev pub done : List ℕ → Course
done bytes = record { bytes = bytes; fails = false }

abbrev pub failed : List ℕ → Course
failed bytes = record { bytes = bytes; fails = true }

-- the error of a fault of the text
abbrev pub fault_line : Fault → List ℕ
fault_line (Lexical line) = spelt_error line code.E1
fault_line (Unmatched line) = spelt_error line code.E2
fault_line (Unclosed line) = spelt_error line code.E3
fault_line (Limit line number) = spelt_error line (code.E16 number)

-- what stands behind the last item
abbrev pub at_last : Last → Course
at_last last.End = done []
at_last (last.Bad fault) = failed (fault_line fault)

-- A check-sat takes the next verdict, and without one the course ends before it.
abbrev pub course_after : Effect → State → List Verdict → (State → List Verdict → Course) → Course
course_after (Answers (said.Text bytes) t) s vs rest = behind bytes (rest t vs)
course_after (Answers (said.Error bytes) t) s vs rest = failed bytes
course_after (Answers (said.Exit bytes) t) s vs rest = done bytes
course_after (Checks problem) s [] rest = done []
course_after (Checks problem) s (v ∷ vs) rest = behind (verdict_line v) (rest (with_verdict s v) vs)

unfoldable pub course : State → List Item → Last → List Verdict → Course
course s [] last vs = at_last last
course s (i ∷ is) last vs = course_after (turn s i) s vs (λ t us. course t is last us)

abbrev pub just_after : Bool → ℕ → Effect → State → List Assertion → Item → List Verdict → (State → List Assertion → List Verdict → Type 0) → Type 0
just_after may_miss budget (Answers (said.Text bytes) t) s terms i vs rest = rest t (terms ++ asserted_by s i) vs
just_after may_miss budget (Answers (said.Error bytes) t) s terms i vs rest = vs ≡ []
just_after may_miss budget (Answers (said.Exit bytes) t) s terms i vs rest = vs ≡ []
just_after may_miss budget (Checks problem) s terms i [] rest = may_miss ≡ true
just_after may_miss budget (Checks problem) s terms i (v ∷ vs) rest = IsGiven problem budget v × IsRight terms v × rest (with_verdict s v) terms vs

-- The verdicts are those of the check-sats in order, up to the script's end or the first error: each is just for the problem of the assertions in force, and right for their terms; an unsat's derivation can be printed and read back. Where they may be fewer, those of the last check-sats are missing.
unfoldable pub AreJust : Bool → ℕ → State → List Assertion → List Item → List Verdict → Type 0
AreJust may_miss budget s terms [] vs = vs ≡ []
AreJust may_miss budget s terms (i ∷ is) vs = just_after may_miss budget (turn s i) s terms i vs (λ t more us. AreJust may_miss budget t more is us)

-- the responses to a script
abbrev pub course_of : Script → List Verdict → Course
course_of script verdicts = course start script.items script.last verdicts

-- one verdict for each check-sat before the end or the first error
abbrev pub HasVerdicts : ℕ → Script → List Verdict → Type 0
HasVerdicts budget script verdicts = AreJust false budget start [] script.items verdicts

-- the verdicts of the first check-sats
abbrev pub HasFirstVerdicts : ℕ → Script → List Verdict → Type 0
HasFirstVerdicts budget script verdicts = AreJust true budget start [] script.items verdicts
