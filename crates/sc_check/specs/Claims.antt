-- What a check says of the script itself.
use Rattle.std.specs.Prelude.{◌≡◌, ℕ, List, [], ◌∷◌, ◌++◌, Some, slice_get}
use Rattle.sc_sexpr.specs.Shapes.{Shape}
use Rattle.sc_terms.specs.declared.nodes.Node.{Node}
use Rattle.sc_terms.specs.Meaning.{Interpretation, IsInterpretation}
use Rattle.sc_deriv.specs.declared.derivation.Judgement.TheVariants.{Accepted}
use Rattle.sc_session.specs.declared.tracing.Traced.{Traced}
use Rattle.sc_session.specs.declared.tracing.Traced.TheVariants as traced
use Rattle.sc_session.specs.Scripts.{Item}
use Rattle.sc_session.specs.States.{State, start}
use Rattle.sc_session.specs.Meaning.{Assertion, asserted_by, AreTrue}
use Rattle.sc_session.specs.Tracing.{step}
use Rattle.sc_check.specs.declared.finding.Finding.TheVariants as found
use Rattle.sc_check.specs.Lines.{finding}
use Rattle.sc_check.specs.Printed.{IsFollowed}

-- what is claimed at a command, where these terms are asserted, and behind it
abbrev pub claimed_by : Traced → List Assertion → List (List Assertion) → List (List Assertion)
claimed_by traced.Nothing terms rest = rest
claimed_by (traced.Proof assertions) terms rest = terms ∷ rest
claimed_by (traced.Error bytes) terms rest = []
claimed_by traced.Exit terms rest = []

unfoldable pub claims_from : State → List Assertion → List Item → List (List Assertion)
claims_from s terms [] = []
claims_from s terms (i ∷ is) = claimed_by (step s i).given terms (claims_from (step s i).session (terms ++ asserted_by s i) is)

-- At each get-proof of a script that asks for a derivation, in order, these are the script's own assertions, as its terms: the derivation is to show that they contradict one another.
abbrev pub claims : List Item → List (List Assertion)
claims items = claims_from start [] items

-- no interpretation of the constants makes all these assertions true
abbrev pub AreContradictory : List Assertion → Type 0
AreContradictory terms = (i : Interpretation) → IsInterpretation i → AreTrue i terms → ⊥

-- These assertions stand at the k-th get-proof of the script, and contradict one another.
pub record IsRefuted (items : List Item) (k : ℕ) : Type 0 where
  pub terms : List Assertion
  pub stand : slice_get (claims items) k ≡ Some terms
  pub contradict : AreContradictory terms

-- Where a derivation is accepted for the k-th get-proof, the script's own assertions there contradict one another, whoever wrote the derivation.
abbrev pub AcceptedRefuteScripts : Type 0
AcceptedRefuteScripts = (items : List Item) (asked : List (List ℕ)) (bank : List Node) → IsFollowed items asked bank → (k : ℕ) (s : Shape) → finding bank (slice_get asked k) s ≡ found.Judged Accepted → IsRefuted items k
