-- What the proofs of a session are worth, and how following a script goes along with solving it.
use Rattle.std.specs.Prelude.{◌≡◌, ◌⊎◌, ℕ, List, Some, None}
use Rattle.sc_terms.specs.declared.problem.Parts.{Parts}
use Rattle.sc_flatten.specs.Stock.{stock}
use Rattle.sc_stack.specs.Names.{assertions_in_force}
use Rattle.sc_deriv.specs.declared.derivation.Derivation.{Derivation}
use Rattle.sc_deriv_text.specs.Spelling.{Fits}
use Rattle.sc_deriv_text.specs.Text.{text_of}
use Rattle.sc_tree.specs.declared.verdict.Verdict.{Verdict}
use Rattle.sc_tree.specs.Verdicts.{Refutes}
use Rattle.sc_session.specs.Said.{Said}
use Rattle.sc_session.specs.Said as said
use Rattle.sc_session.specs.declared.tracing.Traced.{Traced}
use Rattle.sc_session.specs.declared.tracing.Traced.TheVariants as traced
use Rattle.sc_session.specs.Scripts.{Item}
use Rattle.sc_session.specs.States.{State, state, start, with_verdict, proof, IsSession}
use Rattle.sc_session.specs.Effects.{Answers, Checks, turn}
use Rattle.sc_session.specs.Giving.{IsGiven}
use Rattle.sc_session.specs.Tracing.{step}

-- The derivation that is current refutes the problem of the assertions in force, and can be printed and read back.
abbrev pub Proves : State → Type 0
Proves s = (d : Derivation) → proof s ≡ Some d → Refutes (stock s.bank (assertions_in_force s.names)) d × Fits d

-- This holds of a session whose verdicts are just.
pub record ProofsRefute : Type 0 where
  pub starts : Proves start
  -- behind a command, unless it ends the script
  pub goes_on : (s t : State) (i : Item) (bytes : List ℕ) → Proves s → turn s i ≡ Answers (said.Text bytes) t → Proves t
  -- and whatever is answered: a refusal leaves the derivation current
  pub answered : (s t : State) (i : Item) (r : Said) → IsSession s → Proves s → turn s i ≡ Answers r t → Proves t
  pub checked : (s : State) (budget : ℕ) (v : Verdict) → IsGiven (stock s.bank (assertions_in_force s.names)) budget v → Proves (with_verdict s v)

-- a session that differs in its verdicts
abbrev pub beside : State → List Verdict → State
beside s verdicts = state s.bank s.names verdicts s.checks s.current

-- What is known of an item to which a session that solves says this: the same end, and the assertions in force exactly where it is a get-proof behind a current check-sat. This is no error there, whatever the verdict.
abbrev pub IsKnown : State → Said → Traced → Type 0
IsKnown s (said.Text bytes) given = (given ≡ traced.Nothing) ⊎ ((d : Derivation) × (proof s ≡ Some d) × (bytes ≡ text_of d) × (given ≡ traced.Proof (assertions_in_force s.names)))
IsKnown s (said.Error bytes) given = (given ≡ traced.Error bytes) ⊎ ((proof s ≡ None) × (given ≡ traced.Proof (assertions_in_force s.names)))
IsKnown s (said.Exit bytes) given = given ≡ traced.Exit

-- Following a script goes along with solving it, item by item.
pub record TracesGoAlong : Type 0 where
  pub answered : (s t : State) (verdicts : List Verdict) (i : Item) (r : Said) → turn s i ≡ Answers r t → ((step (beside s verdicts) i).session ≡ beside t verdicts) × IsKnown s r (step (beside s verdicts) i).given
  pub checked : (s : State) (verdicts : List Verdict) (i : Item) (problem : Parts) (v : Verdict) → turn s i ≡ Checks problem → ((step (beside s verdicts) i).session ≡ beside (with_verdict s v) verdicts) × ((step (beside s verdicts) i).given ≡ traced.Nothing)
