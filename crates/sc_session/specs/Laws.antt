-- What holds of sessions and scripts.
use Rattle.std.specs.Prelude.{◌≡◌, ℕ, List, [], ◌++◌}
use Rattle.sc_terms.specs.declared.problem.Parts.{Parts}
use Rattle.sc_terms.specs.Bank.{Begins}
use Rattle.sc_flatten.specs.Stock.{stock}
use Rattle.sc_stack.specs.Names.{assertions_in_force}
use Rattle.sc_tree.specs.declared.verdict.Verdict.{Verdict}
use Rattle.sc_tree.specs.Verdicts.{IsJust}
use Rattle.sc_session.specs.Said.{Said}
use Rattle.sc_session.specs.Said as said
use Rattle.sc_session.specs.Scripts.{Item, Script, Reads}
use Rattle.sc_session.specs.States.{State, start, with_bank, with_verdict, IsSession}
use Rattle.sc_session.specs.Effects.{Answers, Checks, turn}
use Rattle.sc_session.specs.Meaning.{Assertion, asserted_by, Says, IsRight}

-- Each text is exactly one script.
pub record AreRead : Type 0 where
  pub one : (text : List ℕ) → (s : Script) × Reads text s
  pub only : (text : List ℕ) (s t : Script) → Reads text s → Reads text t → s ≡ t

-- A refusal leaves the session as it was, save for nodes at the end of the bank.
abbrev pub RefusalsLeave : Type 0
RefusalsLeave = (s t : State) (i : Item) (bytes : List ℕ) → turn s i ≡ Answers (said.Error bytes) t → Begins s.bank t.bank × (t ≡ with_bank s t.bank)

-- The formulas of a session say what the script's own terms say.
pub record SayTheSame : Type 0 where
  pub starts : Says start []
  -- behind a command, unless it ends the script
  pub goes_on : (s t : State) (terms : List Assertion) (i : Item) (bytes : List ℕ) → IsSession s → Says s terms → turn s i ≡ Answers (said.Text bytes) t → Says t (terms ++ asserted_by s i)
  -- only a check-sat adds a verdict, and its problem is the stock of the assertions in force
  pub keeps : (s t : State) (i : Item) (r : Said) → turn s i ≡ Answers r t → t.verdicts ≡ s.verdicts
  pub checks : (s : State) (i : Item) (problem : Parts) → turn s i ≡ Checks problem → problem ≡ stock s.bank (assertions_in_force s.names)
  pub checked : (s : State) (terms : List Assertion) (v : Verdict) → Says s terms → Says (with_verdict s v) terms
  -- a just verdict is right for the terms
  pub right : (s : State) (terms : List Assertion) (budget : ℕ) (v : Verdict) → IsSession s → Says s terms → IsJust (stock s.bank (assertions_in_force s.names)) budget v → IsRight terms v
