-- What a call of a session does.
use Rattle.std.specs.Prelude.{◌≡◌, ℕ, Bool, false, List, [], Option, Some, None, Result, Ok, Err}
use Rattle.sc_print.specs.Spelling.{spelt_error}
use Rattle.sc_stack.specs.declared.stack.StackError.{StackError}
use Rattle.sc_stack.specs.declared.stack.StackError.TheVariants as errors
use Rattle.sc_terms.specs.declared.memory.Memory.{Memory}
use Rattle.sc_deriv.specs.declared.derivation.Derivation.{Derivation}
use Rattle.sc_deriv_text.specs.Text.{text_of}
use Rattle.sc_tree.specs.declared.verdict.Verdict.{Verdict}
use Rattle.sc_session.specs.declared.response.Response.{Response}
use Rattle.sc_session.specs.declared.response.Response.TheVariants as response
use Rattle.sc_session.specs.Said.{Said}
use Rattle.sc_session.specs.Said as said
use Rattle.sc_session.specs.States.{State, with_verdict, proof}
use Rattle.sc_session.specs.Effects.{Effect, Answers, Checks, verdict_line}
use Rattle.sc_session.specs.Giving.{IsGiven}

-- what is answered where a declaration was tried
abbrev pub IsTold : Result ℕ StackError → ℕ → Response → Type 0
IsTold (Ok n) line r = r ≡ response.Text []
IsTold (Err (errors.Fault code)) line r = r ≡ response.Error (spelt_error line code)
IsTold (Err errors.Memory) line r = ⊥

-- whether a check-sat is current where a declaration was tried: a refusal leaves this
abbrev pub current_behind : Result ℕ StackError → Bool → Bool
current_behind (Ok n) current = false
current_behind (Err e) current = current

abbrev pub text_of_proof : Option Derivation → List ℕ
text_of_proof (Some d) = text_of d
text_of_proof None = []

-- what a response of a session says: for a proof the text of the derivation that is current
abbrev pub said_by : Response → State → Said
said_by (response.Text bytes) s = said.Text bytes
said_by response.Proof s = said.Text (text_of_proof (proof s))
said_by (response.Error bytes) s = said.Error bytes
said_by (response.Exit bytes) s = said.Exit bytes

-- The effect is had, and this is said: a check-sat gets a just verdict, which is told.
abbrev pub HasEffect : State → Effect → ℕ → Said → State → Type 0
HasEffect old (Answers r t) budget given new = (given ≡ r) × (new ≡ t)
HasEffect old (Checks problem) budget given new = (v : Verdict) × IsGiven problem budget v × (given ≡ said.Text (verdict_line v)) × (new ≡ with_verdict old v)

-- What a call does. After want of memory the verdicts are as before.
abbrev pub Does : State → Effect → ℕ → Result Response Memory → State → Type 0
Does old effect budget (Ok given) new = HasEffect old effect budget (said_by given new) new
Does old effect budget (Err e) new = new.verdicts ≡ old.verdicts
