-- What a command does that is followed without solving.
use Rattle.std.specs.Prelude.{◌≡◌, ⊤, ℕ, Bool, true, false, if◌then◌else◌, List, [], ◌++◌, Result, Ok, Err, IfOk}
use Rattle.std.specs.List.{AllByRecursion}
use Rattle.sc_text.specs.declared.code.Code.{Code}
use Rattle.sc_text.specs.declared.code.Code.TheVariants as code
use Rattle.sc_commands.specs.Commands.{CommandShape, SetLogic, SetInfo, DeclareSort, DeclareConst, DeclareFun, Assert, CheckSat, GetProof, Echo, Exit}
use Rattle.sc_commands.specs.Forms.{command_of}
use Rattle.sc_print.specs.Spelling.{spelt_error}
use Rattle.sc_terms.specs.declared.memory.Memory.{Memory}
use Rattle.sc_terms.specs.Bank.{IsFormulaOf}
use Rattle.sc_stack.specs.Names.{assertions_in_force}
use Rattle.sc_session.specs.declared.response.Response.{Response}
use Rattle.sc_session.specs.declared.response.Response.TheVariants as response
use Rattle.sc_session.specs.declared.tracing.Traced.{Traced}
use Rattle.sc_session.specs.declared.tracing.Traced.TheVariants as traced
use Rattle.sc_session.specs.Said as said
use Rattle.sc_sexpr.specs.Scans.{Piece}
use Rattle.sc_session.specs.Scripts.{Item, IsTold}
use Rattle.sc_session.specs.States.{State, start, with_check, IsSession, IsGrounded}
use Rattle.sc_session.specs.Effects.{Effect, Answers, Checks, effect}
use Rattle.sc_session.specs.Meaning.{Assertion, asserted_by, Says}

-- what is known of a command, and the session behind it
pub record Trace : Type 0 where
  pub given : Traced
  pub session : State

abbrev pub trace_by : Traced → State → Trace
trace_by given session = record { given = given; session = session }

-- whether the response hangs on no verdict
abbrev pub is_quick : CommandShape → Bool
is_quick CheckSat = false
is_quick GetProof = false
is_quick c = true

-- what is known of a command with this response
abbrev pub given_by : Response → Traced
given_by (response.Text bytes) = traced.Nothing
given_by response.Proof = traced.Nothing
given_by (response.Error bytes) = traced.Error bytes
given_by (response.Exit bytes) = traced.Exit

-- a check-sat is done without its verdict
abbrev pub followed : State → Effect → Trace
followed s (Answers (said.Text bytes) t) = trace_by traced.Nothing t
followed s (Answers (said.Error bytes) t) = trace_by (traced.Error bytes) t
followed s (Answers (said.Exit bytes) t) = trace_by traced.Exit t
followed s (Checks problem) = trace_by traced.Nothing (with_check s)

-- A derivation may be asked for where a check-sat is current, whatever its verdict.
abbrev pub followed_proof : State → ℕ → Trace
followed_proof s line = if s.current then trace_by (traced.Proof (assertions_in_force s.names)) s else trace_by (traced.Error (spelt_error line code.E14)) s

-- what a command on this line does
abbrev pub trace : State → CommandShape → ℕ → Trace
trace s GetProof line = followed_proof s line
trace s SetLogic line = followed s (effect s SetLogic line)
trace s SetInfo line = followed s (effect s SetInfo line)
trace s (DeclareSort name arity) line = followed s (effect s (DeclareSort name arity) line)
trace s (DeclareConst name sort) line = followed s (effect s (DeclareConst name sort) line)
trace s (DeclareFun name arguments range) line = followed s (effect s (DeclareFun name arguments range) line)
trace s (Assert term) line = followed s (effect s (Assert term) line)
trace s CheckSat line = followed s (effect s CheckSat line)
trace s (Echo literal) line = followed s (effect s (Echo literal) line)
trace s Exit line = followed s (effect s Exit line)

abbrev pub trace_of : Result CommandShape Code → State → ℕ → Trace
trace_of (Ok c) s line = trace s c line
trace_of (Err code) s line = trace_by (traced.Error (spelt_error line code)) s

-- what a top item does
abbrev pub step : State → Item → Trace
step s i = trace_of (command_of i.shape) s i.line

-- The item that these bytes are was followed.
pub record IsStepped (old : State) (p : Piece) (given : Traced) (new : State) : Type 0 where
  pub i : Item
  pub told : IsTold p i
  pub gives : given ≡ (step old i).given
  pub leaves : new ≡ (step old i).session

-- the script is not ended by an error
abbrev pub GoesOn : Traced → Type 0
GoesOn traced.Nothing = ⊤
GoesOn (traced.Proof assertions) = ⊤
GoesOn (traced.Error bytes) = ⊥
GoesOn traced.Exit = ⊤

-- the script goes on behind it
abbrev pub IsInside : Traced → Type 0
IsInside traced.Nothing = ⊤
IsInside (traced.Proof assertions) = ⊤
IsInside (traced.Error bytes) = ⊥
IsInside traced.Exit = ⊥

-- What holds of following.
pub record TracesKeep : Type 0 where
  -- What was a formula is one behind an item that is no error.
  pub keeps : (s : State) (i : Item) (ns : List ℕ) → IsSession s → GoesOn (step s i).given → AllByRecursion (IsFormulaOf s.bank) ns → AllByRecursion (IsFormulaOf (step s i).session.bank) ns
  -- What a get-proof asks for are the assertions in force.
  pub asks : (s : State) (i : Item) (ns : List ℕ) → (step s i).given ≡ traced.Proof ns → ns ≡ assertions_in_force s.names

-- What the formulas of a session say that is followed: behind an item, unless it ends the script, what the script's own terms say.
pub record TracesSay : Type 0 where
  pub starts : IsGrounded start × Says start []
  pub goes_on : (s : State) (terms : List Assertion) (i : Item) → IsGrounded s → Says s terms → IsInside (step s i).given → IsGrounded (step s i).session × Says (step s i).session (terms ++ asserted_by s i)

-- The call gives this, and leaves this session; want of memory is free.
abbrev pub IsTraced : Trace → Result Traced Memory → State → Type 0
IsTraced t result new = IfOk result (λ given. (given ≡ t.given) × (new ≡ t.session))
