-- What a command does to a session, and what it answers.
use Rattle.std.specs.Prelude.{ℕ, Bool, true, false, not, ◌||◌, nat_le, if◌then◌else◌, List, [], ◌∷◌, ◌++◌, codes, length, Option, Some, None, is_some, Result, Ok, Err}
use Rattle.std.specs.Str.{bytes_eq}
use Rattle.sc_text.specs.declared.code.Code.{Code}
use Rattle.sc_text.specs.declared.code.Code.TheVariants as code
use Rattle.sc_text.specs.Names.{is_free_in_bars}
use Rattle.sc_sexpr.specs.Shapes.{Shape, Listed, Empty}
use Rattle.sc_commands.specs.Commands.{CommandShape, SetLogic, SetInfo, DeclareSort, DeclareConst, DeclareFun, Assert, CheckSat, GetProof, Echo, Exit}
use Rattle.sc_commands.specs.Forms.{command_of}
use Rattle.sc_print.specs.Spelling.{spelt_error}
use Rattle.sc_terms.specs.declared.nodes.Sort.{Sort}
use Rattle.sc_terms.specs.declared.problem.Parts.{Parts}
use Rattle.sc_stack.specs.Names.{Names, look_up, fault_of, with_sort, with_constant, with_assertion, assertions_in_force}
use Rattle.sc_elab.specs.States.{Outcome, Done, Fault}
use Rattle.sc_elab.specs.Elab.{core}
use Rattle.sc_elab.specs.Sorts.{sort_of}
use Rattle.sc_flatten.specs.Stock.{stock}
use Rattle.sc_deriv.specs.declared.derivation.Derivation.{Derivation}
use Rattle.sc_deriv_text.specs.Text.{text_of}
use Rattle.sc_tree.specs.declared.verdict.Verdict.{Verdict}
use Rattle.sc_tree.specs.declared.verdict.Verdict.TheVariants.{Sat, Unsat, Unknown}
use Rattle.sc_session.specs.Said.{Said}
use Rattle.sc_session.specs.Said as said
use Rattle.sc_session.specs.Scripts.{Item}
use Rattle.sc_session.specs.States.{State, with_bank, with_names, moved_on, proof}

-- the most check-sats of a script
abbrev pub most_checks : ℕ
most_checks = 10000

-- What is said, and the session behind it; or a check-sat of this problem, whose response is its verdict.
pub data Effect : Type 0 where
  Answers : Said → State → Effect
  Checks : Parts → Effect

-- a line feed ends each response
abbrev pub line_of : List ℕ → List ℕ
line_of text = text ++ 10 ∷ []

-- no bytes at all
abbrev pub quiet : State → Effect
quiet s = Answers (said.Text []) s

-- the error with this code ends the script, and leaves the session
abbrev pub refuses : ℕ → Code → State → Effect
refuses line code s = Answers (said.Error (spelt_error line code)) s

-- the names after a declaration, unless there is a fault
abbrev pub declares : Option Code → Names → State → ℕ → Effect
declares (Some code) names s line = refuses line code s
declares None names s line = quiet (moved_on (with_names s names))

-- a name that is kept by SMT-LIB 2.6 or the theories, or is in force
abbrev pub is_taken : Names → List ℕ → Bool
is_taken names name = not (is_free_in_bars name) || is_some (look_up names name)

-- a name comes before the arity, the arguments and the sort
abbrev pub if_free : List ℕ → State → ℕ → Effect → Effect
if_free name s line free = if is_taken s.names name then refuses line code.E9 s else free

abbrev pub declare_sort : List ℕ → State → ℕ → Effect
declare_sort name s line = declares (fault_of s.names name (length s.names.sorts)) (with_sort s.names name) s line

abbrev pub declare_of : Result Sort Code → List ℕ → State → ℕ → Effect
declare_of (Err code) name s line = refuses line code s
declare_of (Ok sort) name s line = declares (fault_of s.names name (length s.names.constants)) (with_constant s.names (record { name = name; sort = sort })) s line

abbrev pub declare : List ℕ → Shape → State → ℕ → Effect
declare name sort s line = declare_of (sort_of s.names sort) name s line

abbrev pub is_empty_list : Shape → Bool
is_empty_list (Listed line Empty) = true
is_empty_list s = false

-- the term's core formula is asserted, where it has one; a term that is refused leaves the nodes that it made before its fault
abbrev pub assert_of : Outcome ℕ → State → ℕ → Effect
assert_of (Fault code bank) s line = refuses line code (with_bank s bank)
assert_of (Done n bank) s line = quiet (moved_on (with_names (with_bank s bank) (with_assertion s.names n)))

abbrev pub check_sat : State → ℕ → Effect
check_sat s line =
    if nat_le most_checks s.checks then refuses line (code.E16 most_checks) s
    else Checks (stock s.bank (assertions_in_force s.names))

-- the text of the derivation, where there is one
abbrev pub get_proof : Option Derivation → State → ℕ → Effect
get_proof (Some d) s line = Answers (said.Text (text_of d)) s
get_proof None s line = refuses line code.E14 s

abbrev pub declares_sort : State → List ℕ → List ℕ → ℕ → Effect
declares_sort s name arity line = if_free name s line (if bytes_eq (codes "0") arity then declare_sort name s line else refuses line code.E8 s)

abbrev pub declares_const : State → List ℕ → Shape → ℕ → Effect
declares_const s name sort line = if_free name s line (declare name sort s line)

abbrev pub declares_fun : State → List ℕ → Shape → Shape → ℕ → Effect
declares_fun s name arguments range line = if_free name s line (if is_empty_list arguments then declare name range s line else refuses line code.E8 s)

abbrev pub asserts_term : State → Shape → ℕ → Effect
asserts_term s term line = assert_of (core term (record { bank = s.bank; names = s.names })) s line

-- what a command on this line does
abbrev pub effect : State → CommandShape → ℕ → Effect
effect s SetLogic line = quiet s
effect s SetInfo line = quiet s
effect s (DeclareSort name arity) line = declares_sort s name arity line
effect s (DeclareConst name sort) line = declares_const s name sort line
effect s (DeclareFun name arguments range) line = declares_fun s name arguments range line
effect s (Assert term) line = asserts_term s term line
effect s CheckSat line = check_sat s line
effect s GetProof line = get_proof (proof s) s line
effect s (Echo literal) line = Answers (said.Text (line_of literal)) s
effect s Exit line = Answers (said.Exit []) s

abbrev pub effect_of : Result CommandShape Code → State → ℕ → Effect
effect_of (Ok c) s line = effect s c line
effect_of (Err code) s line = refuses line code s

-- what a top item does
abbrev pub turn : State → Item → Effect
turn s i = effect_of (command_of i.shape) s i.line

-- sat, unsat, unknown
abbrev pub verdict_line : Verdict → List ℕ
verdict_line (Sat m) = line_of (codes "sat")
verdict_line (Unsat d) = line_of (codes "unsat")
verdict_line (Unknown t) = line_of (codes "unknown")
