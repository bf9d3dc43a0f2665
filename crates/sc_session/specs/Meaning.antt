-- What the assertions of a script say, in its own terms.
use Rattle.std.specs.Prelude.{◌≡◌, Bool, true, List, [], ◌∷◌, map, Result, Ok, Err, ⊤}
use Rattle.std.specs.List.{AllByRecursion}
use Rattle.sc_text.specs.declared.code.Code.{Code}
use Rattle.sc_sexpr.specs.Shapes.{Shape}
use Rattle.sc_commands.specs.Commands.{CommandShape, Assert}
use Rattle.sc_commands.specs.Forms.{command_of}
use Rattle.sc_terms.specs.BankValues.{bank_meaning}
use Rattle.sc_terms.specs.Meaning.{Interpretation, IsInterpretation}
use Rattle.sc_terms.specs.Values.{interpretation_of}
use Rattle.sc_stack.specs.Names.{Names, assertions_in_force}
use Rattle.sc_elab.specs.Value.{term_value, truth}
use Rattle.sc_tree.specs.declared.verdict.Verdict.{Verdict}
use Rattle.sc_tree.specs.declared.verdict.Verdict.TheVariants.{Sat, Unsat, Unknown}
use Rattle.sc_session.specs.Scripts.{Item}
use Rattle.sc_session.specs.States.{State}

-- a term of the script that is asserted, and the names in force where it stands
pub record Assertion : Type 0 where
  pub term : Shape
  pub names : Names

-- what a command asserts where these names are in force
abbrev pub asserts : Names → CommandShape → List Assertion
asserts names (Assert term) = record { term = term; names = names } ∷ []
asserts names c = []

abbrev pub asserts_of : Names → Result CommandShape Code → List Assertion
asserts_of names (Ok c) = asserts names c
asserts_of names (Err code) = []

-- what a top item asserts
abbrev pub asserted_by : State → Item → List Assertion
asserted_by s i = asserts_of s.names (command_of i.shape)

-- whether the term is true under an interpretation of the constants
abbrev pub is_true : Interpretation → Assertion → Bool
is_true i a = truth (term_value a.names i a.term)

-- The formulas that a session has in force are true exactly where these assertions are, one by one.
abbrev pub Says : State → List Assertion → Type 0
Says s terms = (i : Interpretation) → IsInterpretation i → map (bank_meaning s.bank i).truth (assertions_in_force s.names) ≡ map (is_true i) terms

-- all assertions are true
abbrev pub AreTrue : Interpretation → List Assertion → Type 0
AreTrue i terms = AllByRecursion (λ a. is_true i a ≡ true) terms

-- finite sets and integers under which every assertion is true; or no values make them true; or nothing is said
abbrev pub IsRight : List Assertion → Verdict → Type 0
IsRight terms (Sat m) = IsInterpretation (interpretation_of m) × AreTrue (interpretation_of m) terms
IsRight terms (Unsat d) = (i : Interpretation) → IsInterpretation i → AreTrue i terms → ⊥
IsRight terms (Unknown t) = ⊤
