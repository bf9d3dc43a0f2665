-- The formulas of a session that is followed say what the script's own terms say.
use Rattle.std.proofs.Common.{◌≡◌, if◌then◌else◌, nat_le, ℕ, ◌≤◌, Bool, true, false, List, [], ◌∷◌, ◌++◌, length, Option, Some, None, Result, Ok, Err, refl, sym, subst, arith}
use Rattle.std.specs.Prelude.{codes}
use Rattle.std.specs.Str.{bytes_eq}
use Rattle.std.specs.List.{AllByRecursion, IsDistinct}
use Rattle.sc_base.proofs.Integers.{all-append}
use Rattle.sc_text.specs.declared.code.Code.{Code}
use Rattle.sc_sexpr.specs.Shapes.{Shape}
use Rattle.sc_commands.specs.Commands.{CommandShape, SetLogic, SetInfo, DeclareSort, DeclareConst, DeclareFun, Assert, CheckSat, GetProof, Echo, Exit}
use Rattle.sc_commands.specs.Forms.{command_of}
use Rattle.sc_terms.specs.declared.nodes.Node.{Node}
use Rattle.sc_terms.specs.declared.nodes.Sort.{Sort}
use Rattle.sc_terms.specs.Bank.{IsBank, IsFormulaOf, Begins}
use Rattle.sc_terms.specs.BankValues.{bank_meaning}
use Rattle.sc_terms.specs.Meaning.{Interpretation, IsInterpretation}
use Rattle.sc_stack.specs.Names.{Names, Level, on_last, fault_of, with_sort, with_constant, assertions_in_force}
use Rattle.sc_elab.specs.States.{State as Elaborating, Outcome, Done, Fault}
use Rattle.sc_elab.specs.Elab.{core}
use Rattle.sc_elab.specs.Sorts.{sort_of}
use Rattle.sc_elab.specs.Value.{term_value, truth}
use Rattle.sc_session.specs.States.{State, IsGrounded}
use Rattle.sc_session.specs.Effects.{Effect, declares, is_taken, declare_of, is_empty_list, assert_of, most_checks}
use Rattle.sc_session.specs.Meaning.{Assertion, asserts, asserts_of, Says}
use Rattle.sc_session.specs.Tracing.{Trace, followed, trace, trace_of, IsInside, TracesSay}
use Rattle.sc_session.proofs.Standing.{still_formulas, sort_asserts_none, constant_asserts_none, one_more_assertion}
use Rattle.sc_session.proofs.Saying.{same_says, more_says}

either : {A : Type 0} (P : A → Type 0) (b : Bool) (x y : A) → P x → P y → P (if b then x else y)
either P true x y p q = p
either P false x y p q = q

some_level : (f : Level → Level) (ls : List Level) → 1 ≤ length ls → 1 ≤ length (on_last f ls)
some_level f [] some = absurd (omega (arith, some))
some_level f (l ∷ []) some = omega arith
some_level f (l ∷ m ∷ ls) some = omega arith

nothing_made : IsBank []
unfolding IsDistinct
nothing_made = record { stands = λ n x e. absurd cc; different = tt; few = omega arith }

module _
    (grows : (t : Shape) (e : Elaborating) (n : ℕ) (bank : List Node) → IsBank e.bank → core t e ≡ Done n bank → IsBank bank × Begins e.bank bank × IsFormulaOf bank n)
    (truths : (t : Shape) (e : Elaborating) (n : ℕ) (bank : List Node) → IsBank e.bank → core t e ≡ Done n bank → (i : Interpretation) → IsInterpretation i → (bank_meaning bank i).truth n ≡ truth (term_value e.names i t))
    (stays : (t : Shape) (e : Elaborating) (n : ℕ) (bank : List Node) → IsBank e.bank → core t e ≡ Done n bank → (i : Interpretation) → IsInterpretation i → (m : ℕ) → IsFormulaOf e.bank m → (bank_meaning bank i).truth m ≡ (bank_meaning e.bank i).truth m) where
  module _ (s : State) (terms : List Assertion) (line : ℕ) (sound : IsGrounded s) (says : Says s terms) where
    abbrev Holds : Trace → List Assertion → Type 0
    Holds t new = IsInside t.given → IsGrounded t.session × Says t.session (terms ++ new)

    -- nothing is asserted
    abbrev Leaves : Effect → Type 0
    Leaves e = Holds (followed s e) []

    still : (t : State) → t.bank ≡ s.bank → 1 ≤ length t.names.levels → assertions_in_force t.names ≡ assertions_in_force s.names → IsGrounded t × Says t (terms ++ [])
    still t b some a = (
      record {
        bank = subst IsBank (sym b) sound.bank;
        levels = some;
        assertions = subst (AllByRecursion (IsFormulaOf t.bank)) (sym a) (subst (λ k. AllByRecursion (IsFormulaOf k) (assertions_in_force s.names)) (sym b) sound.assertions);
      },
      same_says truths stays s t terms b a says,
    )

    same : IsGrounded s × Says s (terms ++ [])
    same = still s refl sound.levels refl

    declares_hold : (fault : Option Code) (names : Names) → 1 ≤ length names.levels → assertions_in_force names ≡ assertions_in_force s.names → Leaves (declares fault names s line)
    declares_hold (Some c) names some e g = absurd g
    declares_hold None names some e g = still _ refl some e

    sort_holds : (name : List ℕ) → Leaves (declares (fault_of s.names name (length s.names.sorts)) (with_sort s.names name) s line)
    sort_holds name = declares_hold _ (with_sort s.names name) (some_level _ s.names.levels sound.levels) (sort_asserts_none s.names name)

    declared_holds : (sort : Result Sort Code) (name : List ℕ) → Leaves (declare_of sort name s line)
    declared_holds (Err c) name g = absurd g
    declared_holds (Ok sort) name g = declares_hold (fault_of s.names name (length s.names.constants)) (with_constant s.names (record { name = name; sort = sort })) (some_level _ s.names.levels sound.levels) (constant_asserts_none s.names (record { name = name; sort = sort })) g

    asserted_holds : (term : Shape) (o : Outcome ℕ) → core term (record { bank = s.bank; names = s.names }) ≡ o → Holds (followed s (assert_of o s line)) (record { term = term; names = s.names } ∷ [])
    asserted_holds term (Fault c bank) is g = absurd g
    asserted_holds term (Done n bank) is g =
        let made = grows term (record { bank = s.bank; names = s.names }) n bank sound.bank is in (
          record {
            bank = made.0;
            levels = some_level _ s.names.levels sound.levels;
            assertions =
                subst (AllByRecursion (IsFormulaOf bank)) (sym (one_more_assertion s.names n sound.levels))
                (all-append (IsFormulaOf bank) (assertions_in_force s.names) (n ∷ []) (still_formulas s.bank bank (assertions_in_force s.names) made.1 sound.assertions) (made.2, tt));
          },
          more_says truths stays s terms term n bank sound says is,
        )

    command_holds : (c : CommandShape) → Holds (trace s c line) (asserts s.names c)
    command_holds SetLogic = λ g. same
    command_holds SetInfo = λ g. same
    command_holds (DeclareSort name arity) = either Leaves (is_taken s.names name) _ _ (λ g. absurd g) (either Leaves (bytes_eq (codes "0") arity) _ _ (sort_holds name) (λ g. absurd g))
    command_holds (DeclareConst name sort) = either Leaves (is_taken s.names name) _ _ (λ g. absurd g) (declared_holds (sort_of s.names sort) name)
    command_holds (DeclareFun name arguments range) = either Leaves (is_taken s.names name) _ _ (λ g. absurd g) (either Leaves (is_empty_list arguments) _ _ (declared_holds (sort_of s.names range) name) (λ g. absurd g))
    command_holds (Assert term) = asserted_holds term (core term (record { bank = s.bank; names = s.names })) refl
    command_holds CheckSat = either Leaves (nat_le most_checks s.checks) _ _ (λ g. absurd g) (λ g. still _ refl sound.levels refl)
    command_holds GetProof = either (λ t. Holds t []) s.current _ _ (λ g. same) (λ g. absurd g)
    command_holds (Echo literal) = λ g. same
    command_holds Exit = λ g. absurd g

    item_holds : (c : Result CommandShape Code) → Holds (trace_of c s line) (asserts_of s.names c)
    item_holds (Err c) = λ g. absurd g
    item_holds (Ok c) = command_holds c

  pub traces_say : TracesSay
  traces_say = record {
    starts = (record { bank = nothing_made; levels = omega arith; assertions = tt }, λ i p. refl);
    goes_on = λ s terms i sound says. item_holds s terms i.line sound says (command_of i.shape);
  }
