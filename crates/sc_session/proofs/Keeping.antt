-- What is followed without solving keeps formulas.
use Rattle.std.proofs.Common.{◌≡◌, if◌then◌else◌, nat_le, ℕ, Bool, true, false, List, length, Option, Some, None, Result, Ok, Err, refl}
use Rattle.std.specs.Prelude.{codes}
use Rattle.std.specs.Str.{bytes_eq}
use Rattle.std.specs.List.{AllByRecursion}
use Rattle.sc_text.specs.declared.code.Code.{Code}
use Rattle.sc_sexpr.specs.Shapes.{Shape}
use Rattle.sc_commands.specs.Commands.{CommandShape, SetLogic, SetInfo, DeclareSort, DeclareConst, DeclareFun, Assert, CheckSat, GetProof, Echo, Exit}
use Rattle.sc_commands.specs.Forms.{command_of}
use Rattle.sc_terms.specs.declared.nodes.Node.{Node}
use Rattle.sc_terms.specs.declared.nodes.Sort.{Sort}
use Rattle.sc_terms.specs.Bank.{IsBank, IsFormulaOf, Begins}
use Rattle.sc_stack.specs.Names.{Names, fault_of, with_sort, with_constant, assertions_in_force}
use Rattle.sc_elab.specs.States.{State as Elaborating, Outcome, Done, Fault}
use Rattle.sc_elab.specs.Elab.{core}
use Rattle.sc_elab.specs.Sorts.{sort_of}
use Rattle.sc_session.specs.Said.{Text, Error, Exit as Ends}
use Rattle.sc_session.specs.declared.tracing.Traced.TheVariants as traced
use Rattle.sc_session.specs.States.{State, IsSession}
use Rattle.sc_session.specs.Effects.{Effect, Answers, Checks, declares, is_taken, declare_of, is_empty_list, assert_of, most_checks, effect}
use Rattle.sc_session.specs.Tracing.{Trace, followed, trace, trace_of, GoesOn, TracesKeep}
use Rattle.sc_session.proofs.Standing.{still_formulas}

either : {A : Type 0} (P : A → Type 0) (b : Bool) (x y : A) → P x → P y → P (if b then x else y)
either P true x y p q = p
either P false x y p q = q

module _ (grows : (t : Shape) (e : Elaborating) (n : ℕ) (bank : List Node) → IsBank e.bank → core t e ≡ Done n bank → IsBank bank × Begins e.bank bank × IsFormulaOf bank n) (s : State) (session : IsSession s) (line : ℕ) (ns : List ℕ) where
  abbrev Are : State → Type 0
  Are t = AllByRecursion (IsFormulaOf t.bank) ns

  -- where the script goes on behind it, what was a formula is one
  abbrev Keeps : Trace → Type 0
  Keeps t = GoesOn t.given → Are s → Are t.session

  abbrev Leaves : Effect → Type 0
  Leaves e = Keeps (followed s e)

  declares_leave : (fault : Option Code) (names : Names) → Leaves (declares fault names s line)
  declares_leave (Some c) names g h = absurd g
  declares_leave None names g h = h

  declared_leaves : (sort : Result Sort Code) (name : List ℕ) → Leaves (declare_of sort name s line)
  declared_leaves (Err c) name g h = absurd g
  declared_leaves (Ok sort) name g h = declares_leave (fault_of s.names name (length s.names.constants)) (with_constant s.names (record { name = name; sort = sort })) g h

  asserted_leaves : (term : Shape) (o : Outcome ℕ) → core term (record { bank = s.bank; names = s.names }) ≡ o → Leaves (assert_of o s line)
  asserted_leaves term (Fault c bank) is g h = absurd g
  asserted_leaves term (Done n bank) is g h = still_formulas s.bank bank ns (grows term (record { bank = s.bank; names = s.names }) n bank session.bank is).1 h

  command_keeps : (c : CommandShape) → Keeps (trace s c line)
  command_keeps SetLogic = λ g h. h
  command_keeps SetInfo = λ g h. h
  command_keeps (DeclareSort name arity) = either Leaves (is_taken s.names name) _ _ (λ g h. absurd g) (either Leaves (bytes_eq (codes "0") arity) _ _ (declares_leave (fault_of s.names name (length s.names.sorts)) (with_sort s.names name)) (λ g h. absurd g))
  command_keeps (DeclareConst name sort) = either Leaves (is_taken s.names name) _ _ (λ g h. absurd g) (declared_leaves (sort_of s.names sort) name)
  command_keeps (DeclareFun name arguments range) = either Leaves (is_taken s.names name) _ _ (λ g h. absurd g) (either Leaves (is_empty_list arguments) _ _ (declared_leaves (sort_of s.names range) name) (λ g h. absurd g))
  command_keeps (Assert term) = asserted_leaves term (core term (record { bank = s.bank; names = s.names })) refl
  command_keeps CheckSat = either Leaves (nat_le most_checks s.checks) _ _ (λ g h. absurd g) (λ g h. h)
  command_keeps GetProof = either Keeps s.current _ _ (λ g h. h) (λ g h. absurd g)
  command_keeps (Echo literal) = λ g h. h
  command_keeps Exit = λ g h. h

  item_keeps : (c : Result CommandShape Code) → Keeps (trace_of c s line)
  item_keeps (Err c) = λ g h. absurd g
  item_keeps (Ok c) = command_keeps c

-- ---- what a get-proof asks for
module _ (s : State) (line : ℕ) (ns : List ℕ) where
  abbrev Asks : Trace → Type 0
  Asks t = t.given ≡ traced.Proof ns → ns ≡ assertions_in_force s.names

  none_asked : (e : Effect) → Asks (followed s e)
  none_asked (Answers (Text bytes) t) e = absurd cc
  none_asked (Answers (Error bytes) t) e = absurd cc
  none_asked (Answers (Ends bytes) t) e = absurd cc
  none_asked (Checks problem) e = absurd cc

  command_asks : (c : CommandShape) → Asks (trace s c line)
  command_asks SetLogic = none_asked (effect s SetLogic line)
  command_asks SetInfo = none_asked (effect s SetInfo line)
  command_asks (DeclareSort name arity) = none_asked (effect s (DeclareSort name arity) line)
  command_asks (DeclareConst name sort) = none_asked (effect s (DeclareConst name sort) line)
  command_asks (DeclareFun name arguments range) = none_asked (effect s (DeclareFun name arguments range) line)
  command_asks (Assert term) = none_asked (effect s (Assert term) line)
  command_asks CheckSat = none_asked (effect s CheckSat line)
  command_asks GetProof = either Asks s.current _ _ (λ e. cc) (λ e. absurd cc)
  command_asks (Echo literal) = none_asked (effect s (Echo literal) line)
  command_asks Exit = none_asked (effect s Exit line)

  item_asks : (c : Result CommandShape Code) → Asks (trace_of c s line)
  item_asks (Err c) = λ e. absurd cc
  item_asks (Ok c) = command_asks c

pub traces_keep : ((t : Shape) (e : Elaborating) (n : ℕ) (bank : List Node) → IsBank e.bank → core t e ≡ Done n bank → IsBank bank × Begins e.bank bank × IsFormulaOf bank n) → TracesKeep
traces_keep grows = record {
  keeps = λ s i ns session. item_keeps grows s session i.line ns (command_of i.shape);
  asks = λ s i ns. item_asks s i.line ns (command_of i.shape);
}
