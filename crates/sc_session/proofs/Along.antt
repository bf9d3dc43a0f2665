-- Following a script goes along with solving it.
use Rattle.std.proofs.Common.{◌≡◌, if◌then◌else◌, nat_le, ℕ, Bool, true, false, List, length, Option, Some, None, Result, Ok, Err, refl, sym, subst, inl, inr}
use Rattle.std.specs.Prelude.{codes}
use Rattle.std.specs.Str.{bytes_eq}
use Rattle.sc_text.specs.declared.code.Code.{Code}
use Rattle.sc_text.specs.declared.code.Code.TheVariants as code
use Rattle.sc_commands.specs.Commands.{CommandShape, SetLogic, SetInfo, DeclareSort, DeclareConst, DeclareFun, Assert, CheckSat, GetProof, Echo, Exit}
use Rattle.sc_commands.specs.Forms.{command_of}
use Rattle.sc_print.specs.Spelling.{spelt_error}
use Rattle.sc_terms.specs.declared.nodes.Sort.{Sort}
use Rattle.sc_stack.specs.Names.{Names, fault_of, with_sort, with_constant, assertions_in_force}
use Rattle.sc_elab.specs.States.{Outcome, Done, Fault}
use Rattle.sc_elab.specs.Elab.{core}
use Rattle.sc_elab.specs.Sorts.{sort_of}
use Rattle.sc_deriv.specs.declared.derivation.Derivation.{Derivation}
use Rattle.sc_tree.specs.declared.verdict.Verdict.{Verdict}
use Rattle.sc_session.specs.declared.tracing.Traced.TheVariants as traced
use Rattle.sc_session.specs.States.{State, with_check, derivation_of, proof}
use Rattle.sc_session.specs.Effects.{Effect, Answers, Checks, declares, is_taken, declare_of, is_empty_list, assert_of, most_checks, get_proof, effect, effect_of}
use Rattle.sc_session.specs.Tracing.{Trace, trace_by, followed, trace, trace_of}
use Rattle.sc_session.specs.Proving.{beside, IsKnown, TracesGoAlong}

either : {A : Type 0} (P : A → A → Type 0) (b : Bool) (x y u v : A) → P x u → P y v → P (if b then x else y) (if b then u else v)
either P true x y u v p q = p
either P false x y u v p q = q

module _ (s : State) (verdicts : List Verdict) (line : ℕ) where
  abbrev Along : Effect → Trace → Type 0
  Along (Answers r t) f = (f.session ≡ beside t verdicts) × IsKnown s r f.given
  Along (Checks problem) f = (f.session ≡ with_check (beside s verdicts)) × (f.given ≡ traced.Nothing)

  abbrev Both : Effect → Effect → Type 0
  Both e f = Along e (followed (beside s verdicts) f)

  declares_go : (fault : Option Code) (names : Names) → Both (declares fault names s line) (declares fault names (beside s verdicts) line)
  declares_go (Some c) names = (refl, inl refl)
  declares_go None names = (refl, inl refl)

  declared_goes : (sort : Result Sort Code) (name : List ℕ) → Both (declare_of sort name s line) (declare_of sort name (beside s verdicts) line)
  declared_goes (Err c) name = (refl, inl refl)
  declared_goes (Ok sort) name = declares_go (fault_of s.names name (length s.names.constants)) (with_constant s.names (record { name = name; sort = sort }))

  asserted_goes : (o : Outcome ℕ) → Both (assert_of o s line) (assert_of o (beside s verdicts) line)
  asserted_goes (Fault c bank) = (refl, inl refl)
  asserted_goes (Done n bank) = (refl, inl refl)

  asked_when : (d : Option Derivation) → d ≡ proof s → Along (get_proof d s line) (trace_by (traced.Proof (assertions_in_force s.names)) (beside s verdicts))
  asked_when (Some d) e = (refl, inr (d, sym e, refl, refl))
  asked_when None e = (refl, inr (sym e, refl))

  asked : (b : Bool) (v : Option Verdict) → derivation_of (if b then v else None) ≡ proof s → Along (get_proof (derivation_of (if b then v else None)) s line) (if b then trace_by (traced.Proof (assertions_in_force s.names)) (beside s verdicts) else trace_by (traced.Error (spelt_error line code.E14)) (beside s verdicts))
  asked true v e = asked_when (derivation_of v) e
  asked false v e = (refl, inl refl)

  command_goes : (c : CommandShape) → Along (effect s c line) (trace (beside s verdicts) c line)
  command_goes SetLogic = (refl, inl refl)
  command_goes SetInfo = (refl, inl refl)
  command_goes (DeclareSort name arity) = either Both (is_taken s.names name) _ _ _ _ (refl, inl refl) (either Both (bytes_eq (codes "0") arity) _ _ _ _ (declares_go (fault_of s.names name (length s.names.sorts)) (with_sort s.names name)) (refl, inl refl))
  command_goes (DeclareConst name sort) = either Both (is_taken s.names name) _ _ _ _ (refl, inl refl) (declared_goes (sort_of s.names sort) name)
  command_goes (DeclareFun name arguments range) = either Both (is_taken s.names name) _ _ _ _ (refl, inl refl) (either Both (is_empty_list arguments) _ _ _ _ (declared_goes (sort_of s.names range) name) (refl, inl refl))
  command_goes (Assert term) = asserted_goes (core term (record { bank = s.bank; names = s.names }))
  command_goes CheckSat = either Both (nat_le most_checks s.checks) _ _ _ _ (refl, inl refl) (refl, refl)
  command_goes GetProof = asked s.current _ refl
  command_goes (Echo literal) = (refl, inl refl)
  command_goes Exit = (refl, refl)

  item_goes : (c : Result CommandShape Code) → Along (effect_of c s line) (trace_of c (beside s verdicts) line)
  item_goes (Err c) = (refl, inl refl)
  item_goes (Ok c) = command_goes c

pub goes_along : TracesGoAlong
goes_along = record {
  answered = λ s t verdicts i r e. subst (λ x. Along s verdicts i.line x (trace_of (command_of i.shape) (beside s verdicts) i.line)) e (item_goes s verdicts i.line (command_of i.shape));
  checked = λ s verdicts i problem v e. subst (λ x. Along s verdicts i.line x (trace_of (command_of i.shape) (beside s verdicts) i.line)) e (item_goes s verdicts i.line (command_of i.shape));
}
