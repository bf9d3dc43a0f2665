-- Which commands ask for a derivation, and what is known of an item that is followed.
use Rattle.std.proofs.Common.{◌≡◌, if◌then◌else◌, ℕ, Bool, true, false, List, [], ◌∷◌, Some, None, Result, Ok, Err, refl, sym, ap, ◌∙◌, subst, inl, inr}
use Rattle.std.specs.Prelude.{◌⊎◌}
use Rattle.sc_text.specs.declared.code.Code.{Code}
use Rattle.sc_text.specs.declared.code.Code.TheVariants as code
use Rattle.sc_commands.specs.Commands.{CommandShape, SetLogic, SetInfo, DeclareSort, DeclareConst, DeclareFun, Assert, CheckSat, GetProof, Echo, Exit}
use Rattle.sc_commands.specs.Forms.{command_of}
use Rattle.sc_print.specs.Spelling.{spelt_error}
use Rattle.sc_stack.specs.Names.{assertions_in_force}
use Rattle.sc_deriv.specs.declared.derivation.Derivation.{Derivation}
use Rattle.sc_tree.specs.declared.verdict.Verdict.{Verdict}
use Rattle.sc_session.specs.Said as said
use Rattle.sc_session.specs.declared.tracing.Traced.{Traced}
use Rattle.sc_session.specs.declared.tracing.Traced.TheVariants as traced
use Rattle.sc_session.specs.Scripts.{Item}
use Rattle.sc_session.specs.States.{State}
use Rattle.sc_session.specs.Effects.{Effect, Answers, Checks, effect, turn}
use Rattle.sc_session.specs.Tracing.{trace_by, followed, trace_of, step}
use Rattle.sc_session.specs.Proving.{beside, IsKnown, TracesGoAlong}
use Rattle.sc_check.specs.Reports.{Standing, standing, behind_trace, follow}
use Rattle.sc_check.specs.Printed.{proof_for, with_proof, proofs_after, proofs}

-- ---- a command asks for a derivation, or it does not
pub record IsOther (c : Result CommandShape Code) : Type 0 where
  pub silent : (s : State) → proof_for c s ≡ None
  pub unasked : (s : State) (line : ℕ) (ns : List ℕ) → (trace_of c s line).given ≡ traced.Proof ns → ⊥

none_asked : (s : State) (e : Effect) (ns : List ℕ) → (followed s e).given ≡ traced.Proof ns → ⊥
none_asked s (Answers (said.Text bytes) t) ns e = cc
none_asked s (Answers (said.Error bytes) t) ns e = cc
none_asked s (Answers (said.Exit bytes) t) ns e = cc
none_asked s (Checks problem) ns e = cc

pub kind_of : (c : Result CommandShape Code) → (c ≡ Ok GetProof) ⊎ IsOther c
kind_of (Err c) = inr (record { silent = λ s. refl; unasked = λ s line ns e. cc })
kind_of (Ok SetLogic) = inr (record { silent = λ s. refl; unasked = λ s line ns. none_asked s (effect s SetLogic line) ns })
kind_of (Ok SetInfo) = inr (record { silent = λ s. refl; unasked = λ s line ns. none_asked s (effect s SetInfo line) ns })
kind_of (Ok (DeclareSort name arity)) = inr (record { silent = λ s. refl; unasked = λ s line ns. none_asked s (effect s (DeclareSort name arity) line) ns })
kind_of (Ok (DeclareConst name sort)) = inr (record { silent = λ s. refl; unasked = λ s line ns. none_asked s (effect s (DeclareConst name sort) line) ns })
kind_of (Ok (DeclareFun name arguments range)) = inr (record { silent = λ s. refl; unasked = λ s line ns. none_asked s (effect s (DeclareFun name arguments range) line) ns })
kind_of (Ok (Assert term)) = inr (record { silent = λ s. refl; unasked = λ s line ns. none_asked s (effect s (Assert term) line) ns })
kind_of (Ok CheckSat) = inr (record { silent = λ s. refl; unasked = λ s line ns. none_asked s (effect s CheckSat line) ns })
kind_of (Ok GetProof) = inl refl
kind_of (Ok (Echo literal)) = inr (record { silent = λ s. refl; unasked = λ s line ns. none_asked s (effect s (Echo literal) line) ns })
kind_of (Ok Exit) = inr (record { silent = λ s. refl; unasked = λ s line ns. none_asked s (effect s Exit line) ns })

-- a get-proof is followed by asking, or by an error
pub asking : (b : Bool) (x : List ℕ) (f : State) (bytes : List ℕ) → let g : Traced = (if b then trace_by (traced.Proof x) f else trace_by (traced.Error bytes) f).given in ((g ≡ traced.Nothing → ⊥) × (g ≡ traced.Exit → ⊥))
asking true x f bytes = (λ e. cc, λ e. cc)
asking false x f bytes = (λ e. cc, λ e. cc)

-- ---- an item that is followed
-- where it asks for nothing and the script goes on, nothing is known
pub known_quiet : (s : State) (bytes : List ℕ) (g : Traced) → ((ns : List ℕ) → g ≡ traced.Proof ns → ⊥) → IsKnown s (said.Text bytes) g → g ≡ traced.Nothing
known_quiet s bytes g unasked (inl e) = e
known_quiet s bytes g unasked (inr (d, is, text, e)) = absurd (unasked (assertions_in_force s.names) e)

-- a get-proof is known to ask, or to be an error
pub is_loud : (s : State) (i : Item) → command_of i.shape ≡ Ok GetProof → ((step (beside s []) i).given ≡ traced.Nothing → ⊥) × ((step (beside s []) i).given ≡ traced.Exit → ⊥)
is_loud s i is =
    let found = asking s.current (assertions_in_force s.names) (beside s []) (spelt_error i.line code.E14) in
    (λ e. found.0 (ap (λ c. (trace_of c (beside s []) i.line).given) (sym is) ∙ e), λ e. found.1 (ap (λ c. (trace_of c (beside s []) i.line).given) (sym is) ∙ e))

-- what is followed behind it
pub goes_behind : (f t : State) (i : Item) (is : List Item) (before : List (List ℕ)) (e : Standing) (g : Traced) → follow (Some (standing f before)) (i ∷ is) ≡ Some e → (step f i).session ≡ t → (step f i).given ≡ g → follow (behind_trace g t before) is ≡ Some e
goes_behind f t i is before e g goes same given = subst (λ x. follow (behind_trace g x before) is ≡ Some e) same (subst (λ x. follow (behind_trace x (step f i).session before) is ≡ Some e) given goes)

pub session_is : (s t : State) (before asked : List (List ℕ)) → Some (standing s before) ≡ Some (standing t asked) → (s ≡ t) × (before ≡ asked)
session_is s t before asked e = let same : standing s before ≡ standing t asked = cc in (ap (λ (x : Standing). x.session) same, ap (λ (x : Standing). x.asked) same)

-- ---- the (exit)
module _ (along : TracesGoAlong) (leaving : Item) (behind : List Item) (s : State) (vs : List Verdict) (leaves : (step (beside s []) leaving).given ≡ traced.Exit) where
  abbrev past : State → List Verdict → List Derivation
  past t us = proofs t behind us

  not_answered : (g : Traced) (bytes : List ℕ) → g ≡ traced.Exit → IsKnown s (said.Text bytes) g → ⊥
  not_answered g bytes e (inl k) = let both : traced.Exit ≡ traced.Nothing = sym e ∙ k in cc
  not_answered g bytes e (inr (d, is, text, k)) = let both : traced.Exit ≡ traced.Proof (assertions_in_force s.names) = sym e ∙ k in cc

  none_behind : (e : Effect) → turn s leaving ≡ e → proofs_after e s vs past ≡ []
  none_behind (Answers (said.Text bytes) t) e = absurd (not_answered (step (beside s []) leaving).given bytes leaves (along.answered s t [] leaving (said.Text bytes) e).1)
  none_behind (Answers (said.Error bytes) t) e = refl
  none_behind (Answers (said.Exit bytes) t) e = refl
  none_behind (Checks problem) e = by vs
    where
      by : (us : List Verdict) → proofs_after (Checks problem) s us past ≡ []
      by [] = refl
      by (v ∷ us) = absurd (let both : traced.Exit ≡ traced.Nothing = sym leaves ∙ (along.checked s [] leaving problem v e).1 in cc)

  silent : proof_for (command_of leaving.shape) s ≡ None
  silent = by (kind_of (command_of leaving.shape))
    where
      by : (command_of leaving.shape ≡ Ok GetProof) ⊎ IsOther (command_of leaving.shape) → proof_for (command_of leaving.shape) s ≡ None
      by (inl is) = absurd ((is_loud s leaving is).1 leaves)
      by (inr o) = o.silent s

  pub last_ends : proofs s (leaving ∷ behind) vs ≡ []
  unfolding proofs
  last_ends = ap (λ p. with_proof p (proofs_after (turn s leaving) s vs past)) silent ∙ none_behind (turn s leaving) refl
