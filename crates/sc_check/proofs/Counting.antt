-- Where a script is solved without an error, each of its get-proofs is answered.
use Rattle.std.proofs.Common.{◌≡◌, ℕ, ◌+◌, true, false, List, [], ◌∷◌, ◌++◌, length, Option, Some, None, Ok, refl, sym, ap, ◌∙◌, subst, inl, inr, arith}
use Rattle.std.specs.Prelude.{◌⊎◌}
use Rattle.std.proofs.lemmas.List.{length-append}
use Rattle.sc_sexpr.specs.declared.item.Last.{Last}
use Rattle.sc_commands.specs.Commands.{GetProof}
use Rattle.sc_commands.specs.Forms.{command_of}
use Rattle.sc_terms.specs.declared.problem.Parts.{Parts}
use Rattle.sc_stack.specs.Names.{assertions_in_force}
use Rattle.sc_deriv.specs.declared.derivation.Derivation.{Derivation}
use Rattle.sc_deriv_text.specs.Text.{text_of}
use Rattle.sc_tree.specs.declared.verdict.Verdict.{Verdict}
use Rattle.sc_session.specs.Said as said
use Rattle.sc_session.specs.declared.tracing.Traced.TheVariants as traced
use Rattle.sc_session.specs.Scripts.{Item}
use Rattle.sc_session.specs.States.{State, start, with_verdict, proof}
use Rattle.sc_session.specs.Effects.{Effect, Answers, Checks, get_proof, effect_of, turn}
use Rattle.sc_session.specs.Meaning.{Assertion}
use Rattle.sc_session.specs.Courses.{Course, course_after, course, just_after, AreJust}
use Rattle.sc_session.specs.Tracing.{step}
use Rattle.sc_session.specs.Proving.{beside, IsKnown, TracesGoAlong}
use Rattle.sc_check.specs.Reports.{standing, follow}
use Rattle.sc_check.specs.Printed.{proof_for, with_proof, proofs_after, proofs, EachIsAnswered}
use Rattle.sc_check.proofs.Asking.{IsOther, kind_of, known_quiet, is_loud, goes_behind, session_is, last_ends}
use Rattle.sc_check.proofs.Growing.{none_follows}

failing : {A : Type 0} → true ≡ false → A
failing e = absurd cc

missing : {A : Type 0} → false ≡ true → A
missing e = absurd cc

module _ (along : TracesGoAlong) (budget : ℕ) (leaving : Item) (behind : List Item) (last : Last) (session : State) (asked : List (List ℕ)) (exits : (step session leaving).given ≡ traced.Exit) where
  abbrev Goes : State → List (List ℕ) → List Item → Type 0
  Goes s before is = follow (Some (standing (beside s []) before)) is ≡ Some (standing session asked)

  -- so many are still to be answered
  abbrev Counts : List (List ℕ) → List Derivation → Type 0
  Counts before ds = length before + length ds ≡ length asked

  abbrev Ahead : List Item → Type 0
  Ahead is =
      (t : State) (vs : List Verdict) (terms : List Assertion) (before : List (List ℕ)) → AreJust false budget t terms (is ++ leaving ∷ behind) vs → (course t (is ++ leaving ∷ behind) last vs).fails ≡ false → Goes t before is → Counts before (proofs t (is ++ leaving ∷ behind) vs)

  module _ (s : State) (vs : List Verdict) (terms : List Assertion) (before : List (List ℕ)) (i : Item) (is : List Item) (goes : Goes s before (i ∷ is)) (ahead : Ahead is) where
    abbrev all : List Item
    all = is ++ leaving ∷ behind

    abbrev rest : State → List Verdict → List Derivation
    rest t us = proofs t all us

    abbrev far : State → List Verdict → Course
    far t us = course t all last us

    abbrev Just : Effect → List Verdict → Type 0
    Just e us = just_after false budget e s terms i us (λ t more ws. AreJust false budget t more all ws)

    abbrev IsFine : Effect → List Verdict → Type 0
    IsFine e us = (course_after e s us far).fails ≡ false

    checks : (problem : Parts) (us : List Verdict) → turn s i ≡ Checks problem → Just (Checks problem) us → IsFine (Checks problem) us → Counts before (proofs_after (Checks problem) s us rest)
    checks problem [] e just fine = missing just
    checks problem (v ∷ us) e just fine =
        let found = along.checked s [] i problem v e in
        ahead (with_verdict s v) us terms before just.2 fine (goes_behind (beside s []) (beside (with_verdict s v) []) i is before (standing session asked) traced.Nothing goes found.0 found.1)

    other : ((ns : List ℕ) → (step (beside s []) i).given ≡ traced.Proof ns → ⊥) → (e : Effect) → turn s i ≡ e → Just e vs → IsFine e vs → Counts before (proofs_after e s vs rest)
    other unasked (Answers (said.Text bytes) t) e just fine =
        let found = along.answered s t [] i (said.Text bytes) e in
        ahead t vs _ before just fine (goes_behind (beside s []) (beside t []) i is before (standing session asked) traced.Nothing goes found.0 (known_quiet s bytes (step (beside s []) i).given unasked found.1))
    other unasked (Answers (said.Error bytes) t) e just fine = failing fine
    other unasked (Answers (said.Exit bytes) t) e just fine =
        let found = along.answered s t [] i (said.Exit bytes) e in
        absurd (none_follows is (standing session asked) (goes_behind (beside s []) (beside t []) i is before (standing session asked) traced.Exit goes found.0 found.1))
    other unasked (Checks problem) e just fine = checks problem vs e just fine

    proved : (d : Derivation) → turn s i ≡ Answers (said.Text (text_of d)) s → ((step (beside s []) i).given ≡ traced.Nothing → ⊥) → Just (Answers (said.Text (text_of d)) s) vs → IsFine (Answers (said.Text (text_of d)) s) vs → Counts before (d ∷ rest s vs)
    proved d e loud just fine = by (along.answered s s [] i (said.Text (text_of d)) e)
      where
        by : ((step (beside s []) i).session ≡ beside s []) × IsKnown s (said.Text (text_of d)) (step (beside s []) i).given → Counts before (d ∷ rest s vs)
        by (q, inl quiet) = absurd (loud quiet)
        by (q, inr (d', is_proof, text, given)) =
            let in_force : List ℕ = assertions_in_force s.names in
            let others = ahead s vs _ (before ++ in_force ∷ []) just fine (goes_behind (beside s []) (beside s []) i is before (standing session asked) (traced.Proof in_force) goes q given) in
            omega (arith, others, length-append before (in_force ∷ []))

    asks : (p : Option Derivation) (e : Effect) → turn s i ≡ e → e ≡ get_proof p s i.line → ((step (beside s []) i).given ≡ traced.Nothing → ⊥) → Just e vs → IsFine e vs → Counts before (with_proof p (proofs_after e s vs rest))
    asks (Some d) e is made loud just fine =
        subst (λ x. Counts before (d ∷ proofs_after x s vs rest)) (sym made) (proved d (is ∙ made) loud (subst (λ x. Just x vs) made just) (subst (λ x. IsFine x vs) made fine))
    asks None e is made loud just fine = failing (subst (λ x. IsFine x vs) made fine)

    just_now : AreJust false budget s terms (i ∷ all) vs → Just (turn s i) vs
    unfolding AreJust
    just_now just = just

    fine_now : (course s (i ∷ all) last vs).fails ≡ false → IsFine (turn s i) vs
    unfolding course
    fine_now fine = fine

    put : Counts before (with_proof (proof_for (command_of i.shape) s) (proofs_after (turn s i) s vs rest)) → Counts before (proofs s (i ∷ all) vs)
    unfolding proofs
    put m = m

    item : AreJust false budget s terms (i ∷ all) vs → (course s (i ∷ all) last vs).fails ≡ false → Counts before (proofs s (i ∷ all) vs)
    item just fine = by (kind_of (command_of i.shape))
      where
        by : (command_of i.shape ≡ Ok GetProof) ⊎ IsOther (command_of i.shape) → Counts before (proofs s (i ∷ all) vs)
        by (inl is) =
            put (subst (λ p. Counts before (with_proof p (proofs_after (turn s i) s vs rest))) (ap (λ c. proof_for c s) (sym is))
            (asks (proof s) (turn s i) refl (ap (λ c. effect_of c s i.line) is) (is_loud s i is).0 (just_now just) (fine_now fine)))
        by (inr o) =
            put (subst (λ p. Counts before (with_proof p (proofs_after (turn s i) s vs rest))) (sym (o.silent s))
            (other (o.unasked (beside s []) i.line) (turn s i) refl (just_now just) (fine_now fine)))

  all_count : (is : List Item) → Ahead is
  all_count [] s vs terms before just fine goes =
      let at = session_is (beside s []) session before asked goes in
      subst (Counts before) (sym (last_ends along leaving behind s vs (ap (λ t. (step t leaving).given) at.0 ∙ exits))) (omega (arith, ap (length {A = List ℕ}) at.1))
  all_count (i ∷ is) s vs terms before just fine goes = item s vs terms before i is goes (all_count is) just fine

pub each_is_answered : TracesGoAlong → EachIsAnswered
each_is_answered along budget script verdicts just fine asked bank f =
    let just_parts = subst (λ is. AreJust false budget start [] is verdicts) f.parts just in
    let fine_parts = subst (λ is. (course start is script.last verdicts).fails ≡ false) f.parts fine in
    let counted = all_count along budget f.leaving f.behind script.last f.session asked f.leaves f.before start verdicts [] [] just_parts fine_parts f.follows in
    let all = subst (λ is. 0 + length (proofs start is verdicts) ≡ length asked) (sym f.parts) counted in
    omega (arith, all)
