-- Each step is sound: where a valuation makes the facts of the path true, it makes those of one branch true.
use Rattle.std.proofs.Common.{◌≡◌, ℕ, ◌-◌, Bool, true, false, not, cond, nat_eq, ◌&&◌, List, [], ◌∷◌, take, drop, Option, Some, None, ◌⊎◌, inl, inr, ⊎_elim, refl, sym, ap, subst, ◌∙◌}
use Rattle.std.specs.List.{list_any, list_all}
use Rattle.sc_base.proofs.Options.{bind_some}
use Rattle.sc_base.proofs.Bools.{cond_cases, and_true, or_true, all_true, some_true, all_false, some_false}
use Rattle.sc_base.proofs.Places.{all_at_item, none_at_item, all_but_item, none_but_item}
use Rattle.sc_terms.specs.declared.problem.Parts.{Parts}
use Rattle.sc_terms.specs.declared.nodes.Formula.{Formula}
use Rattle.sc_terms.specs.declared.nodes.Formula.TheVariants as formulas
use Rattle.sc_terms.specs.Lookup.{formula_at}
use Rattle.sc_terms.specs.Same.{same_truth}
use Rattle.std.specs.Ordering.{int_eq}
use Rattle.sc_base.specs.Integers.{has_element}
use Rattle.sc_terms.specs.Meaning.{Interpretation, Valuation, Fits, truth_of, same_elements, cube_members}
use Rattle.sc_rules.specs.Pairs.{equal_fact, same_set_fact}
use Rattle.sc_facts.specs.declared.fact.Fact.{Fact}
use Rattle.sc_facts.specs.declared.fact.Fact.TheVariants as facts
use Rattle.sc_facts.specs.declared.name.FactName.{FactName}
use Rattle.sc_facts.specs.declared.name.FactName.TheVariants as names
use Rattle.sc_facts.specs.Facts.{named, is_empty, FactHolds, Hold, OneHolds}
use Rattle.sc_facts.proofs.Truth.{has_holds}
use Rattle.sc_rules.specs.declared.step.PlainStep.{PlainStep}
use Rattle.sc_rules.specs.declared.step.PlainStep.TheVariants as steps
use Rattle.sc_rules.specs.Boolean.{sign, sign_of, all_have, agree, differ, own_sign, part_at, others_have, part_sign, unit_of, parts_sign, all_of, atom_with, atom_of}
use Rattle.sc_rules.specs.Steps.{one, names_fact, cut_of, branches, StepsAreSound}
use Rattle.sc_rules.proofs.Signs.{first_sign-is, not-true, not-false, true_or_false}
use Rattle.sc_rules.proofs.SetSteps.{atom_equal, atom_same_set, op-true, into_single-true, from_single-true, carry-true, apart-true, move-true, set_apart-true, reflexive-true, equal_step-true, set_reflexive-true, set_step-true, differ-true}

same_truth-left : (g k : Bool) → same_truth (same_truth g k) k ≡ g
same_truth-left true true = refl
same_truth-left true false = refl
same_truth-left false true = refl
same_truth-left false false = refl

same_truth-right : (g k : Bool) → same_truth (same_truth g k) g ≡ k
same_truth-right true true = refl
same_truth-right true false = refl
same_truth-right false true = refl
same_truth-right false false = refl

module _ (problem : Parts) (i : Interpretation) (v : Valuation) (fits : Fits problem i v) (path : List Fact) (h : Hold problem v path) where
  has_sign : (f : ℕ) (s : Bool) → sign path f s ≡ true → v.truth f ≡ s
  has_sign f s e = has_holds problem v path (facts.Sign f s) h e

  agree-same : (f g : ℕ) → agree path f g ≡ true → same_truth (v.truth f) (v.truth g) ≡ true
  agree-same f g e =
      elim (or_true (sign path f true && sign path g true) (sign path f false && sign path g false) e) [
        | inl a ↦ let p = and_true (sign path f true) (sign path g true) a in rw (has_sign f true p.0, has_sign g true p.1)
        | inr b ↦ let p = and_true (sign path f false) (sign path g false) b in rw (has_sign f false p.0, has_sign g false p.1)
      ]

  differ-same : (f g : ℕ) → differ path f g ≡ true → same_truth (v.truth f) (v.truth g) ≡ false
  differ-same f g e =
      elim (or_true (sign path f true && sign path g false) (sign path f false && sign path g true) e) [
        | inl a ↦ let p = and_true (sign path f true) (sign path g false) a in rw (has_sign f true p.0, has_sign g false p.1)
        | inr b ↦ let p = and_true (sign path f false) (sign path g true) b in rw (has_sign f false p.0, has_sign g true p.1)
      ]

  own_sign-true : (node : Formula) (s : Bool) → own_sign path node ≡ Some s → truth_of problem i v node ≡ s
  own_sign-true formulas.True s e = cc
  own_sign-true formulas.False s e = cc
  own_sign-true (formulas.Not f) s e =
      first_sign-is _ _ s (not (v.truth f)) (λ p. rw (has_sign f false p)) (λ m. rw (has_sign f true m)) e
  own_sign-true (formulas.And fs) s e =
      first_sign-is _ _ s (list_all v.truth fs) (all_true _ v.truth (λ f. has_sign f true) fs) (some_false _ v.truth (λ f. has_sign f false) fs) e
  own_sign-true (formulas.Or fs) s e =
      first_sign-is _ _ s (list_any v.truth fs) (some_true _ v.truth (λ f. has_sign f true) fs) (all_false _ v.truth (λ f. has_sign f false) fs) e
  own_sign-true (formulas.Iff f g) s e =
      first_sign-is _ _ s (same_truth (v.truth f) (v.truth g)) (agree-same f g) (differ-same f g) e
  own_sign-true _ s e = absurd cc

  part_sign-true : (n : ℕ) (node : Formula) (p f : ℕ) (s : Bool) → v.truth n ≡ truth_of problem i v node → part_at node p ≡ Some f → part_sign path n node p ≡ Some s → v.truth f ≡ s
  part_sign-true n (formulas.Not g) p f s t at e =
      elim (cond_cases (nat_eq p 1) (Some g) None (Some f) at) [
        | inl a ↦ let same : g ≡ f = cc in rw (← same) (first_sign-is _ _ s (v.truth g) (λ m. not-false (v.truth g) (sym t ∙ has_sign n false m)) (λ m. not-true (v.truth g) (sym t ∙ has_sign n true m)) e)
        | inr b ↦ absurd cc
      ]
  part_sign-true n (formulas.And fs) p f s t at e =
      elim (cond_cases (sign path n false && others_have path fs p true) (Some false) None (Some s) e) [
        | inl a ↦
            let both = and_true (sign path n false) (others_have path fs p true) a.0 in
            let others = and_true (all_have path (take (p - 1) fs) true) (all_have path (drop p fs) true) both.1 in
            let one_decides = all_but_item v.truth fs p f at (all_true _ v.truth (λ g. has_sign g true) _ others.0) (all_true _ v.truth (λ g. has_sign g true) _ others.1) in
            let whole = has_sign n false both.0 in
            sym one_decides ∙ sym t ∙ whole ∙ cc
        | inr b ↦ absurd cc
      ]
  part_sign-true n (formulas.Or fs) p f s t at e =
      elim (cond_cases (sign path n true && others_have path fs p false) (Some true) None (Some s) e) [
        | inl a ↦
            let both = and_true (sign path n true) (others_have path fs p false) a.0 in
            let others = and_true (all_have path (take (p - 1) fs) false) (all_have path (drop p fs) false) both.1 in
            let one_decides = none_but_item v.truth fs p f at (all_false _ v.truth (λ g. has_sign g false) _ others.0) (all_false _ v.truth (λ g. has_sign g false) _ others.1) in
            let whole = has_sign n true both.0 in
            sym one_decides ∙ sym t ∙ whole ∙ cc
        | inr b ↦ absurd cc
      ]
  part_sign-true n (formulas.Iff g k) p f s t at e =
      let left : same_truth (v.truth n) (v.truth k) ≡ v.truth g = ap (λ b. same_truth b (v.truth k)) t ∙ same_truth-left (v.truth g) (v.truth k) in
      let right : same_truth (v.truth n) (v.truth g) ≡ v.truth k = ap (λ b. same_truth b (v.truth g)) t ∙ same_truth-right (v.truth g) (v.truth k) in
      elim (cond_cases (nat_eq p 1) (Some g) (cond (nat_eq p 2) (Some k) None) (Some f) at) [
        | inl a ↦
            let same : g ≡ f = cc in
            let e' = rw a.0 at e in
            rw (← same) (first_sign-is _ _ s (v.truth g) (λ m. sym left ∙ agree-same n k m) (λ m. sym left ∙ differ-same n k m) e')
        | inr b ↦
            elim (cond_cases (nat_eq p 2) (Some k) None (Some f) b.1) [
              | inl a ↦
                  let same : k ≡ f = cc in
                  let e' = rw b.0 at e in
                  rw (← same) (first_sign-is _ _ s (v.truth k) (λ m. sym right ∙ agree-same n g m) (λ m. sym right ∙ differ-same n g m) e')
              | inr d ↦ absurd cc
            ]
      ]
  part_sign-true n _ p f s t at e = absurd cc

  unit-true : (n p : ℕ) (fact : Fact) → unit_of problem path n p ≡ Some fact → FactHolds problem v fact
  unit-true n p fact e =
      let node = bind_some (formula_at problem n) _ fact e in
      let t = fits.truths n node.0 node.1 in
      elim (cond_cases (nat_eq p 0) _ _ (Some fact) node.2) [
        | inl a ↦
            let s = bind_some (own_sign path node.0) _ fact a.1 in
            let same : facts.Sign n s.0 ≡ fact = cc in
            subst (FactHolds problem v) same (t ∙ own_sign-true node.0 s.0 s.1)
        | inr b ↦
            let f = bind_some (part_at node.0 p) _ fact b.1 in
            let s = bind_some (part_sign path n node.0 p) _ fact f.2 in
            let same : facts.Sign f.0 s.0 ≡ fact = cc in
            subst (FactHolds problem v) same (part_sign-true n node.0 p f.0 s.0 t f.1 s.1)
      ]

  parts_sign-true : (n : ℕ) (node : Formula) (p f : ℕ) (s : Bool) → v.truth n ≡ truth_of problem i v node → parts_sign path n node ≡ Some s → part_at node p ≡ Some f → v.truth f ≡ s
  parts_sign-true n (formulas.And fs) p f s t e at =
      elim (cond_cases (sign path n true) (Some true) None (Some s) e) [
        | inl a ↦ all_at_item v.truth fs p f at (sym t ∙ has_sign n true a.0) ∙ cc
        | inr b ↦ absurd cc
      ]
  parts_sign-true n (formulas.Or fs) p f s t e at =
      elim (cond_cases (sign path n false) (Some false) None (Some s) e) [
        | inl a ↦ none_at_item v.truth fs p f at (sym t ∙ has_sign n false a.0) ∙ cc
        | inr b ↦ absurd cc
      ]
  parts_sign-true n _ p f s t e at = absurd cc

  all-true : (n p : ℕ) (fact : Fact) → all_of problem path n p ≡ Some fact → FactHolds problem v fact
  all-true n p fact e =
      let node = bind_some (formula_at problem n) _ fact e in
      let s = bind_some (parts_sign path n node.0) _ fact node.2 in
      let f = bind_some (part_at node.0 p) _ fact s.2 in
      let same : facts.Sign f.0 s.0 ≡ fact = cc in
      subst (FactHolds problem v) same (parts_sign-true n node.0 p f.0 s.0 (fits.truths n node.0 node.1) s.1 f.1)

  atom_with-true : (node : Formula) (s : Bool) (fact : Fact) → truth_of problem i v node ≡ s → atom_with node s ≡ Some fact → FactHolds problem v fact
  atom_with-true (formulas.Member x set) s fact t e =
      let same : facts.Member x set s ≡ fact = cc in subst (FactHolds problem v) same t
  atom_with-true (formulas.Eq x y) s fact t e =
      let same : equal_fact x y s ≡ fact = cc in subst (FactHolds problem v) same (atom_equal problem i v fits path h x y s t)
  atom_with-true (formulas.EqSet x y) s fact t e =
      let same : same_set_fact x y s ≡ fact = cc in subst (FactHolds problem v) same (atom_same_set problem i v fits path h x y s t)
  atom_with-true _ s fact t e = absurd cc

  atom-true : (n : ℕ) (fact : Fact) → atom_of problem path n ≡ Some fact → FactHolds problem v fact
  atom-true n fact e =
      let node = bind_some (formula_at problem n) _ fact e in
      let s = bind_some (sign_of path n) _ fact node.2 in
      let known = first_sign-is _ _ s.0 (v.truth n) (has_sign n true) (has_sign n false) s.1 in
      atom_with-true node.0 s.0 fact (sym (fits.truths n node.0 node.1) ∙ known) s.2

  one-holds : (o : Option Fact) (bs : List (List Fact)) → ((fact : Fact) → o ≡ Some fact → FactHolds problem v fact) → one o ≡ Some bs → OneHolds problem v bs
  one-holds None bs each e = absurd cc
  one-holds (Some fact) bs each e =
      let same : (fact ∷ []) ∷ [] ≡ bs = cc in subst (OneHolds problem v) same (inl (each fact refl, tt))

  named-holds : (name : FactName) → names_fact problem name ≡ true → FactHolds problem v (named name true) ⊎ FactHolds problem v (named name false)
  named-holds (names.Sign f) e = true_or_false (v.truth f)
  named-holds (names.Member x s) e = true_or_false (has_element (v.members s) (v.element x))
  named-holds (names.Eq x y) e = true_or_false (int_eq (v.element x) (v.element y))
  named-holds (names.EqSet s t) e = true_or_false (same_elements (v.members s) (v.members t))
  named-holds (names.Empty cube) e = true_or_false (is_empty (cube_members problem v cube))

  cut-holds : (name : FactName) (bs : List (List Fact)) → cut_of problem name ≡ Some bs → OneHolds problem v bs
  cut-holds name bs e =
      elim (cond_cases (names_fact problem name) _ None (Some bs) e) [
        | inl a ↦
            let same : (named name true ∷ []) ∷ (named name false ∷ []) ∷ [] ≡ bs = cc in
            subst (OneHolds problem v) same (⊎_elim (λ t. inl (t, tt)) (λ t. inr (inl (t, tt))) (named-holds name a.0))
        | inr b ↦ absurd cc
      ]

  branches-hold : (step : PlainStep) (bs : List (List Fact)) → branches problem path step ≡ Some bs → OneHolds problem v bs
  branches-hold (steps.Atom n) bs e = one-holds _ bs (atom-true n) e
  branches-hold (steps.All n p) bs e = one-holds _ bs (all-true n p) e
  branches-hold (steps.Unit n p) bs e = one-holds _ bs (unit-true n p) e
  branches-hold (steps.Cut name) bs e = cut-holds name bs e
  branches-hold (steps.Op x s p) bs e = one-holds _ bs (op-true problem i v fits path h x s p) e
  branches-hold (steps.Single x s) bs e = one-holds _ bs (into_single-true problem i v fits path h x s) e
  branches-hold (steps.Unsingle x s) bs e = one-holds _ bs (from_single-true problem i v fits path h x s) e
  branches-hold (steps.Carry x y s) bs e = one-holds _ bs (carry-true problem i v fits path h x y s) e
  branches-hold (steps.Apart x y s) bs e = one-holds _ bs (apart-true problem i v fits path h x y s) e
  branches-hold (steps.Move x s t) bs e = one-holds _ bs (move-true problem i v fits path h x s t) e
  branches-hold (steps.SetApart x s t) bs e = one-holds _ bs (set_apart-true problem i v fits path h x s t) e
  branches-hold (steps.EqRefl x) bs e = one-holds _ bs (reflexive-true problem i v fits path h x) e
  branches-hold (steps.EqStep x y z) bs e = one-holds _ bs (equal_step-true problem i v fits path h x y z) e
  branches-hold (steps.SeqRefl s) bs e = one-holds _ bs (set_reflexive-true problem i v fits path h s) e
  branches-hold (steps.SeqStep s t u) bs e = one-holds _ bs (set_step-true problem i v fits path h s t u) e
  branches-hold (steps.Differ s t) bs e = differ-true problem i v fits path h s t bs e

pub steps_sound : StepsAreSound
steps_sound problem i v fits path step bs e h = branches-hold problem i v fits path h step bs e
