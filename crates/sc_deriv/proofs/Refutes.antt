-- A closed tree refutes the facts on which it begins.
use Rattle.std.proofs.Common.{◌≡◌, ℕ, Bool, true, false, ◌&&◌, List, [], ◌∷◌, ◌++◌, Option, Some, None, ◌⊎◌, inl, inr, refl, sym, subst, ◌∙◌}
use Rattle.std.specs.Prelude.{if◌then◌else◌}
use Rattle.std.specs.List.{AllByRecursion}
use Rattle.std.proofs.lemmas.Bool.{false≢true}
use Rattle.sc_terms.specs.declared.problem.Parts.{Parts}
use Rattle.sc_terms.specs.Meaning.{Interpretation, IsInterpretation, Valuation, Fits, AllTrue}
use Rattle.sc_terms.specs.Values.{meaning, Holds, IsUnsatisfiable}
use Rattle.sc_terms.specs.Conditions.{IsProblem, MeaningsFit}
use Rattle.sc_facts.specs.declared.fact.Fact.{Fact}
use Rattle.sc_facts.specs.declared.name.FactName.{FactName}
use Rattle.sc_facts.specs.declared.name.FactName.TheVariants as names
use Rattle.sc_facts.specs.Facts.{has, named, FactHolds, Hold, OneHolds, root_facts}
use Rattle.sc_facts.specs.Same.{same_fact, same_fact-Decides}
use Rattle.sc_base.proofs.Bools.{and_true, or_true}
use Rattle.sc_rules.specs.Steps.{StepsAreSound}
use Rattle.sc_deriv.specs.declared.derivation.Step.{Step}
use Rattle.sc_deriv.specs.declared.derivation.Step.TheVariants.{Plain}
use Rattle.sc_deriv.specs.declared.derivation.Closing.{Closing}
use Rattle.sc_deriv.specs.declared.derivation.Closing.TheVariants.{Clash}
use Rattle.sc_deriv.specs.declared.derivation.Reason.{Reason}
use Rattle.sc_deriv.specs.declared.derivation.Reason.TheVariants.{Q2}
use Rattle.sc_deriv.specs.declared.derivation.Node.{Node}
use Rattle.sc_deriv.specs.Acceptance.{is_ordered, clashes, step_branches, closing_fault, Closed, closing, one, two}
use Rattle.sc_deriv.specs.Laws.{NoneHolds, Follows, ClosedTreesRefute, LemmasRefute, LemmasFollow}

module _ (problem : Parts) (v : Valuation) where
  -- a fact that stands on a path of true facts is true
  has-holds : (path : List Fact) (fact : Fact) → Hold problem v path → has path fact ≡ true → FactHolds problem v fact
  has-holds [] fact h e = absurd (false≢true e)
  has-holds (other ∷ path) fact h e =
      elim (or_true (same_fact fact other) (has path fact) e) [
        | inl same ↦ subst (FactHolds problem v) (sym ((same_fact-Decides fact other).0 same)) h.0
        | inr found ↦ has-holds path fact h.1 found
      ]

  roots-hold : (roots : List ℕ) → AllTrue v roots → Hold problem v (root_facts roots)
  roots-hold [] h = tt
  roots-hold (root ∷ roots) h = (h.0, roots-hold roots h.1)

  hold-append : (xs ys : List Fact) → Hold problem v xs → Hold problem v ys → Hold problem v (xs ++ ys)
  hold-append [] ys h k = k
  hold-append (x ∷ xs) ys h k = (h.0, hold-append xs ys h.1 k)

  opposite : (name : FactName) → FactHolds problem v (named name true) → FactHolds problem v (named name false) → ⊥
  opposite (names.Sign f) p m = false≢true (sym m ∙ p)
  opposite (names.Member e s) p m = false≢true (sym m ∙ p)
  opposite (names.Eq e f) p m = false≢true (sym m ∙ p)
  opposite (names.EqSet s t) p m = false≢true (sym m ∙ p)
  opposite (names.Empty cube) p m = false≢true (sym m ∙ p)

  clash-refutes : (path : List Fact) (name : FactName) → clashes path name ≡ true → Hold problem v path → ⊥
  clash-refutes path name e h =
      let signs = and_true (is_ordered name) (has path (named name true) && has path (named name false)) e in
      let both = and_true (has path (named name true)) (has path (named name false)) signs.1 in
      opposite name (has-holds path (named name true) h both.0) (has-holds path (named name false) h both.1)

  no-fault : (b : Bool) → ◌≡◌ {A = Option Reason} (if b then None else Some Q2) None → b ≡ true
  no-fault true e = refl
  no-fault false e = absurd cc

  -- a closing that holds refutes the path on which it stands
  closing-refutes : (lists : List (List Fact)) → NoneHolds problem v lists → (path : List Fact) (c : Closing) → closing_fault lists path c ≡ None → Hold problem v path → ⊥
  closing-refutes lists none path (Clash name) e h = clash-refutes path name (no-fault (clashes path name) e) h

  one-of-two : (left right : List Fact) → OneHolds problem v (left ∷ right ∷ []) → Hold problem v left ⊎ Hold problem v right
  one-of-two left right h =
      elim h [ inl a ↦ inl a | inr others ↦ elim others [ inl b ↦ inr b | inr none ↦ absurd none ] ]

  one-of-one : (branch : List Fact) → OneHolds problem v (branch ∷ []) → Hold problem v branch
  one-of-one branch h = elim h [ inl a ↦ a | inr none ↦ absurd none ]

module _ (sound : StepsAreSound) (problem : Parts) (i : Interpretation) (v : Valuation) (fits : Fits problem i v) (lists : List (List Fact)) (none : NoneHolds problem v lists) where
  step-sound : (path : List Fact) (step : Step) (bs : List (List Fact)) → step_branches problem path step ≡ Some bs → Hold problem v path → OneHolds problem v bs
  step-sound path (Plain step) bs e h = sound problem i v fits path step bs e h

  closed-refutes : (path : List Fact) (nodes : List Node) → Closed problem lists path nodes → Hold problem v path → ⊥
  closed-refutes path nodes (closing _ c e) h = closing-refutes problem v lists none path c e h
  closed-refutes path nodes (one _ branch step rest e below) h =
      let held = one-of-one problem v branch (step-sound path step (branch ∷ []) e h) in
      closed-refutes (path ++ branch) rest below (hold-append problem v path branch h held)
  closed-refutes path nodes (two _ left right step first second e l r) h =
      elim (one-of-two problem v left right (step-sound path step (left ∷ right ∷ []) e h)) [
        | inl held ↦ closed-refutes (path ++ left) first l (hold-append problem v path left h held)
        | inr held ↦ closed-refutes (path ++ right) second r (hold-append problem v path right h held)
      ]

pub closed_trees_refute : StepsAreSound → ClosedTreesRefute
closed_trees_refute sound problem i v fits lists none path nodes closed h = closed-refutes sound problem i v fits lists none path nodes closed h

pub lemmas_refute : ClosedTreesRefute → LemmasRefute
lemmas_refute refute problem lists hypotheses nodes closed i v fits none roots h =
    refute problem i v fits lists none (root_facts problem.roots ++ hypotheses) nodes closed
    (hold-append problem v (root_facts problem.roots) hypotheses (roots-hold problem v problem.roots roots) h)

-- hypotheses of lemmas that follow are not true where the roots are
none-hold : (problem : Parts) (i : Interpretation) → IsInterpretation i → Holds problem i → (lists : List (List Fact)) → AllByRecursion (Follows problem) lists → NoneHolds problem (meaning problem i) lists
none-hold problem i proper roots [] follow = tt
none-hold problem i proper roots (list ∷ lists) follow = (follow.0 i proper roots, none-hold problem i proper roots lists follow.1)

pub lemmas_follow : ClosedTreesRefute → MeaningsFit → LemmasFollow
lemmas_follow refute fit problem is_problem lists follow hypotheses nodes closed i proper roots h =
    lemmas_refute refute problem lists hypotheses nodes closed i (meaning problem i) (fit problem is_problem i proper) (none-hold problem i proper roots lists follow) roots h

-- the roots alone, over no lemma
pub unsatisfiable : ClosedTreesRefute → MeaningsFit → (problem : Parts) → IsProblem problem → (nodes : List Node) → Closed problem [] (root_facts problem.roots) nodes → IsUnsatisfiable problem
unsatisfiable refute fit problem is_problem nodes closed i proper roots =
    refute problem i (meaning problem i) (fit problem is_problem i proper) [] tt (root_facts problem.roots) nodes closed (roots-hold problem (meaning problem i) problem.roots roots)
