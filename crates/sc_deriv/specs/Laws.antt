-- What the checker's judgement means.
use Rattle.std.specs.Prelude.{◌≡◌, ℕ, Bool, true, false, ◌↔◌, List, ◌++◌}
use Rattle.std.specs.List.{AllByRecursion}
use Rattle.sc_terms.specs.declared.problem.Parts.{Parts}
use Rattle.sc_terms.specs.Meaning.{Interpretation, IsInterpretation, Valuation, Fits, AllTrue}
use Rattle.sc_terms.specs.Values.{meaning, Holds}
use Rattle.sc_terms.specs.Conditions.{IsProblem}
use Rattle.sc_facts.specs.declared.fact.Fact.{Fact}
use Rattle.sc_facts.specs.Facts.{Hold, root_facts}
use Rattle.sc_deriv.specs.declared.derivation.Node.{Node}
use Rattle.sc_deriv.specs.declared.derivation.Reason.{Reason}
use Rattle.sc_deriv.specs.declared.derivation.Reason.TheVariants.{Q1, Q2, Q3, Q4, Q5}
use Rattle.sc_deriv.specs.declared.derivation.Judgement.TheVariants.{Accepted, Refused}
use Rattle.sc_deriv.specs.Acceptance.{Closed, Fails}
use Rattle.sc_deriv.specs.Spelling.{IsTree}
use Rattle.sc_deriv.specs.Judging.{judgement_on}

-- exactly the closed trees are accepted
abbrev pub AcceptsClosedTrees : Type 0
AcceptsClosedTrees =
    (problem : Parts) (lists : List (List Fact)) (path : List Fact) (nodes : List Node) →
    (judgement_on problem lists path nodes ≡ Accepted) ↔ Closed problem lists path nodes

-- a whole tree that is not closed is refused at the first node that fails
abbrev pub RefusesFirstFailure : Type 0
RefusesFirstFailure =
    (problem : Parts) (lists : List (List Fact)) (path : List Fact) (nodes : List Node) → IsTree nodes →
    (n : ℕ) (reason : Reason) → (judgement_on problem lists path nodes ≡ Refused n reason) ↔ Fails problem lists path nodes n reason

-- the reason is one of what nodes say, and not of their text
abbrev pub is_of_nodes : Reason → Bool
is_of_nodes Q1 = true
is_of_nodes Q2 = true
is_of_nodes Q3 = true
is_of_nodes Q4 = true
is_of_nodes Q5 = true
is_of_nodes _ = false

-- a whole tree fails by what a node says
abbrev pub FailsByNodes : Type 0
FailsByNodes =
    (problem : Parts) (lists : List (List Fact)) (path : List Fact) (nodes : List Node) (n : ℕ) (reason : Reason) →
    Fails problem lists path nodes n reason → is_of_nodes reason ≡ true

-- the valuation makes no list of facts true as a whole
abbrev pub NoneHolds : Parts → Valuation → List (List Fact) → Type 0
NoneHolds problem v lists = AllByRecursion (λ facts. Hold problem v facts → ⊥) lists

-- no valuation that fits, and makes no lemma's hypotheses true, makes all facts true on which a closed tree begins
abbrev pub ClosedTreesRefute : Type 0
ClosedTreesRefute =
    (problem : Parts) (i : Interpretation) (v : Valuation) → Fits problem i v → (lists : List (List Fact)) → NoneHolds problem v lists →
    (path : List Fact) (nodes : List Node) → Closed problem lists path nodes → Hold problem v path → ⊥

-- no interpretation that makes the roots true makes all hypotheses true
abbrev pub Follows : Parts → List Fact → Type 0
Follows problem hypotheses =
    (i : Interpretation) → IsInterpretation i → Holds problem i → Hold problem (meaning problem i) hypotheses → ⊥

-- so a lemma with a closed tree over lemmas that follow from the problem follows from it
abbrev pub LemmasFollow : Type 0
LemmasFollow =
    (problem : Parts) → IsProblem problem → (lists : List (List Fact)) → AllByRecursion (Follows problem) lists →
    (hypotheses : List Fact) (nodes : List Node) → Closed problem lists (root_facts problem.roots ++ hypotheses) nodes → Follows problem hypotheses

-- where a tree is closed that begins with the roots and hypotheses, no valuation that fits, and makes no lemma's hypotheses true, makes both true
abbrev pub LemmasRefute : Type 0
LemmasRefute =
    (problem : Parts) (lists : List (List Fact)) (hypotheses : List Fact) (nodes : List Node) → Closed problem lists (root_facts problem.roots ++ hypotheses) nodes →
    (i : Interpretation) (v : Valuation) → Fits problem i v → NoneHolds problem v lists → AllTrue v problem.roots → Hold problem v hypotheses → ⊥
