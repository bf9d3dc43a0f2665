-- When a tree of nodes is closed, and where it first fails.
use Rattle.std.specs.Prelude.{◌≡◌, ℕ, ◌+◌, Bool, true, false, ◌&&◌, nat_le, if◌then◌else◌, List, [], ◌∷◌, ◌++◌, length, map, Option, Some, None}
use Rattle.sc_terms.specs.declared.problem.Parts.{Parts}
use Rattle.sc_facts.specs.declared.fact.Fact.{Fact}
use Rattle.sc_facts.specs.declared.name.FactName.{FactName}
use Rattle.sc_facts.specs.declared.name.FactName.TheVariants as names
use Rattle.sc_facts.specs.Facts.{has, named}
use Rattle.sc_rules.specs.Steps.{branches}
use Rattle.sc_deriv.specs.declared.derivation.Step.{Step}
use Rattle.sc_deriv.specs.declared.derivation.Step.TheVariants.{Plain}
use Rattle.sc_deriv.specs.declared.derivation.Closing.{Closing}
use Rattle.sc_deriv.specs.declared.derivation.Closing.TheVariants.{Clash}
use Rattle.sc_deriv.specs.declared.derivation.Lemma.{Lemma}
use Rattle.sc_deriv.specs.declared.derivation.Node.{Node}
use Rattle.sc_deriv.specs.declared.derivation.Node.TheVariants as nodes
use Rattle.sc_deriv.specs.declared.derivation.Reason.{Reason}
use Rattle.sc_deriv.specs.declared.derivation.Reason.TheVariants.{Q1, Q2}

-- the branches of a step, each with the facts that it concludes, or nothing where the step does not apply on the path
abbrev pub step_branches : Parts → List Fact → Step → Option (List (List Fact))
step_branches problem path (Plain step) = branches problem path step

-- of an unordered pair the lower number comes first
abbrev pub is_ordered : FactName → Bool
is_ordered (names.Sign f) = true
is_ordered (names.Member e t) = true
is_ordered (names.Eq e f) = nat_le e f
is_ordered (names.EqSet t u) = nat_le t u
is_ordered (names.Empty cube) = true

-- the name is a fact's, which stands on the path with both signs
abbrev pub clashes : List Fact → FactName → Bool
clashes path name = is_ordered name && (has path (named name true) && has path (named name false))

-- why a closing does not hold on the path, or nothing where it holds; the lists are the hypotheses of the lemmas that it may name, in order
abbrev pub closing_fault : List (List Fact) → List Fact → Closing → Option Reason
closing_fault lists path (Clash name) = if clashes path name then None else Some Q2

-- what each lemma supposes
unfoldable pub hypotheses_of : List Lemma → List (List Fact)
hypotheses_of lemmas = map (λ (l : Lemma). l.hypotheses) lemmas

-- The nodes are one tree in preorder, in which each step applies on its path, and each closing holds on its, over lemmas with these hypotheses.
pub data Closed (problem : Parts) (lists : List (List Fact)) : List Fact → List Node → Type 0 where
  closing : (path : List Fact) (c : Closing) → closing_fault lists path c ≡ None → Closed problem lists path (nodes.Closing c ∷ [])
  one : (path branch : List Fact) (step : Step) (rest : List Node) → step_branches problem path step ≡ Some (branch ∷ []) → Closed problem lists (path ++ branch) rest → Closed problem lists path (nodes.Step step ∷ rest)
  two : (path left right : List Fact) (step : Step) (first second : List Node) → step_branches problem path step ≡ Some (left ∷ right ∷ []) → Closed problem lists (path ++ left) first → Closed problem lists (path ++ right) second → Closed problem lists path (nodes.Step step ∷ first ++ second)

-- The n-th node, counted from 1, is the first whose step does not apply, or whose closing does not hold, on its path.
pub data Fails (problem : Parts) (lists : List (List Fact)) : List Fact → List Node → ℕ → Reason → Type 0 where
  step : (path : List Fact) (step : Step) (rest : List Node) → step_branches problem path step ≡ None → Fails problem lists path (nodes.Step step ∷ rest) 1 Q1
  closing : (path : List Fact) (c : Closing) (rest : List Node) (reason : Reason) → closing_fault lists path c ≡ Some reason → Fails problem lists path (nodes.Closing c ∷ rest) 1 reason
  in_only : (path branch : List Fact) (step : Step) (rest : List Node) (n : ℕ) (reason : Reason) → step_branches problem path step ≡ Some (branch ∷ []) → Fails problem lists (path ++ branch) rest n reason → Fails problem lists path (nodes.Step step ∷ rest) (1 + n) reason
  in_first : (path left right : List Fact) (step : Step) (first second : List Node) (n : ℕ) (reason : Reason) → step_branches problem path step ≡ Some (left ∷ right ∷ []) → Fails problem lists (path ++ left) first n reason → Fails problem lists path (nodes.Step step ∷ first ++ second) (1 + n) reason
  in_second : (path left right : List Fact) (step : Step) (first second : List Node) (n : ℕ) (reason : Reason) → step_branches problem path step ≡ Some (left ∷ right ∷ []) → Closed problem lists (path ++ left) first → Fails problem lists (path ++ right) second n reason → Fails problem lists path (nodes.Step step ∷ first ++ second) (1 + length first + n) reason
