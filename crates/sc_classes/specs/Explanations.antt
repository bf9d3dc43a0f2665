-- Steps that explain why two elements are equal.
use Rattle.std.specs.Prelude.{◌≡◌, ℕ, true, if◌then◌else◌, nat_eq, List, [], ◌∷◌, ◌++◌, Some}
use Rattle.std.specs.List.{AllByRecursion}
use Rattle.sc_terms.specs.declared.problem.Parts.{Parts}
use Rattle.sc_facts.specs.declared.fact.Fact.{Fact}
use Rattle.sc_rules.specs.declared.step.PlainStep.{PlainStep}
use Rattle.sc_rules.specs.Pairs.{equal, equal_fact}
use Rattle.sc_rules.specs.declared.step.PlainStep.TheVariants.{EqRefl, EqStep}
use Rattle.sc_rules.specs.Steps.{branches}
use Rattle.sc_classes.specs.declared.chains.Visit.{Visit}
use Rattle.sc_classes.specs.Searches.{visit_at, AreLinked}

-- one after another the steps apply, the first at this path, each with one branch of one fact, which stands on the path from there on, and the last of these is the fact
pub data Concludes (problem : Parts) : List Fact → List PlainStep → Fact → Type 0 where
  last : (path : List Fact) (step : PlainStep) (fact : Fact) → branches problem path step ≡ Some ((fact ∷ []) ∷ []) → Concludes problem path (step ∷ []) fact
  next : (path : List Fact) (step : PlainStep) (first fact : Fact) (steps : List PlainStep) → branches problem path step ≡ Some ((first ∷ []) ∷ []) → Concludes problem (path ++ first ∷ []) steps fact → Concludes problem path (step ∷ steps) fact

-- the path says of each pair that its two are equal
abbrev pub HoldsPairs : List (ℕ × ℕ) → List Fact → Type 0
HoldsPairs pairs path = AllByRecursion (λ p. equal path p.0 p.1 true ≡ true) pairs

-- at each path of the pairs' equations the steps conclude in the end that the two elements are equal
abbrev pub Explains : Parts → List (ℕ × ℕ) → ℕ → ℕ → List PlainStep → Type 0
Explains problem pairs e f steps = (path : List Fact) → HoldsPairs pairs path → Concludes problem path steps (equal_fact e f true)

-- the explanation where the two are the same, or one pair
abbrev pub short_steps : ℕ → ℕ → List PlainStep
short_steps e f = if nat_eq e f then EqRefl e ∷ [] else EqRefl e ∷ EqStep e e f ∷ []

-- along each chain that has a first link before the place, the steps conclude that e equals the last
abbrev pub Follows : List Visit → ℕ → ℕ → List PlainStep → Type 0
Follows visits e second steps =
    (problem : Parts) (pairs : List (ℕ × ℕ)) (path : List Fact) → AreLinked pairs visits → HoldsPairs pairs path → equal path e (visit_at visits second).number true ≡ true
    → Concludes problem path steps (equal_fact e (visit_at visits 0).number true)
