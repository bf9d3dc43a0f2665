-- Steps on memberships that conclude what was not said yet.
use Rattle.std.specs.Prelude.{◌≡◌, ℕ, true, false, List, [], ◌∷◌, ◌++◌, Option, Some, None, MatchOption, ⊤}
use Rattle.std.specs.List.{filter_map}
use Rattle.sc_terms.specs.declared.problem.Parts.{Parts}
use Rattle.sc_facts.specs.declared.fact.Fact.{Fact}
use Rattle.sc_facts.specs.declared.fact.Fact.TheVariants as facts
use Rattle.sc_facts.specs.Facts.{has, root_facts}
use Rattle.sc_rules.specs.declared.step.PlainStep.{PlainStep}
use Rattle.sc_rules.specs.declared.step.PlainStep.TheVariants as steps
use Rattle.sc_rules.specs.Steps.{branches}

-- a problem, and what was said of it: the facts of its roots, and behind them those that were added, in order
pub record Memberships : Type 0 where
  pub problem : Parts
  pub facts : List Fact

abbrev pub of_roots : Parts → Memberships
of_roots stock = record { problem = stock; facts = root_facts stock.roots }

abbrev pub with_fact : Memberships → Fact → Memberships
with_fact table fact = record { problem = table.problem; facts = table.facts ++ fact ∷ [] }

-- the pair of a fact that two elements are equal
abbrev pub equation : Fact → Option (ℕ × ℕ)
equation (facts.Eq e f true) = Some (e, f)
equation _ = None

-- the pairs of elements that the facts have as equal, in their order
abbrev pub equations : List Fact → List (ℕ × ℕ)
equations path = filter_map equation path

-- the steps that carry memberships on: by an operation, into a set of one element, to an equal element, to an equal set
abbrev pub Carries : PlainStep → Type 0
Carries (steps.Op e s p) = ⊤
Carries (steps.Single e s) = ⊤
Carries (steps.Carry e f s) = ⊤
Carries (steps.Move e s t) = ⊤
Carries _ = ⊥

-- such a step applies and concludes what is not on the path
pub record Forces (problem : Parts) (path : List Fact) (step : PlainStep) : Type 0 where
  pub kind : Carries step
  pub fact : Fact
  pub concludes : branches problem path step ≡ Some ((fact ∷ []) ∷ [])
  pub fresh : has path fact ≡ false

-- whatever the step concludes is on the path
abbrev pub IsIdle : Parts → List Fact → PlainStep → Type 0
IsIdle problem path step = (fact : Fact) → branches problem path step ≡ Some ((fact ∷ []) ∷ []) → has path fact ≡ true

-- no such step concludes what is not on the path
abbrev pub NothingForced : Parts → List Fact → Type 0
NothingForced problem path = (step : PlainStep) → Carries step → IsIdle problem path step

-- a step that forces something, or that nothing is forced
abbrev pub Finds : Parts → List Fact → Option PlainStep → Type 0
Finds problem path found = MatchOption found (NothingForced problem path) (Forces problem path)
