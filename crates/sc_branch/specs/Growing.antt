-- What a branch holds, and how it grows.
use Rattle.std.specs.Prelude.{◌≡◌, ℕ, false, List, [], ◌∷◌, ◌++◌, Option, Some, None}
use Rattle.sc_terms.specs.declared.problem.Parts.{Parts}
use Rattle.sc_facts.specs.declared.fact.Fact.{Fact}
use Rattle.sc_facts.specs.declared.fact.Fact.TheVariants as facts
use Rattle.sc_facts.specs.Facts.{has}
use Rattle.sc_facts.specs.Paths.{PathFacts, with_facts}
use Rattle.sc_rules.specs.declared.step.PlainStep.{PlainStep}
use Rattle.sc_rules.specs.Steps.{branches}
use Rattle.sc_deriv.specs.declared.derivation.Step.{Step}
use Rattle.sc_deriv.specs.declared.derivation.Step.TheVariants.{Plain}
use Rattle.sc_deriv.specs.declared.derivation.Taken.{Taken}
use Rattle.sc_deriv.specs.Taking.{path_after}
use Rattle.sc_tree.specs.declared.machine.Event.{Event}
use Rattle.sc_tree.specs.declared.machine.Event.TheVariants as events
use Rattle.sc_tree.specs.Chains.{taken, grow, firsts}
use Rattle.sc_tree.specs.Lean.{IsWithin}

-- a path of a problem, and the steps that lead to it from the root path
pub record Held : Type 0 where
  pub problem : Parts
  pub path : PathFacts
  pub steps : List Taken

-- the steps lead to the path, leanly and within the budget
pub record IsOn (problem : Parts) (budget : ℕ) (path : List Fact) (steps : List Taken) : Type 0 where
  pub leads : path_after problem steps ≡ Some path
  pub within : IsWithin problem budget steps

-- what a branch holds after an event: after steps of one branch each their path, and otherwise what it held
abbrev pub IsHeldAfter : Parts → Held → Event → Held → Type 0
IsHeldAfter problem old (events.Grow chain) new = (grow problem old.path.facts chain ≡ Some new.path.facts) × (new.path ≡ with_facts old.path new.path.facts) × (new.steps ≡ old.steps ++ firsts chain) × (new.problem ≡ old.problem)
IsHeldAfter problem old event new = new ≡ old

-- a path, its steps, and those of them that were taken last
pub record Growth : Type 0 where
  pub path : PathFacts
  pub steps : List Taken
  pub chain : List Step

-- the branch has grown from this start by the steps that were taken last
pub record IsGrown (problem : Parts) (budget : ℕ) (start : Held) (now : Growth) : Type 0 where
  pub on : IsOn problem budget now.path.facts now.steps
  pub grown : grow problem start.path.facts now.chain ≡ Some now.path.facts
  pub path : now.path ≡ with_facts start.path now.path.facts
  pub steps : now.steps ≡ start.steps ++ firsts now.chain

-- the branch has grown on
abbrev pub GoesOn : Parts → ℕ → Growth → Growth → Type 0
GoesOn problem budget old new = (start : Held) → IsGrown problem budget start old → IsGrown problem budget start new

-- one step was added, which brings this fact
pub record Adds (step : PlainStep) (fact : Fact) (old new : Growth) : Type 0 where
  pub path : new.path ≡ with_facts old.path (old.path.facts ++ fact ∷ [])
  pub steps : new.steps ≡ old.steps ++ taken (Plain step) 1 ∷ []
  pub chain : new.chain ≡ old.chain ++ Plain step ∷ []
