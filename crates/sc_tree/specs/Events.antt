-- Which events a leaf allows.
use Rattle.std.specs.Prelude.{None, ◌≡◌, ◌≢◌, ℕ, true, false, List, [], ◌∷◌, ◌++◌, length, Some, is_some}
use Rattle.sc_terms.specs.declared.problem.Parts.{Parts}
use Rattle.sc_terms.specs.Values.{Shows}
use Rattle.sc_facts.specs.declared.fact.Fact.{Fact}
use Rattle.sc_facts.specs.declared.name.FactName.{FactName}
use Rattle.sc_deriv.specs.declared.derivation.Step.{Step}
use Rattle.sc_deriv.specs.declared.derivation.Closing.{Closing}
use Rattle.sc_deriv.specs.Acceptance.{step_branches, clashes, closing_fault}
use Rattle.sc_deriv.specs.declared.derivation.Taken.{Taken}
use Rattle.sc_tree.specs.declared.machine.Cause.{Cause}
use Rattle.sc_tree.specs.declared.machine.Cause.TheVariants.{Budget, Wide}
use Rattle.sc_tree.specs.declared.machine.Event.{Event}
use Rattle.sc_tree.specs.declared.machine.Event.TheVariants as events
use Rattle.sc_deriv.specs.Taking.{path_after}
use Rattle.sc_tree.specs.Chains.{taken, grow, firsts}
use Rattle.sc_tree.specs.Lean.{IsWithin}
use Rattle.sc_tree.specs.Wide.{IsWide}

-- no fact stands on the path with both signs
abbrev pub HasNoClash : List Fact → Type 0
HasNoClash path = (name : FactName) → clashes path name ≡ false

-- the closing holds on the path, where there are no lemmas
abbrev pub Closes : List Fact → Closing → Type 0
Closes path closing = closing_fault [] path closing ≡ None

-- the cause to give up a leaf with this path, to which these steps lead: as many steps as the budget allows, or a number past 128 bits
abbrev pub IsCause : Parts → ℕ → List Fact → List Taken → Cause → Type 0
IsCause problem budget path steps Budget = length steps ≡ budget
IsCause problem budget path steps (Wide note) = IsWide problem path note

-- the step applies with two branches
abbrev pub IsSplit : Parts → List Fact → Step → Type 0
IsSplit problem path step = (pair : List Fact × List Fact) × (step_branches problem path step ≡ Some (pair.0 ∷ pair.1 ∷ []))

-- what may be done at a leaf with this path, to which these steps lead
abbrev pub AllowsOn : Parts → ℕ → List Fact → List Taken → Event → Type 0
AllowsOn problem budget path steps events.Take = ⊥
AllowsOn problem budget path steps (events.Grow chain) = (chain ≢ []) × (is_some (grow problem path chain) ≡ true) × IsWithin problem budget (steps ++ firsts chain)
AllowsOn problem budget path steps (events.Split step) = IsSplit problem path step × IsWithin problem budget (steps ++ taken step 1 ∷ []) × IsWithin problem budget (steps ++ taken step 2 ∷ [])
AllowsOn problem budget path steps (events.Close closing) = Closes path closing
AllowsOn problem budget path steps (events.Spend cause) = IsCause problem budget path steps cause × HasNoClash path
AllowsOn problem budget path steps (events.Found values) = Shows problem values

-- what may be done at the leaf to which these steps lead
pub record Allows (problem : Parts) (budget : ℕ) (steps : List Taken) (event : Event) : Type 0 where
  pub path : List Fact
  pub leads : path_after problem steps ≡ Some path
  pub suits : AllowsOn problem budget path steps event
