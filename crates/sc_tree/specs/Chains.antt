-- Chains: steps of one branch each.
use Rattle.std.specs.Prelude.{ℕ, List, [], ◌∷◌, ◌++◌, map, Option, Some, None}
use Rattle.sc_base.specs.Options.{◌>>=◌}
use Rattle.sc_terms.specs.declared.problem.Parts.{Parts}
use Rattle.sc_facts.specs.declared.fact.Fact.{Fact}
use Rattle.sc_deriv.specs.declared.derivation.Step.{Step}
use Rattle.sc_deriv.specs.declared.derivation.Taken.{Taken}
use Rattle.sc_deriv.specs.Acceptance.{step_branches}

abbrev pub taken : Step → ℕ → Taken
taken step branch = record { step = step; branch = branch }

-- the facts that a step with one branch brings
abbrev pub only : Option (List (List Fact)) → Option (List Fact)
only (Some (b ∷ [])) = Some b
only _ = None

-- the path after steps of one branch each, if each applies
abbrev pub grow : Parts → List Fact → List Step → Option (List Fact)
grow problem path [] = Some path
grow problem path (step ∷ chain) = only (step_branches problem path step) >>= λ b. grow problem (path ++ b) chain

-- the first branch of each step
abbrev pub firsts : List Step → List Taken
firsts chain = map (λ s. taken s 1) chain
