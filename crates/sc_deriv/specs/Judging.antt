-- The judgement of a list of nodes, whether or not they are a tree.
use Rattle.std.specs.Prelude.{◌≡◌, ℕ, ◌+◌, List, [], ◌∷◌, ◌++◌, map, Option, Some, None, Result, Ok, Err}
use Rattle.sc_terms.specs.declared.problem.Parts.{Parts}
use Rattle.sc_facts.specs.declared.fact.Fact.{Fact}
use Rattle.sc_deriv.specs.OpenPaths.{first_path, other_paths}
use Rattle.sc_deriv.specs.declared.derivation.Node.{Node}
use Rattle.sc_deriv.specs.declared.derivation.Node.TheVariants as nodes
use Rattle.sc_deriv.specs.declared.derivation.Reason.{Reason}
use Rattle.sc_deriv.specs.declared.derivation.Reason.TheVariants.{P5, P6, Q1}
use Rattle.sc_deriv.specs.declared.derivation.Judgement.{Judgement}
use Rattle.sc_deriv.specs.declared.derivation.Judgement.TheVariants.{Accepted, Refused}
use Rattle.sc_deriv.specs.Acceptance.{step_branches, closing_fault}

-- the path with the facts of each branch
abbrev pub grown : List Fact → List (List Fact) → List (List Fact)
grown path bs = map (λ b. path ++ b) bs

abbrev pub step_outcome : List Fact → Option (List (List Fact)) → Result (List (List Fact)) Reason
step_outcome path None = Err Q1
step_outcome path (Some bs) = Ok (grown path bs)

abbrev pub closing_outcome : Option Reason → Result (List (List Fact)) Reason
closing_outcome None = Ok []
closing_outcome (Some reason) = Err reason

-- the paths on which the tree goes on after a node, or why it fails
abbrev pub outcome : Parts → List (List Fact) → List Fact → Node → Result (List (List Fact)) Reason
outcome problem lists path (nodes.Step step) = step_outcome path (step_branches problem path step)
outcome problem lists path (nodes.Closing c) = closing_outcome (closing_fault lists path c)

-- the node fails for the reason that is told, or leads from the old paths to the new ones
abbrev pub IsOutcome : Result (List (List Fact)) Reason → List (List Fact) → List (List Fact) → Option Reason → Type 0
IsOutcome (Err reason) old new told = told ≡ Some reason
IsOutcome (Ok paths) old new told = (told ≡ None) × (new ≡ paths ++ other_paths old)

-- a node was taken on the first of the old paths
abbrev pub IsTaken : Parts → List (List Fact) → List (List Fact) → Node → List (List Fact) → Option Reason → Type 0
IsTaken problem lists old node new told = IsOutcome (outcome problem lists (first_path old) node) old new told

abbrev pub go_on : Result (List (List Fact)) Reason → ℕ → (List (List Fact) → Judgement) → Judgement
go_on (Ok paths) number next = next paths
go_on (Err reason) number next = Refused number reason

-- the judgement of the nodes that come after so many, over the paths of the open branches
abbrev pub judge : Parts → List (List Fact) → List (List Fact) → List Node → ℕ → Judgement
judge problem lists [] [] before = Accepted
judge problem lists [] (node ∷ nodes) before = Refused (before + 1) P6
judge problem lists (path ∷ paths) [] before = Refused (before + 1) P5
judge problem lists (path ∷ paths) (node ∷ nodes) before = go_on (outcome problem lists path node) (before + 1) (λ new. judge problem lists (new ++ paths) nodes (before + 1))

-- the judgement of nodes that begin on a path, over lemmas with these hypotheses
abbrev pub judgement_on : Parts → List (List Fact) → List Fact → List Node → Judgement
judgement_on problem lists path nodes = judge problem lists (path ∷ []) nodes 0
