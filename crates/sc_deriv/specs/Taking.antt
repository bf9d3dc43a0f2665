-- The path to which steps lead.
use Rattle.std.specs.Prelude.{◌≡◌, List, [], ◌∷◌, ◌++◌, Option, Some}
use Rattle.sc_base.specs.Numbered.{item_at}
use Rattle.sc_base.specs.Options.{◌>>=◌}
use Rattle.sc_terms.specs.declared.problem.Parts.{Parts}
use Rattle.sc_facts.specs.declared.fact.Fact.{Fact}
use Rattle.sc_facts.specs.Facts.{root_facts}
use Rattle.sc_deriv.specs.declared.derivation.Taken.{Taken}
use Rattle.sc_deriv.specs.Acceptance.{step_branches}

-- the facts that a step concludes in the branch taken, where it applies on the path and has that branch
abbrev pub concluded : Parts → List Fact → Taken → Option (List Fact)
concluded problem path taken = step_branches problem path taken.step >>= λ bs. item_at bs taken.branch

-- the path to which the steps lead from a path, where each applies and has the branch taken
abbrev pub path_from : Parts → List Fact → List Taken → Option (List Fact)
path_from problem path [] = Some path
path_from problem path (taken ∷ steps) = concluded problem path taken >>= λ facts. path_from problem (path ++ facts) steps

-- the path to which the steps lead from the root path
abbrev pub path_after : Parts → List Taken → Option (List Fact)
path_after problem steps = path_from problem (root_facts problem.roots) steps

-- after some steps the others lead on
abbrev pub StepsLeadOn : Type 0
StepsLeadOn =
    (problem : Parts) (path : List Fact) (first rest : List Taken) →
    path_from problem path (first ++ rest) ≡ (path_from problem path first >>= λ new. path_from problem new rest)

-- steps add to the path on which they begin
abbrev pub StepsAdd : Type 0
StepsAdd =
    (problem : Parts) (path new : List Fact) (steps : List Taken) → path_from problem path steps ≡ Some new →
    (facts : List Fact) × (new ≡ path ++ facts)
