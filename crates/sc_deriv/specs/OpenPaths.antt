-- The open branches of a tree that is read in preorder, as one path and what is kept of the others.
use Rattle.std.specs.Prelude.{ℕ, ◌≤◌, Bool, List, [], ◌∷◌, ◌++◌, take, if◌then◌else◌, ⊤}
use Rattle.sc_facts.specs.declared.fact.Fact.{Fact}
use Rattle.sc_deriv.specs.declared.walk.Turn.{Turn}

-- the paths of the branches that wait below a path, each of which goes back to a front of it
abbrev pub waiting : List Fact → List Turn → List (List Fact)
waiting path [] = []
waiting path (turn ∷ turns) = (take turn.count path ++ turn.facts) ∷ waiting (take turn.count path) turns

-- each goes back to a front of the one above it, which has all of the root path
abbrev pub IsNested : ℕ → ℕ → List Turn → Type 0
IsNested root_count count [] = ⊤
IsNested root_count count (turn ∷ turns) = (root_count ≤ turn.count) × (turn.count ≤ count) × IsNested root_count turn.count turns

abbrev pub open_paths : Bool → List Fact → List Turn → List (List Fact)
open_paths going path turns = if going then path ∷ waiting path turns else []

-- the first path, or none
abbrev pub first_path : List (List Fact) → List Fact
first_path [] = []
first_path (path ∷ paths) = path

abbrev pub other_paths : List (List Fact) → List (List Fact)
other_paths [] = []
other_paths (path ∷ paths) = paths
