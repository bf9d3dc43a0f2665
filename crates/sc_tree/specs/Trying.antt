-- What is right at each leaf of a legal history.
use Rattle.std.specs.Prelude.{◌≡◌, ℕ, ◌+◌, ◌<◌, List, [], ◌∷◌, ◌++◌, Some, ⊤}
use Rattle.sc_base.specs.Numbered.{item_at}
use Rattle.sc_terms.specs.declared.problem.Parts.{Parts}
use Rattle.sc_facts.specs.declared.fact.Fact.{Fact}
use Rattle.sc_deriv.specs.declared.derivation.Taken.{Taken}
use Rattle.sc_deriv.specs.Acceptance.{step_branches}
use Rattle.sc_deriv.specs.Taking.{path_after}
use Rattle.sc_tree.specs.declared.machine.Mark.{Mark}
use Rattle.sc_tree.specs.declared.machine.Mark.TheVariants as marks
use Rattle.sc_tree.specs.Chains.{grow}
use Rattle.sc_tree.specs.Lean.{IsWithin}
use Rattle.sc_tree.specs.Events.{HasNoClash, Closes, IsCause}
use Rattle.sc_tree.specs.Machine.{Cell}
use Rattle.sc_tree.specs.Descent.{Comes}

-- leaf m came by this branch of leaf n's split, with this path
abbrev pub IsBorn : List Cell → ℕ → ℕ → ℕ → List Fact → Type 0
IsBorn cells m n branch path = (c : Cell) × (item_at cells m ≡ Some c) × (c.base ≡ path) × (c.parent ≡ n) × (c.branch ≡ branch)

-- What became of leaf n, with this path and these steps, is right: its closing holds; it has a cause to be given up, and no clash; the step that split it applies with two branches, and these are there.
abbrev pub IsRight : Parts → ℕ → List Cell → ℕ → List Fact → List Taken → Mark → Type 0
IsRight problem budget cells n path steps marks.Open = ⊤
IsRight problem budget cells n path steps (marks.Held seat) = ⊤
IsRight problem budget cells n path steps (marks.Closed closing) = Closes path closing
IsRight problem budget cells n path steps (marks.Spent cause) = IsCause problem budget path steps cause × HasNoClash path
IsRight problem budget cells n path steps (marks.Parted step left) =
    (pair : List Fact × List Fact) × (step_branches problem path step ≡ Some (pair.0 ∷ pair.1 ∷ [])) × (n < left) × IsBorn cells left n 1 (path ++ pair.0) × IsBorn cells (left + 1) n 2 (path ++ pair.1)

-- leaf n's steps lead to its path from the root path, and from where it was made; they are lean and within the budget, and what became of it is right
pub record IsTried (problem : Parts) (budget : ℕ) (cells : List Cell) (n : ℕ) (c : Cell) : Type 0 where
  pub leads : path_after problem c.steps ≡ Some c.path
  pub grows : grow problem c.base c.chain ≡ Some c.path
  pub comes : Comes cells n c
  pub within : IsWithin problem budget c.steps
  pub right : IsRight problem budget cells n c.path c.steps c.mark

-- each leaf is as it should be
abbrev pub AreTried : Parts → ℕ → List Cell → Type 0
AreTried problem budget cells = (n : ℕ) (c : Cell) → item_at cells n ≡ Some c → IsTried problem budget cells n c
