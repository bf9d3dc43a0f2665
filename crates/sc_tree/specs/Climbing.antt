-- From a leaf's place to the root's, and back along its steps.
use Rattle.std.specs.Prelude.{◌≡◌, ℕ, zero, suc, ◌+◌, true, List, [], ◌∷◌, ◌++◌, length, map, reverse, Option, Some, None, is_some}
use Rattle.sc_base.specs.Numbered.{item_at}
use Rattle.sc_terms.specs.declared.problem.Parts.{Parts}
use Rattle.sc_facts.specs.declared.fact.Fact.{Fact}
use Rattle.sc_facts.specs.Paths.{PathFacts, with_facts}
use Rattle.sc_deriv.specs.declared.derivation.Step.{Step}
use Rattle.sc_deriv.specs.declared.derivation.Taken.{Taken}
use Rattle.sc_deriv.specs.Taking.{path_after}
use Rattle.sc_tree.specs.declared.machine.Mark.{Mark}
use Rattle.sc_tree.specs.declared.machine.Mark.TheVariants as marks
use Rattle.sc_tree.specs.declared.machine.Place.{Place}
use Rattle.sc_tree.specs.Chains.{taken, firsts}
use Rattle.sc_tree.specs.Machine.{Cell}
use Rattle.sc_tree.specs.Keeping.{place_of}
use Rattle.sc_tree.specs.Descent.{AllCome}

-- a branch of the step of a split, if any
abbrev pub mark_turn : Mark → ℕ → List Taken
mark_turn (marks.Parted step left) branch = taken step branch ∷ []
mark_turn _ branch = []

abbrev pub turn_of : Option Place → ℕ → List Taken
turn_of None branch = []
turn_of (Some p) branch = mark_turn p.mark branch

-- a place's own steps, and the one before them that led to it, are added in reverse
abbrev pub AddsLast : List Place → ℕ → List Taken → ℕ → List Taken → Type 0
AddsLast places n old parent new =
    (p : Place) → item_at places n ≡ Some p → (parent ≡ p.parent) × (new ≡ old ++ (reverse (firsts p.chain) ++ turn_of (item_at places p.parent) p.branch))

-- the steps of a cell, none where there is none
abbrev pub steps_or : Option Cell → List Taken
steps_or None = []
steps_or (Some c) = c.steps

-- how many steps a leaf took since the split of which it came, that of no parent or of this one
abbrev pub own_count : ℕ → List Step → ℕ
own_count zero chain = length chain
own_count (suc parent) chain = length chain + 1

-- how many steps lead to the leaf with this number, none where there is none
abbrev pub step_count : List Cell → ℕ → ℕ
step_count cells n = length (steps_or (item_at cells n))

-- the places are those of cells, each of which came by a split
pub record IsClimbed (places : List Place) (cells : List Cell) : Type 0 where
  pub places_are : places ≡ map place_of cells
  pub come : AllCome cells

-- the places are those of cells, each of which came by a split; one of them has the number
pub record GoesTo (places : List Place) (cells : List Cell) (n : ℕ) : Type 0 where
  pub places_are : places ≡ map place_of cells
  pub come : AllCome cells
  pub there : is_some (item_at cells n) ≡ true

-- the facts of the branch, where it is there, were added
abbrev pub FollowsBranch : PathFacts → Option (List Fact) → PathFacts → Type 0
FollowsBranch old branch new = (facts : List Fact) → branch ≡ Some facts → new ≡ with_facts old (old.facts ++ facts)

-- the steps lead from the root path to this one
abbrev pub IsPathAfter : Parts → List Taken → PathFacts → Type 0
IsPathAfter problem steps path = (path_after problem steps ≡ Some path.facts) × (path.roots ≡ problem.roots)
