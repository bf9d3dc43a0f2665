-- The tree of a tree's places in preorder.
use Rattle.std.specs.Prelude.{◌≡◌, ℕ, zero, suc, ◌+◌, ◌<◌, ◌≤◌, ◌^◌, Bool, true, false, List, [], ◌∷◌, ◌++◌, length, map, Option, Some, None, ⊤}
use Rattle.sc_base.specs.Numbered.{item_at}
use Rattle.sc_deriv.specs.declared.derivation.Step.{Step}
use Rattle.sc_deriv.specs.declared.derivation.Node.{Node}
use Rattle.sc_deriv.specs.declared.derivation.Node.TheVariants as nodes
use Rattle.sc_tree.specs.declared.machine.Mark.{Mark}
use Rattle.sc_tree.specs.declared.machine.Mark.TheVariants as marks
use Rattle.sc_tree.specs.declared.machine.Place.{Place}
use Rattle.sc_tree.specs.Machine.{Cell, Kept, state}
use Rattle.sc_tree.specs.Keeping.{place_of}

abbrev pub step_nodes : List Step → List Node
step_nodes chain = map (λ s. nodes.Step s) chain

-- what ends a place's chain, where the nodes below a number are given
abbrev pub end_nodes : (ℕ → List Node) → Mark → List Node
end_nodes below (marks.Closed closing) = nodes.Closing closing ∷ []
end_nodes below (marks.Parted step left) = nodes.Step step ∷ (below left ++ below (left + 1))
end_nodes below _ = []

abbrev pub place_nodes : (ℕ → List Node) → Option Place → List Node
place_nodes below None = []
place_nodes below (Some p) = step_nodes p.chain ++ end_nodes below p.mark

-- the nodes below the place with a number, where there are no more than so many levels
abbrev pub nodes_at : ℕ → List Place → ℕ → List Node
nodes_at zero places n = []
nodes_at (suc depth) places n = place_nodes (nodes_at depth places) (item_at places n)

-- what a split makes has greater numbers, so there are no more levels than places
abbrev pub nodes_from : List Place → ℕ → List Node
nodes_from places n = nodes_at (length places) places n

-- the steps and closings of a tree in preorder, from the root's leaf on
abbrev pub tree_nodes : Kept → List Node
tree_nodes t = nodes_from (map place_of (state t).cells) 1

-- the mark is a closing or a step
abbrev pub is_ended : Mark → Bool
is_ended (marks.Closed closing) = true
is_ended (marks.Parted step left) = true
is_ended _ = false

-- every leaf is closed
abbrev pub AreClosed : List Cell → Type 0
AreClosed cells = (n : ℕ) (c : Cell) → item_at cells n ≡ Some c → is_ended c.mark ≡ true

-- what a split made has greater numbers, and is there
abbrev pub IsAhead : List Place → ℕ → Mark → Type 0
IsAhead places n (marks.Parted step left) = (n < left) × (left + 1 ≤ length places)
IsAhead places n _ = ⊤

-- every place is closed or split
pub record IsReadable (places : List Place) : Type 0 where
  pub ended : (n : ℕ) (p : Place) → item_at places n ≡ Some p → is_ended p.mark ≡ true
  pub ahead : (n : ℕ) (p : Place) → item_at places n ≡ Some p → IsAhead places n p.mark

-- the node that ends a place's chain, and the numbers of what a split made
abbrev pub own_end : Mark → List Node
own_end (marks.Closed closing) = nodes.Closing closing ∷ []
own_end (marks.Parted step left) = nodes.Step step ∷ []
own_end _ = []

abbrev pub parts_of : Mark → List ℕ
parts_of (marks.Parted step left) = left ∷ (left + 1) ∷ []
parts_of _ = []

-- the nodes below each of the numbers, one after another
abbrev pub nodes_below : List Place → List ℕ → List Node
nodes_below places [] = []
nodes_below places (n ∷ ns) = nodes_from places n ++ nodes_below places ns

-- a place's own nodes were read, and what its split made waits first
pub record AddsPlace (p : Place) (nodes new_nodes : List Node) (waiting new_waiting : List ℕ) : Type 0 where
  pub read : new_nodes ≡ nodes ++ (step_nodes p.chain ++ own_end p.mark)
  pub waits : new_waiting ≡ parts_of p.mark ++ waiting

-- the number after a split's first part is one of 64 bits
abbrev pub FitsBelow : Mark → Type 0
FitsBelow (marks.Parted step left) = left + 1 < 2 ^ 64
FitsBelow _ = ⊤
