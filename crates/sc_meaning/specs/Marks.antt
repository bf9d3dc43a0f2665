-- Marks of the nodes that stand under others: one sweep from the last number down.
use Rattle.std.specs.Prelude.{ℕ, zero, suc, ◌+◌, Bool, true, false, if◌then◌else◌, List, [], ◌∷◌, Option, Some, None, slice_set, slice_index_or}
use Rattle.sc_base.specs.Numbered.{item_at}
use Rattle.sc_terms.specs.declared.nodes.Node.{Node}
use Rattle.sc_terms.specs.Under.{node_parts}

abbrev pub marked : List Bool → ℕ → Bool
marked marks n = slice_index_or marks n false

-- marks set at the numbers
abbrev pub with_marks : List ℕ → List Bool → List Bool
with_marks [] marks = marks
with_marks (n ∷ ns) marks = with_marks ns (slice_set marks n true)

abbrev pub with_parts : Option Node → List Bool → List Bool
with_parts None marks = marks
with_parts (Some x) marks = with_marks (node_parts x) marks

-- the parts of the node with a number are marked, where it is
abbrev pub swept_once : List Node → ℕ → List Bool → List Bool
swept_once bank n marks = if marked marks n then with_parts (item_at bank n) marks else marks

-- and so for each node from a number down
abbrev pub swept : List Node → ℕ → List Bool → List Bool
swept bank zero marks = marks
swept bank (suc n) marks = swept bank n (swept_once bank (suc n) marks)

-- no marks
abbrev pub unmarked : ℕ → List Bool
unmarked zero = []
unmarked (suc n) = false ∷ unmarked n

-- the marks of the nodes up to a number that stand under those of a list; the place 0 is no node's
abbrev pub reached : List Node → List ℕ → ℕ → List Bool
reached bank tops last = swept bank last (with_marks tops (unmarked (last + 1)))
