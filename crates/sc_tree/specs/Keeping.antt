-- What a tree keeps: places, open leaves, who holds which, and where the model stands in the journal.
use Rattle.std.specs.Prelude.{◌≡◌, ℕ, ◌+◌, length, Bool, true, false, not, nat_eq, if◌then◌else◌, List, [], ◌∷◌, ◌++◌, filter, map, Option, Some, None, slice_get, ⊤}
use Rattle.std.specs.List.{list_any}
use Rattle.sc_base.specs.Numbered.{item_at}
use Rattle.sc_terms.specs.declared.problem.Parts.{Parts}
use Rattle.sc_terms.specs.Values.{ValueMap}
use Rattle.sc_deriv.specs.declared.derivation.Step.{Step}
use Rattle.sc_tree.specs.declared.machine.Mark.{Mark}
use Rattle.sc_tree.specs.declared.machine.Mark.TheVariants as marks
use Rattle.sc_tree.specs.declared.machine.Place.{Place}
use Rattle.sc_tree.specs.declared.machine.Event.{Event}
use Rattle.sc_tree.specs.declared.machine.Event.TheVariants as events
use Rattle.sc_tree.specs.declared.machine.Entry.{Entry}
use Rattle.sc_tree.specs.declared.seats.Holding.{Holding}
use Rattle.sc_tree.specs.Machine.{Cell, Kept, set_cell, with_cell, marked, next, state_of, state, HasMark, HasLeaf, IsStep, IsLegal}

-- what is kept of a cell
abbrev pub place_of : Cell → Place
place_of c = record { parent = c.parent; branch = c.branch; chain = c.chain; mark = c.mark }

-- what is kept of a leaf that was just made
abbrev pub new_place : ℕ → ℕ → Place
new_place parent branch = record { parent = parent; branch = branch; chain = []; mark = marks.Open }

abbrev pub is_in : ℕ → List ℕ → Bool
is_in n ns = list_any (nat_eq n) ns

abbrev pub HasNoRepeats : List ℕ → Type 0
HasNoRepeats [] = ⊤
HasNoRepeats (n ∷ ns) = (is_in n ns ≡ false) × HasNoRepeats ns

-- the open leaves, each once
pub record ListsOpen (cells : List Cell) (opened : List ℕ) : Type 0 where
  pub all : (n : ℕ) → HasMark cells n marks.Open → is_in n opened ≡ true
  pub each : (n : ℕ) → is_in n opened ≡ true → HasMark cells n marks.Open
  pub once : HasNoRepeats opened

abbrev pub leaf_of : List Holding → ℕ → Option ℕ
leaf_of [] seat = None
leaf_of (h ∷ hs) seat = if nat_eq h.seat seat then Some h.leaf else leaf_of hs seat

abbrev pub without : List Holding → ℕ → List Holding
without hs seat = filter (λ (h : Holding). not (nat_eq h.seat seat)) hs

abbrev pub holding : ℕ → ℕ → Holding
holding seat leaf = record { seat = seat; leaf = leaf }

-- who holds which leaf
pub record ListsHeld (cells : List Cell) (held : List Holding) : Type 0 where
  pub all : (seat n : ℕ) → HasLeaf cells seat n → leaf_of held seat ≡ Some n
  pub each : (seat n : ℕ) → leaf_of held seat ≡ Some n → HasLeaf cells seat n

-- the values that an event brings
abbrev pub found_in : Event → Option ValueMap
found_in (events.Found values) = Some values
found_in _ = None

-- the entry at this place of the journal brings the model
abbrev pub IsFound : List Entry → Option ℕ → Option ValueMap → Type 0
IsFound journal None model = model ≡ None
IsFound journal (Some i) model = (e : Entry) × (slice_get journal i ≡ Some e) × (found_in e.event ≡ model) × (m : ValueMap) × (model ≡ Some m)

-- the parts of a tree are those of the state after its journal
pub record IsKept (problem : Parts) (budget : ℕ) (places : List Place) (opened : List ℕ) (held : List Holding) (found : Option ℕ) (journal : List Entry) : Type 0 where
  pub legal : IsLegal problem budget journal
  pub places_are : places ≡ map place_of (state_of problem journal).cells
  pub found_is : IsFound journal found (state_of problem journal).model
  pub opens : ListsOpen (state_of problem journal).cells opened
  pub holds : ListsHeld (state_of problem journal).cells held

abbrev pub is_held : Mark → Bool
is_held (marks.Held seat) = true
is_held _ = false

abbrev pub is_open : Mark → Bool
is_open marks.Open = true
is_open _ = false

abbrev pub is_nil : {X : Type 0} → List X → Bool
is_nil [] = true
is_nil (x ∷ xs) = false

abbrev pub is_spent : Mark → Bool
is_spent (marks.Spent cause) = true
is_spent _ = false

-- the place with this number, and it alone, has another mark
abbrev pub IsMarked : List Place → ℕ → Mark → List Place → Type 0
IsMarked old n mark new = (p : Place) → item_at old n ≡ Some p → new ≡ set_cell old n (record { parent = p.parent; branch = p.branch; chain = p.chain; mark = mark })

-- the place with this number is split by a step into the two that come next
abbrev pub IsParted : List Place → ℕ → Step → List Place → Type 0
IsParted old n step new = (marked_one : List Place) × IsMarked old n (marks.Parted step (length old + 1)) marked_one × (new ≡ marked_one ++ new_place n 1 ∷ new_place n 2 ∷ [])

-- the place with this number, and it alone, has more steps
abbrev pub HasMore : List Place → ℕ → List Step → List Place → Type 0
HasMore old n chain new = (p : Place) → item_at old n ≡ Some p → new ≡ set_cell old n (record { parent = p.parent; branch = p.branch; chain = p.chain ++ chain; mark = p.mark })

-- an entry by which a seat gives up its leaf, which gets this mark
pub record GivesUp (t : Kept) (e : Entry) (mark : Mark) : Type 0 where
  pub step : IsStep t.problem t.budget (state t) e
  pub held : HasLeaf (state t).cells e.seat e.leaf
  pub to : (c : Cell) → item_at (state t).cells e.leaf ≡ Some c → next t.problem (state t) e ≡ with_cell (state t) e.leaf (marked c mark)

-- an entry by which a seat gives back its leaf, which is open again; the model is then this, at this place of the journal
pub record GivesBack (t : Kept) (e : Entry) (found : Option ℕ) : Type 0 where
  pub step : IsStep t.problem t.budget (state t) e
  pub held : HasLeaf (state t).cells e.seat e.leaf
  pub model : Option ValueMap
  pub to : (c : Cell) → item_at (state t).cells e.leaf ≡ Some c → next t.problem (state t) e ≡ record { cells = set_cell (state t).cells e.leaf (marked c marks.Open); model = model }
  pub found_is : IsFound (t.journal ++ e ∷ []) found model
