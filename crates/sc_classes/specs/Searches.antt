-- A search along merged pairs, breadth first, and the chain that it finds.
use Rattle.std.specs.Prelude.{◌≡◌, ℕ, ◌+◌, ◌<◌, ◌≤◌, Bool, true, false, if◌then◌else◌, nat_eq, List, [], ◌∷◌, ◌++◌, length, fold, slice_index_or, slice_set}
use Rattle.std.specs.List.{list_any, AllByRecursion}
use Rattle.sc_terms.specs.Lookup.{is_listed}
use Rattle.sc_classes.specs.declared.chains.Visit.{Visit}
use Rattle.sc_classes.specs.Classes.{neighbours_of}

-- the visit at a place
abbrev pub visit_at : List Visit → ℕ → Visit
visit_at visits i = slice_index_or visits i (record { number = 0; from = 0 })

-- the numbers that were met, in order, and for each number whether it was
pub record Searching : Type 0 where
  pub visits : List Visit
  pub marks : List Bool

abbrev pub searching : List Visit → List Bool → Searching
searching visits marks = record { visits = visits; marks = marks }

-- once a number was met from a place
abbrev pub meet : ℕ → Searching → ℕ → Searching
meet place s n = if slice_index_or s.marks n false then s else searching (s.visits ++ record { number = n; from = place } ∷ []) (slice_set s.marks n true)

abbrev pub meet_all : ℕ → Searching → List ℕ → Searching
meet_all place s ns = fold (meet place) s ns

abbrev pub is_met : List Visit → ℕ → Bool
is_met visits n = list_any (λ (v : Visit). nat_eq n v.number) visits

-- how many marks are not set
abbrev pub unset : List Bool → ℕ
unset [] = 0
unset (true ∷ marks) = unset marks
unset (false ∷ marks) = unset marks + 1

-- marks for the numbers up to the last, of which one alone is set
pub record IsMarkedAt (last start : ℕ) (marks : List Bool) : Type 0 where
  pub count : length marks ≡ last + 1
  pub room : unset marks ≡ last
  pub marked : (n : ℕ) → slice_index_or marks n false ≡ nat_eq n start

-- each visit came from an earlier one, or is the first
abbrev pub FallBack : List Visit → Type 0
FallBack visits = (i : ℕ) → 0 < i → i < length visits → (visit_at visits i).from < i

-- each visit but the first came from an earlier one, which has it as a neighbour
pub record AreLinked (pairs : List (ℕ × ℕ)) (visits : List Visit) : Type 0 where
  pub earlier : FallBack visits
  pub near : (i : ℕ) → 0 < i → i < length visits → is_listed (visit_at visits i).number (neighbours_of pairs (visit_at visits (visit_at visits i).from).number) ≡ true

pub record IsSearch (pairs : List (ℕ × ℕ)) (last start : ℕ) (s : Searching) : Type 0 where
  pub count : length s.marks ≡ last + 1
  pub room : length s.visits + unset s.marks ≡ last + 1
  pub marked : (n : ℕ) → n ≤ last → slice_index_or s.marks n false ≡ is_met s.visits n
  pub nonempty : 0 < length s.visits
  pub first : visit_at s.visits 0 ≡ record { number = start; from = 0 }
  pub linked : AreLinked pairs s.visits
  pub inside : AllByRecursion (λ (v : Visit). v.number ≤ last) s.visits

-- a chain of pairs from the visit at the place, that of the goal, back to the first, that of the start
pub record IsChain (pairs : List (ℕ × ℕ)) (start goal : ℕ) (visits : List Visit) (place : ℕ) : Type 0 where
  pub within : place < length visits
  pub found : (visit_at visits place).number ≡ goal
  pub first : visit_at visits 0 ≡ record { number = start; from = 0 }
  pub linked : AreLinked pairs visits
