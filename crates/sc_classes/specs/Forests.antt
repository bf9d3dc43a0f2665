-- A forest of classes, as lists by number: each number's parent, rank and the least number of its class. A root is its own parent, and only at a root need the least be right.
use Rattle.std.specs.Prelude.{◌≡◌, ◌≢◌, ℕ, ◌<◌, ◌≤◌, ◌+◌, ◌++◌, if◌then◌else◌, nat_lt, List, [], length, slice_index, slice_index_or}
use Rattle.std.specs.List.{AllByRecursion}
use Rattle.sc_classes.specs.Classes.{least_of, other_of, neighbours_of}

-- for the classes whose least numbers these are
pub record IsForest (least : ℕ → ℕ) (parents ranks leasts : List ℕ) : Type 0 where
  pub inside : (n : ℕ) → n < length parents → slice_index parents n < length parents
  -- a number and its parent are in one class
  pub same : (n : ℕ) → n < length parents → least (slice_index parents n) ≡ least n
  -- ranks rise on the way to a root
  pub rising : (n : ℕ) → n < length parents → slice_index parents n ≢ n → slice_index ranks n < slice_index ranks (slice_index parents n)
  pub tops : (n : ℕ) → n < length parents → slice_index parents n ≡ n → slice_index leasts n ≡ least n
  -- a class has one root
  pub one : (m n : ℕ) → m < length parents → n < length parents → slice_index parents m ≡ m → slice_index parents n ≡ n → least m ≡ least n → m ≡ n

-- the forest of the classes of the pairs, of the numbers up to the last
pub record StandsFor (last : ℕ) (pairs : List (ℕ × ℕ)) (parents ranks leasts : List ℕ) : Type 0 where
  pub forest : IsForest (least_of pairs) parents ranks leasts
  pub parents_count : length parents ≡ last + 1
  pub ranks_count : length ranks ≡ last + 1
  pub leasts_count : length leasts ≡ last + 1
  pub low : (n : ℕ) → n < length parents → slice_index ranks n ≤ length pairs

-- the rank of a root once one of the first rank hangs below it
abbrev pub raised : ℕ → ℕ → ℕ
raised lower upper = if nat_lt lower upper then upper else lower + 1

-- the numbers of a pair are at most the last
abbrev pub PairIn : ℕ → ℕ × ℕ → Type 0
PairIn last p = (p.0 ≤ last) × (p.1 ≤ last)

-- what the n-th of the lists holds, from 0
abbrev pub held_at : List (List ℕ) → ℕ → List ℕ
held_at lists n = slice_index_or lists n []

-- each of the pair stands in the other's list behind what was there
pub record IsConnected (old : List (List ℕ)) (pair : ℕ × ℕ) (new : List (List ℕ)) : Type 0 where
  pub count : length new ≡ length old
  pub near : (n : ℕ) → held_at new n ≡ held_at old n ++ other_of n pair

-- each number's list has its neighbours
pub record HasNeighbours (last : ℕ) (pairs : List (ℕ × ℕ)) (lists : List (List ℕ)) : Type 0 where
  pub count : length lists ≡ last + 1
  pub near : (n : ℕ) → held_at lists n ≡ neighbours_of pairs n
  pub inside : AllByRecursion (PairIn last) pairs
