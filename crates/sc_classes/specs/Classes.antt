-- The classes that merged pairs of elements make.
use Rattle.std.specs.Prelude.{ℕ, ◌≤◌, if◌then◌else◌, nat_eq, nat_lt, List, [], ◌∷◌, ◌++◌, fold}
use Rattle.std.specs.List.{Contains, flat_map}

-- how many elements there are, which pairs of them were merged, in order, and a number beside each pair
pub record Merges : Type 0 where
  pub count : ℕ
  pub pairs : List (ℕ × ℕ)
  pub facts : List ℕ

-- with one more pair
abbrev pub with_pair : Merges → ℕ × ℕ → ℕ → Merges
with_pair merges pair fact = record { count = merges.count; pairs = merges.pairs ++ pair ∷ []; facts = merges.facts ++ fact ∷ [] }

-- two numbers are equal in the least equivalence that holds the pairs
pub data Joined (pairs : List (ℕ × ℕ)) : ℕ → ℕ → Type 0 where
  paired : (m n : ℕ) → Contains pairs (m, n) → Joined pairs m n
  itself : (n : ℕ) → Joined pairs n n
  turned : (m n : ℕ) → Joined pairs m n → Joined pairs n m
  chained : (l m n : ℕ) → Joined pairs l m → Joined pairs m n → Joined pairs l n

-- the least number of the class of n
pub record IsLeastJoined (pairs : List (ℕ × ℕ)) (n least : ℕ) : Type 0 where
  pub joined : Joined pairs n least
  pub lowest : (m : ℕ) → Joined pairs n m → least ≤ m

-- ---- the same, as a function
abbrev pub lesser : ℕ → ℕ → ℕ
lesser m n = if nat_lt m n then m else n

abbrev pub greater : ℕ → ℕ → ℕ
greater m n = if nat_lt m n then n else m

-- the least of each class, once the classes of two numbers are one
abbrev pub united : (ℕ → ℕ) → ℕ × ℕ → ℕ → ℕ
united least p n = if nat_eq (least n) (greater (least p.0) (least p.1)) then lesser (least p.0) (least p.1) else least n

-- the least number of the class of each number
abbrev pub least_of : List (ℕ × ℕ) → ℕ → ℕ
least_of pairs = fold united (λ n. n) pairs

-- ---- the other one of each pair with n
abbrev pub other_of : ℕ → ℕ × ℕ → List ℕ
other_of n p = (if nat_eq p.0 n then p.1 ∷ [] else []) ++ (if nat_eq p.1 n then p.0 ∷ [] else [])

abbrev pub neighbours_of : List (ℕ × ℕ) → ℕ → List ℕ
neighbours_of pairs n = flat_map (other_of n) pairs
