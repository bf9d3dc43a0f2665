-- Forests of numbers, each as the list of the parents of 0, 1, 2 and so on: a least number of a class is its own parent.
use Rattle.std.specs.Prelude.{◌≡◌, ℕ, ◌<◌, ◌≤◌, List, length, slice_index}
use Rattle.sc_flatten.specs.Classes.{joined}

-- no number's parent is greater
abbrev pub IsLow : List ℕ → Type 0
IsLow parents = (n : ℕ) → n < length parents → slice_index parents n ≤ n

-- a number and its parent are in one class, and only the least of a class is its own parent
pub record IsForest (least : ℕ → ℕ) (parents : List ℕ) : Type 0 where
  pub same : (n : ℕ) → n < length parents → least (slice_index parents n) ≡ least n
  pub tops : (n : ℕ) → n < length parents → slice_index parents n ≡ n → least n ≡ n

-- a forest of classes stays one, and the result is the least of the number's class
abbrev pub Finds : List ℕ → List ℕ → ℕ → ℕ → Type 0
Finds old new number result = (least : ℕ → ℕ) → IsForest least old → IsForest least new × (result ≡ least number)

-- the two numbers' classes become one
abbrev pub Joins : List ℕ → List ℕ → ℕ → ℕ → Type 0
Joins old new first second = (least : ℕ → ℕ) → ((n : ℕ) → least (least n) ≡ least n) → IsForest least old → IsForest (joined least (first, second)) new

-- the two of a link are at most the last number
abbrev pub LinkIn : ℕ → ℕ × ℕ → Type 0
LinkIn last p = (p.0 ≤ last) × (p.1 ≤ last)
