-- Lists of numbers by keys, as they grow.
use Rattle.std.specs.Prelude.{ℕ, nat_eq, if◌then◌else◌, List, [], ◌∷◌, ◌++◌}

-- the lists after a number is added to that of a key, which goes last with a list of its own if it is new
abbrev pub grouped : List ℕ → List (List ℕ) → ℕ → ℕ → List (List ℕ)
grouped [] gs key n = (n ∷ []) ∷ []
grouped (k ∷ ks) [] key n = (n ∷ []) ∷ []
grouped (k ∷ ks) (g ∷ gs) key n = if nat_eq key k then (g ++ n ∷ []) ∷ gs else g ∷ grouped ks gs key n
