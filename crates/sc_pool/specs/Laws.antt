-- What it says that a lemma is the least that applies.
use Rattle.std.specs.Prelude.{◌≡◌, ◌↔◌, ◌<◌, ℕ, List, None, Some}
use Rattle.std.specs.List.{Contains}
use Rattle.sc_base.specs.Numbered.{item_at}
use Rattle.sc_facts.specs.declared.fact.Fact.{Fact}
use Rattle.sc_pool.specs.Pools.{least_applying}

-- the lemma with this number is in the pool, and each of its hypotheses stands on the path
abbrev pub Applies : List (List Fact) → List Fact → ℕ → Type 0
Applies pool path n = (hypotheses : List Fact) × (item_at pool n ≡ Some hypotheses) × ((fact : Fact) → Contains hypotheses fact → Contains path fact)

pub record LeastApplies : Type 0 where
  pub least : (pool : List (List Fact)) (path : List Fact) (n : ℕ) → (least_applying pool path ≡ Some n) ↔ (Applies pool path n × ((m : ℕ) → m < n → Applies pool path m → ⊥))
  pub none : (pool : List (List Fact)) (path : List Fact) → (least_applying pool path ≡ None) ↔ ((n : ℕ) → Applies pool path n → ⊥)
