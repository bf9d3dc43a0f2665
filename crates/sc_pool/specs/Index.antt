-- The tables of a pool: each lemma stands under its last hypothesis, behind the earlier ones with the same.
use Rattle.std.specs.Prelude.{◌≡◌, ℕ, suc, ◌-◌, Bool, true, false, ◌&&◌, ◌||◌, if◌then◌else◌, nat_lt, ⊤, List, [], ◌∷◌, length, take, Option, None, Some, slice_get}
use Rattle.std.specs.List.{list_any}
use Rattle.std.specs.Option.{option_map, option_or}
use Rattle.std.specs.Map.{lookup}
use Rattle.indexmap.specs.IndexMap.{insert_entry}
use Rattle.sc_facts.specs.declared.fact.Fact.{Fact}
use Rattle.sc_facts.specs.Same.{same_fact}
use Rattle.sc_pool.specs.Pools.{first_where, all_stand}

-- the last place, from 0, of an item that passes
abbrev pub last_where : {X : Type 0} → (X → Bool) → List X → Option ℕ
last_where test [] = None
last_where test (x ∷ xs) = option_or (option_map suc (last_where test xs)) (if test x then Some 0 else None)

abbrev pub is_free : List Fact → Bool
is_free [] = true
is_free (fact ∷ facts) = false

abbrev pub last_fact : List Fact → Option Fact
last_fact facts = slice_get facts (length facts - 1)

abbrev pub is_fact : Fact → Option Fact → Bool
is_fact fact None = false
is_fact fact (Some other) = same_fact fact other

-- whether the fact is the last of the hypotheses
abbrev pub ends_with : Fact → List Fact → Bool
ends_with fact hypotheses = is_fact fact (last_fact hypotheses)

-- the entries with the place n under the last hypothesis, if there is one
abbrev pub with_last : List (Fact × ℕ) → Option Fact → ℕ → List (Fact × ℕ)
with_last entries None n = entries
with_last entries (Some fact) n = insert_entry same_fact entries fact n

-- the place under the last hypothesis, if there is one
abbrev pub under_last : List (Fact × ℕ) → Option Fact → Option ℕ
under_last entries None = None
under_last entries (Some fact) = lookup (same_fact fact) entries

-- the tables of a list of lemmas
pub record IsIndexed (lemmas : List (List Fact)) (latest : List (Fact × ℕ)) (earlier : List (Option ℕ)) (free : Option ℕ) : Type 0 where
  pub latest_are : (fact : Fact) → lookup (same_fact fact) latest ≡ last_where (ends_with fact) lemmas
  pub counts : length earlier ≡ length lemmas
  pub earlier_are : (i : ℕ) (hypotheses : List Fact) (fact : Fact) → slice_get lemmas i ≡ Some hypotheses → ends_with fact hypotheses ≡ true → slice_get earlier i ≡ Some (last_where (ends_with fact) (take i lemmas))
  pub free_is : free ≡ first_where is_free lemmas

-- the lesser of two places
abbrev pub lesser : Option ℕ → Option ℕ → Option ℕ
lesser None other = other
lesser (Some m) None = Some m
lesser (Some m) (Some n) = if nat_lt n m then Some n else Some m

-- whether all hypotheses stand on the path, and the fact is the last of them
abbrev pub stands_under : List Fact → Fact → List Fact → Bool
stands_under path fact hypotheses = ends_with fact hypotheses && all_stand path hypotheses

-- whether all hypotheses stand on the path, and the last of them, if there is one, is among the facts
abbrev pub stands_among : List Fact → List Fact → List Fact → Bool
stands_among path facts hypotheses = (is_free hypotheses || list_any (λ fact. ends_with fact hypotheses) facts) && all_stand path hypotheses

-- so many items lie before the place and at it
abbrev pub up_to : Option ℕ → ℕ
up_to None = 0
up_to (Some n) = suc n

-- an item that passes stands at the place, if there is one
abbrev pub PassesAt : {X : Type 0} → (X → Bool) → List X → Option ℕ → Type 0
PassesAt test xs None = ⊤
PassesAt {X} test xs (Some n) = (x : X) × (slice_get xs n ≡ Some x) × (test x ≡ true)
