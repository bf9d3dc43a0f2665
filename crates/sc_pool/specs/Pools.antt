-- A pool as the list of its lemmas' hypotheses, and the least lemma that applies to a path.
use Rattle.std.specs.Prelude.{ℕ, suc, Bool, if◌then◌else◌, List, [], ◌∷◌, Option, None, Some}
use Rattle.std.specs.List.{list_all}
use Rattle.std.specs.Option.{option_map}
use Rattle.sc_facts.specs.declared.fact.Fact.{Fact}
use Rattle.sc_facts.specs.Facts.{has}

-- the first place, from 0, of an item that passes
abbrev pub first_where : {X : Type 0} → (X → Bool) → List X → Option ℕ
first_where test [] = None
first_where test (x ∷ xs) = if test x then Some 0 else option_map suc (first_where test xs)

-- whether all hypotheses stand on the path
abbrev pub all_stand : List Fact → List Fact → Bool
all_stand path hypotheses = list_all (has path) hypotheses

-- the least number, from 1, of a lemma whose hypotheses all stand on the path
abbrev pub least_applying : List (List Fact) → List Fact → Option ℕ
least_applying pool path = option_map suc (first_where (all_stand path) pool)
