-- What facts say, and when they stand on a path.
use Rattle.std.specs.Prelude.{◌≡◌, ℕ, Bool, true, false, ◌⊎◌, ℤ, List, [], ◌∷◌, map, Option, None, Some}
use Rattle.std.specs.List.{list_any, position, filter_map, AllByRecursion}
use Rattle.std.specs.Ordering.{int_eq}
use Rattle.sc_base.specs.Integers.{has_element}
use Rattle.sc_terms.specs.declared.form.Row.{Row as LinearRow}
use Rattle.sc_terms.specs.declared.problem.Parts.{Parts}
use Rattle.sc_terms.specs.Meaning.{Valuation, same_elements, cube_members, RowHolds}
use Rattle.sc_facts.specs.declared.fact.Fact.{Fact}
use Rattle.sc_facts.specs.declared.fact.Fact.TheVariants.{Sign, Member, Eq, EqSet, Row, Empty}
use Rattle.sc_facts.specs.declared.name.FactName.{FactName}
use Rattle.sc_facts.specs.declared.name.FactName.TheVariants as names
use Rattle.sc_facts.specs.Same.{same_fact}

-- the fact with a name and a sign
abbrev pub named : FactName → Bool → Fact
named (names.Sign f) s = Sign f s
named (names.Member e t) s = Member e t s
named (names.Eq e f) s = Eq e f s
named (names.EqSet t u) s = EqSet t u s
named (names.Empty cube) s = Empty cube s

-- whether a fact stands on the path
abbrev pub has : List Fact → Fact → Bool
has path fact = list_any (same_fact fact) path

-- the first place, from 0, where a fact stands
abbrev pub first_place : List Fact → Fact → Option ℕ
first_place path fact = position (same_fact fact) path

-- the row that a row fact states
abbrev pub row_in : Fact → Option LinearRow
row_in (Row row) = Some row
row_in _ = None

-- the path's rows, in path order
abbrev pub rows_of : List Fact → List LinearRow
rows_of path = filter_map row_in path

-- each root is true
abbrev pub root_facts : List ℕ → List Fact
root_facts roots = map (λ r. Sign r true) roots

abbrev pub is_empty : List ℤ → Bool
is_empty [] = true
is_empty (x ∷ xs) = false

-- the fact is true under the valuation
abbrev pub FactHolds : Parts → Valuation → Fact → Type 0
FactHolds problem v (Sign f s) = v.truth f ≡ s
FactHolds problem v (Member e s b) = has_element (v.members s) (v.element e) ≡ b
FactHolds problem v (Eq e f b) = int_eq (v.element e) (v.element f) ≡ b
FactHolds problem v (EqSet s t b) = same_elements (v.members s) (v.members t) ≡ b
FactHolds problem v (Row row) = RowHolds problem v row
FactHolds problem v (Empty cube b) = is_empty (cube_members problem v cube) ≡ b

-- all facts of the list are true
abbrev pub Hold : Parts → Valuation → List Fact → Type 0
Hold problem v facts = AllByRecursion (FactHolds problem v) facts

-- all facts of one of the branches are true
abbrev pub OneHolds : Parts → Valuation → List (List Fact) → Type 0
OneHolds problem v [] = ⊥
OneHolds problem v (branch ∷ others) = Hold problem v branch ⊎ OneHolds problem v others
