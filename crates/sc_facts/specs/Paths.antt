-- What contracts see of a path, and the look-up tables that it keeps.
use Rattle.std.specs.Prelude.{◌≡◌, ℕ, suc, Bool, true, false, if◌then◌else◌, List, [], ◌∷◌, ◌++◌, length, take, Option, None, Some, is_some, slice_get}
use Rattle.std.specs.Map.{lookup}
use Rattle.sc_terms.specs.declared.problem.Parts.{Parts}
use Rattle.sc_terms.specs.declared.atoms.Cube.{Cube}
use Rattle.sc_terms.specs.Same.{same_truth, same_cube}
use Rattle.sc_facts.specs.declared.fact.Fact.{Fact}
use Rattle.sc_facts.specs.declared.fact.Fact.TheVariants.{Row, Empty}
use Rattle.sc_facts.specs.declared.places.Before.{Before}
use Rattle.sc_facts.specs.Same.{same_fact}
use Rattle.sc_facts.specs.Facts.{root_facts, row_in}
use Rattle.sc_base.specs.Options.{◌>>=◌}
use Rattle.sc_terms.specs.declared.form.Row.{Row as LinearRow}

-- the roots on which a path stands, and its facts in order
pub record PathFacts : Type 0 where
  pub roots : List ℕ
  pub facts : List Fact

-- how many facts, from the first on, are the root path's
abbrev pub root_count : PathFacts → ℕ
root_count path = length path.roots

-- the first facts of the path are those of its roots
abbrev pub BeginsWithRoots : PathFacts → Type 0
BeginsWithRoots path = take (length path.roots) path.facts ≡ root_facts path.roots

-- the path with other facts, on the same roots
abbrev pub with_facts : PathFacts → List Fact → PathFacts
with_facts path fs = record { roots = path.roots; facts = fs }

-- the root path of these roots, and that of a problem
abbrev pub root_path : List ℕ → PathFacts
root_path rs = record { roots = rs; facts = root_facts rs }

abbrev pub from_root : Parts → PathFacts
from_root problem = root_path problem.roots

-- the entries with the key's, where there is a key that has none yet
abbrev pub with_first : {K : Type 0} (same : K → K → Bool) → List (K × ℕ) → Option K → ℕ → List (K × ℕ)
with_first same entries None n = entries
with_first same entries (Some k) n = if is_some (lookup (same k) entries) then entries else entries ++ (k, n) ∷ []

-- the entries with those of facts, the first of which stands at place n: each different key once, with its first place
abbrev pub firsts_from : {K : Type 0} (same : K → K → Bool) (key : Fact → Option K) → List (K × ℕ) → ℕ → List Fact → List (K × ℕ)
firsts_from same key entries n [] = entries
firsts_from same key entries n (f ∷ fs) = firsts_from same key (with_first same entries (key f) n) (suc n) fs

-- the fact, where it does not say whether a region is empty
abbrev pub plain_key : Fact → Option Fact
plain_key (Empty cube b) = None
plain_key f = Some f

-- the region of which a fact says this: that it is empty, or that it has an element
abbrev pub region_key : Bool → Fact → Option Cube
region_key s (Empty cube b) = if same_truth s b then Some cube else None
region_key s _ = None

-- first places, from 0: of facts that do not say whether a region is empty, of regions that are empty, and of those that have an element
pub record Places : Type 0 where
  pub plain : List (Fact × ℕ)
  pub empty : List (Cube × ℕ)
  pub filled : List (Cube × ℕ)

-- the first place of each different fact
abbrev pub places_of : List Fact → Places
places_of facts =
    record {
      plain = firsts_from same_fact plain_key [] 0 facts;
      empty = firsts_from same_cube (region_key true) [] 0 facts;
      filled = firsts_from same_cube (region_key false) [] 0 facts;
    }

-- the places with that of one more fact
abbrev pub with_place : Places → Fact → ℕ → Places
with_place places fact n =
    record {
      plain = with_first same_fact places.plain (plain_key fact) n;
      empty = with_first same_cube places.empty (region_key true fact) n;
      filled = with_first same_cube places.filled (region_key false fact) n;
    }

-- the first so many of each
abbrev pub front_of : Places → Before → Places
front_of places before =
    record {
      plain = take before.plain places.plain;
      empty = take before.empty places.empty;
      filled = take before.filled places.filled;
    }

abbrev pub regions_of : Places → Bool → List (Cube × ℕ)
regions_of places s = if s then places.empty else places.filled

-- the first place of a fact
abbrev pub place_in : Places → Fact → Option ℕ
place_in places (Empty cube s) = lookup (same_cube cube) (regions_of places s)
place_in places fact = lookup (same_fact fact) places.plain

-- the place n, where the fact that stands there is a row
abbrev pub row_place : ℕ → Fact → List ℕ
row_place n (Row row) = n ∷ []
row_place n _ = []

-- the places of the row facts, where the first of the list stands at place n
abbrev pub row_places_from : ℕ → List Fact → List ℕ
row_places_from n [] = []
row_places_from n (f ∷ fs) = row_place n f ++ row_places_from (suc n) fs

abbrev pub row_places : List Fact → List ℕ
row_places facts = row_places_from 0 facts

-- the row of the fact at the place that stands at index i of the places
abbrev pub row_by : List Fact → List ℕ → ℕ → Option LinearRow
row_by facts places i = do
  place ← slice_get places i
  fact ← slice_get facts place
  row_in fact

-- how many entries the tables have
abbrev pub counts_in : Places → List ℕ → Before
counts_in places rows = record { plain = length places.plain; empty = length places.empty; filled = length places.filled; rows = length rows }

-- the tables of a list of facts
pub record IsIndexed (facts : List Fact) (places : Places) (rows : List ℕ) (before : List Before) : Type 0 where
  pub places_are : places ≡ places_of facts
  pub rows_are : rows ≡ row_places facts
  pub counts : length before ≡ length facts
  pub counted : (i : ℕ) (b : Before) → slice_get before i ≡ Some b → b ≡ counts_in (places_of (take i facts)) (row_places (take i facts))
