-- The tables that give nodes and Int constants their numbers.
use Rattle.std.specs.Prelude.{◌≡◌, ℕ, ◌<◌, ◌^◌, nat_eq, ℤ, List, length, filter}
use Rattle.std.specs.List.{flat_map, AllByRecursion}
use Rattle.indexmap.specs.IndexSet.{insert_all}
use Rattle.sc_base.specs.Numbered.{item_at}
use Rattle.sc_terms.specs.declared.atoms.Atom.{Atom}
use Rattle.sc_terms.specs.declared.nodes.Node.{Node}
use Rattle.sc_terms.specs.Bank.{is_formula, is_set, is_element}
use Rattle.sc_flatten.specs.declared.tables.Tables.{Tables}
use Rattle.sc_flatten.specs.Walk.{constants_at}
use Rattle.sc_terms.specs.Conditions.{IsIn, IsProblem}
use Rattle.sc_flatten.specs.Stock.{Numbering, numbering_by, sets_by, problem_by}
use Rattle.sc_flatten.specs.Numbered.{IsWhole}

-- the numbering that tables make
abbrev pub numbering : Tables → Numbering
numbering t = record { formulas = t.formulas.keys; sets = t.sets.keys; elements = t.elements.keys; ints = t.ints.keys }

-- the nodes of the order, and their constants, are entered behind those of the old tables
pub record Enters (bank : List Node) (order : List ℕ) (old new : Tables) : Type 0 where
  pub formulas : new.formulas.keys ≡ insert_all nat_eq old.formulas.keys (filter (λ n. is_formula (item_at bank n)) order)
  pub sets : new.sets.keys ≡ insert_all nat_eq old.sets.keys (filter (λ n. is_set (item_at bank n)) order)
  pub elements : new.elements.keys ≡ insert_all nat_eq old.elements.keys (filter (λ n. is_element (item_at bank n)) order)
  pub ints : new.ints.keys ≡ insert_all nat_eq old.ints.keys (flat_map (λ n. constants_at (item_at bank n)) order)

-- an entry of a map from atoms to coefficients as a term
abbrev pub as_term : Atom × ℤ → ℤ × Atom
as_term e = (e.1, e.0)

-- the numbers that the tables give fit 32 bits
pub record AreFew (t : Tables) : Type 0 where
  pub formulas : length t.formulas.keys < 2 ^ 32
  pub sets : length t.sets.keys < 2 ^ 32
  pub elements : length t.elements.keys < 2 ^ 32
  pub ints : length t.ints.keys < 2 ^ 32

abbrev pub HasFewInts : Tables → Type 0
HasFewInts t = length t.ints.keys < 2 ^ 32

pub record IsNumbering (bank : List Node) (order : List ℕ) (t : Tables) : Type 0 where
  pub numbers : numbering t ≡ numbering_by bank order
  pub few : HasFewInts t

-- the tables have all that the problem of the assertions needs
pub record IsReady (bank : List Node) (assertions : List ℕ) (t : Tables) : Type 0 where
  pub whole : IsWhole bank assertions (numbering t)
  pub few : AreFew t
  pub formulas : AllByRecursion (IsIn (length bank)) t.formulas.keys
  pub sets : AllByRecursion (IsIn (length bank)) t.sets.keys
  pub elements : AllByRecursion (IsIn (length bank)) t.elements.keys
  pub few_sets : length (sets_by bank (numbering t)) < 2 ^ 32
  pub is_problem : IsProblem (problem_by bank assertions (numbering t))
