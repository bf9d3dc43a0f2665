-- The sorts of numbered set terms and elements: the sort of what a set term holds, and of an element.
use Rattle.std.specs.Prelude.{ℕ, zero, suc, Bool, false, Option, None, Some}
use Rattle.sc_base.specs.Options.{◌>>=◌}
use Rattle.sc_terms.specs.declared.nodes.Element.{Element}
use Rattle.sc_terms.specs.declared.nodes.Element.TheVariants as elements
use Rattle.sc_terms.specs.declared.nodes.SetTerm.{SetTerm}
use Rattle.sc_terms.specs.declared.nodes.SetTerm.TheVariants as sets
use Rattle.sc_terms.specs.declared.nodes.Sort.{Sort}
use Rattle.sc_terms.specs.declared.nodes.Sort.TheVariants as kinds
use Rattle.sc_terms.specs.declared.problem.Parts.{Parts}
use Rattle.sc_terms.specs.Lookup.{set_at, element_at}
use Rattle.sc_terms.specs.Same.{same_sort}
use Rattle.sc_terms.specs.Values.{node_count}

-- the sort of the members of sets of a sort
abbrev pub held_by : Sort → Option Sort
held_by kinds.SetInt = Some kinds.Int
held_by (kinds.SetNamed n) = Some (kinds.Named n)
held_by _ = None

-- sorts by number: of the members of each set term, and of each element
pub record Sorts : Type 0 where
  pub members : ℕ → Option Sort
  pub element : ℕ → Option Sort

-- the sort of a set term's members, by its first part's
abbrev pub members_sort_of : Sorts → SetTerm → Option Sort
members_sort_of known (sets.Const c sort) = held_by sort
members_sort_of known (sets.Empty sort) = held_by sort
members_sort_of known (sets.Single e) = known.element e
members_sort_of known (sets.Union s t) = known.members s
members_sort_of known (sets.Inter s t) = known.members s
members_sort_of known (sets.Minus s t) = known.members s

-- the sort of an element, by its first part's
abbrev pub element_sort_of : Sorts → Element → Option Sort
element_sort_of known (elements.Const c sort) = Some sort
element_sort_of known (elements.Number affine) = Some kinds.Int
element_sort_of known (elements.Diff s t) = known.members s

-- the sorts of nodes down to a depth
abbrev pub sorts_within : Parts → ℕ → Sorts
sorts_within problem zero = record { members = λ n. None; element = λ n. None }
sorts_within problem (suc depth) =
    record {
      members = λ n. set_at problem n >>= members_sort_of (sorts_within problem depth);
      element = λ n. element_at problem n >>= element_sort_of (sorts_within problem depth);
    }

-- the sort of the members of a set term, and of an element
abbrev pub members_sort : Parts → ℕ → Option Sort
members_sort problem s = (sorts_within problem (node_count problem)).members s

abbrev pub element_sort : Parts → ℕ → Option Sort
element_sort problem e = (sorts_within problem (node_count problem)).element e

-- whether both have a sort, and it is the same
abbrev pub are_same : Option Sort → Option Sort → Bool
are_same (Some a) (Some b) = same_sort a b
are_same _ _ = false

-- whether element e has the sort of the members of set term s
abbrev pub may_hold : Parts → ℕ → ℕ → Bool
may_hold problem s e = are_same (members_sort problem s) (element_sort problem e)

-- whether two elements are of one sort, and two set terms
abbrev pub elements_alike : Parts → ℕ → ℕ → Bool
elements_alike problem e f = are_same (element_sort problem e) (element_sort problem f)

abbrev pub sets_alike : Parts → ℕ → ℕ → Bool
sets_alike problem s t = are_same (members_sort problem s) (members_sort problem t)
