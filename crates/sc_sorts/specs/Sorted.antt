-- Lists of nodes that are well sorted: the sides of an equation are of one sort, an element is of the sort of the members of its set, and the arguments of an operator are of its own sort.
use Rattle.std.specs.Prelude.{◌≡◌, ℕ, List, Some, ⊤}
use Rattle.std.specs.Bool.{Decides}
use Rattle.sc_base.specs.Numbered.{item_at}
use Rattle.sc_terms.specs.declared.nodes.Element.{Element}
use Rattle.sc_terms.specs.declared.nodes.Element.TheVariants as elements
use Rattle.sc_terms.specs.declared.nodes.Formula.{Formula}
use Rattle.sc_terms.specs.declared.nodes.Formula.TheVariants as formulas
use Rattle.sc_terms.specs.declared.nodes.Node.{Node}
use Rattle.sc_terms.specs.declared.nodes.Node.TheVariants as nodes
use Rattle.sc_terms.specs.declared.nodes.SetTerm.{SetTerm}
use Rattle.sc_terms.specs.declared.nodes.SetTerm.TheVariants as sets
use Rattle.sc_terms.specs.declared.nodes.Sort.{Sort}
use Rattle.sc_terms.specs.declared.nodes.Sort.TheVariants as kinds
use Rattle.sc_terms.specs.declared.problem.Parts.{Parts}
use Rattle.sc_terms.specs.Lookup.{formula_at, set_at, element_at}
use Rattle.sc_terms.specs.Conditions.{IsProblem}
use Rattle.sc_sorts.specs.Sorts.{held_by, members_sort, element_sort, may_hold, elements_alike, sets_alike}

-- a sort for the members of each set term and for each element, by their numbers
pub record Sorting : Type 0 where
  pub members : ℕ → Sort
  pub element : ℕ → Sort

abbrev pub FormulaIsSorted : Sorting → Formula → Type 0
FormulaIsSorted by (formulas.Eq e f) = by.element e ≡ by.element f
FormulaIsSorted by (formulas.EqSet s t) = by.members s ≡ by.members t
FormulaIsSorted by (formulas.Member e s) = by.element e ≡ by.members s
FormulaIsSorted by _ = ⊤

-- set term n
abbrev pub SetIsSorted : Sorting → ℕ → SetTerm → Type 0
SetIsSorted by n (sets.Const c sort) = held_by sort ≡ Some (by.members n)
SetIsSorted by n (sets.Empty sort) = held_by sort ≡ Some (by.members n)
SetIsSorted by n (sets.Single e) = by.element e ≡ by.members n
SetIsSorted by n (sets.Union s t) = (by.members s ≡ by.members n) × (by.members t ≡ by.members n)
SetIsSorted by n (sets.Inter s t) = (by.members s ≡ by.members n) × (by.members t ≡ by.members n)
SetIsSorted by n (sets.Minus s t) = (by.members s ≡ by.members n) × (by.members t ≡ by.members n)

-- element n
abbrev pub ElementIsSorted : Sorting → ℕ → Element → Type 0
ElementIsSorted by n (elements.Const c sort) = by.element n ≡ sort
ElementIsSorted by n (elements.Number affine) = by.element n ≡ kinds.Int
ElementIsSorted by n (elements.Diff s t) = (by.members s ≡ by.element n) × (by.members t ≡ by.element n)

-- the nodes of a problem have these sorts
pub record AreSorted (problem : Parts) (by : Sorting) : Type 0 where
  pub formulas : (n : ℕ) (f : Formula) → formula_at problem n ≡ Some f → FormulaIsSorted by f
  pub sets : (n : ℕ) (s : SetTerm) → set_at problem n ≡ Some s → SetIsSorted by n s
  pub elements : (n : ℕ) (e : Element) → element_at problem n ≡ Some e → ElementIsSorted by n e

abbrev pub IsWellSorted : Parts → Type 0
IsWellSorted problem = (by : Sorting) × AreSorted problem by

-- node n of a bank
abbrev pub NodeIsSorted : Sorting → ℕ → Node → Type 0
NodeIsSorted by n (nodes.Formula f) = FormulaIsSorted by f
NodeIsSorted by n (nodes.Set s) = SetIsSorted by n s
NodeIsSorted by n (nodes.Element e) = ElementIsSorted by n e

-- the nodes of a bank have these sorts
abbrev pub BankHasSorting : List Node → Sorting → Type 0
BankHasSorting bank by = (n : ℕ) (x : Node) → item_at bank n ≡ Some x → NodeIsSorted by n x

abbrev pub IsWellSortedBank : List Node → Type 0
IsWellSortedBank bank = (by : Sorting) × BankHasSorting bank by

-- In a well-sorted problem each set term's members and each element have the sort that the nodes tell.
pub record SortsAreFound : Type 0 where
  pub members : (problem : Parts) → IsProblem problem → (by : Sorting) → AreSorted problem by → (n : ℕ) (s : SetTerm) → set_at problem n ≡ Some s → members_sort problem n ≡ Some (by.members n)
  pub element : (problem : Parts) → IsProblem problem → (by : Sorting) → AreSorted problem by → (n : ℕ) (e : Element) → element_at problem n ≡ Some e → element_sort problem n ≡ Some (by.element n)

-- In a well-sorted problem two terms that are there are found to be of one sort exactly where they are.
pub record SortsMatch : Type 0 where
  pub held : (problem : Parts) → IsProblem problem → (by : Sorting) → AreSorted problem by → (s e : ℕ) (x : SetTerm) (y : Element) → set_at problem s ≡ Some x → element_at problem e ≡ Some y → Decides (may_hold problem s e) (by.members s ≡ by.element e)
  pub elements : (problem : Parts) → IsProblem problem → (by : Sorting) → AreSorted problem by → (e f : ℕ) (x y : Element) → element_at problem e ≡ Some x → element_at problem f ≡ Some y → Decides (elements_alike problem e f) (by.element e ≡ by.element f)
  pub sets : (problem : Parts) → IsProblem problem → (by : Sorting) → AreSorted problem by → (s t : ℕ) (x y : SetTerm) → set_at problem s ≡ Some x → set_at problem t ≡ Some y → Decides (sets_alike problem s t) (by.members s ≡ by.members t)
