-- Which problems are decided, and which banks they come from.
use Rattle.std.specs.Prelude.{◌≡◌, ◌≢◌, ℕ, ℤ, Some, List, [], is_some, true, ⊤, map}
use Rattle.std.specs.List.{AllByRecursion}
use Rattle.sc_base.specs.Numbered.{item_at}
use Rattle.sc_terms.specs.declared.atoms.Atom.{Atom}
use Rattle.sc_terms.specs.declared.atoms.Atom.TheVariants as atoms
use Rattle.sc_terms.specs.declared.nodes.Element.{Element}
use Rattle.sc_terms.specs.declared.nodes.Element.TheVariants as elements
use Rattle.sc_terms.specs.declared.nodes.Formula.{Formula}
use Rattle.sc_terms.specs.declared.nodes.Formula.TheVariants as formulas
use Rattle.sc_terms.specs.declared.nodes.Node.{Node}
use Rattle.sc_terms.specs.declared.nodes.Node.TheVariants as nodes
use Rattle.sc_terms.specs.declared.nodes.SetTerm.{SetTerm}
use Rattle.sc_terms.specs.declared.nodes.SetTerm.TheVariants as sets
use Rattle.sc_terms.specs.declared.nodes.Sort.{Sort}
use Rattle.sc_terms.specs.declared.problem.Parts.{Parts}
use Rattle.sc_terms.specs.Lookup.{formula_at, set_at, element_at, diff_of, formula_form, element_form}
use Rattle.sc_terms.specs.Meaning.{Interpretation, IsInterpretation, Valuation}
use Rattle.sc_terms.specs.Values.{FormulaFits, ElementFits, meaning}
use Rattle.sc_terms.specs.Bank.{IsFormulaOf, IsDeclaredSort, HasSorts}
use Rattle.sc_terms.specs.BankValues.{bank_meaning}
use Rattle.sc_terms.specs.Under.{FitUnder}
use Rattle.sc_sorts.specs.Sorted.{IsWellSorted, IsWellSortedBank}

-- ---- forms
-- an atom that stands in a script's terms: an Int constant, or the card of a set
abbrev pub IsScriptAtom : Atom → Type 0
IsScriptAtom (atoms.Int n) = ⊤
IsScriptAtom (atoms.Card s) = ⊤
IsScriptAtom (atoms.Diff e) = ⊥
IsScriptAtom (atoms.Size cube) = ⊥

-- no other atom stands in the form
abbrev pub IsPlainForm : List (ℤ × Atom) → Type 0
IsPlainForm form = AllByRecursion (λ p. IsScriptAtom p.1) form

abbrev pub HasPlainForm : Formula → Type 0
HasPlainForm f = IsPlainForm (formula_form f)

abbrev pub ElementHasPlainForm : Element → Type 0
ElementHasPlainForm e = IsPlainForm (element_form e)

-- ---- constants
-- formula, set term, element or Int constant n is the constant c
abbrev pub NamesFlag : Parts → ℕ → ℕ → Type 0
NamesFlag problem n c = formula_at problem n ≡ Some (formulas.Flag c)

abbrev pub NamesSet : Parts → ℕ → ℕ → Type 0
NamesSet problem n c = (sort : Sort) × (set_at problem n ≡ Some (sets.Const c sort))

abbrev pub NamesElement : Parts → ℕ → ℕ → Type 0
NamesElement problem n c = (sort : Sort) × (element_at problem n ≡ Some (elements.Const c sort))

abbrev pub NamesInt : Parts → ℕ → ℕ → Type 0
NamesInt problem n c = item_at problem.ints n ≡ Some c

-- The constant of each node is that of no other node, of whatever kind. So a constant has one value, that of its one node.
pub record HasOneNodeEach (problem : Parts) : Type 0 where
  pub one_flag : (c m n : ℕ) → NamesFlag problem m c → NamesFlag problem n c → m ≡ n
  pub one_set : (c m n : ℕ) → NamesSet problem m c → NamesSet problem n c → m ≡ n
  pub one_element : (c m n : ℕ) → NamesElement problem m c → NamesElement problem n c → m ≡ n
  pub one_int : (c m n : ℕ) → NamesInt problem m c → NamesInt problem n c → m ≡ n
  pub no_set_flag : (c m n : ℕ) → NamesFlag problem m c → NamesSet problem n c → ⊥
  pub no_element_flag : (c m n : ℕ) → NamesFlag problem m c → NamesElement problem n c → ⊥
  pub no_element_set : (c m n : ℕ) → NamesSet problem m c → NamesElement problem n c → ⊥
  pub no_int_flag : (c m n : ℕ) → NamesFlag problem m c → NamesInt problem n c → ⊥
  pub no_int_set : (c m n : ℕ) → NamesSet problem m c → NamesInt problem n c → ⊥
  pub no_int_element : (c m n : ℕ) → NamesElement problem m c → NamesInt problem n c → ⊥

-- a constant that is an element is of a declared sort
abbrev pub IsOfDeclaredSort : Element → Type 0
IsOfDeclaredSort (elements.Const c sort) = IsDeclaredSort sort
IsOfDeclaredSort _ = ⊤

-- ---- differing elements
-- the two sides of each equation of different set terms have their differing element
abbrev pub HasDiffs : Parts → Type 0
HasDiffs problem = (n s t : ℕ) → formula_at problem n ≡ Some (formulas.EqSet s t) → s ≢ t → is_some (diff_of problem s t) ≡ true

-- element e is no differing element
abbrev pub IsNoDiff : Parts → ℕ → Type 0
IsNoDiff problem e = (s t : ℕ) → element_at problem e ≢ Some (elements.Diff s t)

abbrev pub FormulaNamesNoDiff : Parts → Formula → Type 0
FormulaNamesNoDiff problem (formulas.Eq e f) = IsNoDiff problem e × IsNoDiff problem f
FormulaNamesNoDiff problem (formulas.Member e s) = IsNoDiff problem e
FormulaNamesNoDiff problem _ = ⊤

abbrev pub SetNamesNoDiff : Parts → SetTerm → Type 0
SetNamesNoDiff problem (sets.Single e) = IsNoDiff problem e
SetNamesNoDiff problem _ = ⊤

-- No formula and no set of one names a differing element: that of two sets is their least difference, which need not be the element that tells them apart on a path.
pub record NamesNoDiff (problem : Parts) : Type 0 where
  pub formulas : AllByRecursion (FormulaNamesNoDiff problem) problem.formulas
  pub sets : AllByRecursion (SetNamesNoDiff problem) problem.sets

-- ---- what the problem of every script's assertions is
-- The problem is well sorted, sets that are said to be equal have their differing element, which nothing names, forms have Int constants and cards alone, elements that are constants are of declared sorts, and each constant has one node.
pub record IsOfScript (problem : Parts) : Type 0 where
  pub formulas : AllByRecursion HasPlainForm problem.formulas
  pub elements : AllByRecursion ElementHasPlainForm problem.elements
  pub sorted : IsWellSorted problem
  pub diffs : HasDiffs problem
  pub unnamed : NamesNoDiff problem
  pub declared : AllByRecursion IsOfDeclaredSort problem.elements
  pub constants : HasOneNodeEach problem

-- ---- a problem and the bank of its assertions
-- no number that an evaluation of the problem's nodes meets passes 128 bits
pub record NodesFit (problem : Parts) (v : Valuation) : Type 0 where
  pub formulas : AllByRecursion (FormulaFits problem v) problem.formulas
  pub elements : AllByRecursion (ElementFits problem v) problem.elements

-- The problem's assertions are formulas of the bank. Under every interpretation each root is true exactly where its assertion is, and where each number that an evaluation of the assertions meets fits 128 bits, so does each that one of the problem's nodes meets.
pub record IsOfBank (problem : Parts) (bank : List Node) : Type 0 where
  pub formulas : AllByRecursion (IsFormulaOf bank) problem.assertions
  pub agree : (i : Interpretation) → IsInterpretation i → map (meaning problem i).truth problem.roots ≡ map (bank_meaning bank i).truth problem.assertions
  pub fits : (i : Interpretation) → IsInterpretation i → FitUnder bank problem.assertions (bank_meaning bank i) → NodesFit problem (meaning problem i)

-- ---- without integers
-- no inequality
abbrev pub IsIntlessFormula : Formula → Type 0
IsIntlessFormula (formulas.Le row) = ⊥
IsIntlessFormula _ = ⊤

-- no Int term
abbrev pub IsIntlessElement : Element → Type 0
IsIntlessElement (elements.Number affine) = ⊥
IsIntlessElement _ = ⊤

abbrev pub IsIntlessNode : Node → Type 0
IsIntlessNode (nodes.Formula f) = IsIntlessFormula f
IsIntlessNode (nodes.Set s) = ⊤
IsIntlessNode (nodes.Element e) = IsIntlessElement e

-- the problem has no inequality and no Int term
pub record IsIntless (problem : Parts) : Type 0 where
  pub formulas : AllByRecursion IsIntlessFormula problem.formulas
  pub elements : AllByRecursion IsIntlessElement problem.elements

-- ---- without cards
abbrev pub IsNoCard : Atom → Type 0
IsNoCard (atoms.Card s) = ⊥
IsNoCard _ = ⊤

-- no card stands in the form
abbrev pub IsCardlessForm : List (ℤ × Atom) → Type 0
IsCardlessForm form = AllByRecursion (λ p. IsNoCard p.1) form

abbrev pub IsCardlessFormula : Formula → Type 0
IsCardlessFormula f = IsCardlessForm (formula_form f)

abbrev pub IsCardlessElement : Element → Type 0
IsCardlessElement e = IsCardlessForm (element_form e)

abbrev pub IsCardlessNode : Node → Type 0
IsCardlessNode (nodes.Formula f) = IsCardlessFormula f
IsCardlessNode (nodes.Set s) = ⊤
IsCardlessNode (nodes.Element e) = IsCardlessElement e

-- no card stands in a form of the problem
pub record IsCardless (problem : Parts) : Type 0 where
  pub formulas : AllByRecursion IsCardlessFormula problem.formulas
  pub elements : AllByRecursion IsCardlessElement problem.elements

-- ---- the one condition
-- The problem may be decided: it is that of assertions of the bank, and has no integers and no cards.
pub record IsPosed (problem : Parts) (bank : List Node) : Type 0 where
  pub script : IsOfScript problem
  pub of_bank : IsOfBank problem bank
  pub intless : IsIntless problem
  pub cardless : IsCardless problem

-- The bank may have its formulas posed: it is well sorted, its constants have the sorts that the list gives them, and it has no integers and no cards.
pub record IsPosedBank (known : List Sort) (bank : List Node) : Type 0 where
  pub sorts : HasSorts known bank
  pub well_sorted : IsWellSortedBank bank
  pub intless : AllByRecursion IsIntlessNode bank
  pub cardless : AllByRecursion IsCardlessNode bank
