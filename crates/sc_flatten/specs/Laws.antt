-- What the stock of a bank's formulas keeps.
use Rattle.std.specs.Prelude.{◌≡◌, ◌≤◌, ℕ, nat_eq, List, filter, map, Some, ⊤}
use Rattle.std.specs.List.{AllByRecursion}
use Rattle.sc_base.specs.Numbered.{item_at}
use Rattle.sc_terms.specs.declared.nodes.Element.{Element}
use Rattle.sc_terms.specs.declared.nodes.Element.TheVariants as elements
use Rattle.sc_terms.specs.declared.nodes.Formula.{Formula}
use Rattle.sc_terms.specs.declared.nodes.Formula.TheVariants as formulas
use Rattle.sc_terms.specs.declared.nodes.Node.{Node}
use Rattle.sc_terms.specs.declared.nodes.SetTerm.{SetTerm}
use Rattle.sc_terms.specs.declared.nodes.SetTerm.TheVariants as sets
use Rattle.sc_terms.specs.declared.nodes.Sort.{Sort}
use Rattle.sc_terms.specs.declared.nodes.Sort.TheVariants as sorts
use Rattle.sc_terms.specs.declared.problem.Parts.{Parts}
use Rattle.sc_terms.specs.Bank.{IsBank, Begins, IsFormulaOf, IsSetSort, IsDeclaredSort, HasSorts}
use Rattle.sc_terms.specs.BankValues.{bank_meaning}
use Rattle.sc_terms.specs.Conditions.{IsProblem}
use Rattle.sc_terms.specs.Meaning.{Interpretation, IsInterpretation}
use Rattle.sc_terms.specs.Values.{meaning}
use Rattle.sc_sorts.specs.Sorted.{IsWellSorted, IsWellSortedBank}
use Rattle.sc_terms.specs.Under.{FitUnder}
use Rattle.sc_sorts.specs.Posed.{HasPlainForm, ElementHasPlainForm, HasDiffs, NamesNoDiff, NodesFit, IsPosed, IsPosedBank}
use Rattle.sc_flatten.specs.Classes.{links_of, least_of, homes_of, components_of}
use Rattle.sc_flatten.specs.Stock.{stock}

-- each number is that of a formula of the bank
abbrev pub AreFormulasOf : List Node → List ℕ → Type 0
AreFormulasOf bank assertions = AllByRecursion (IsFormulaOf bank) assertions

-- The stock of a bank's formulas is a problem.
abbrev pub StocksAreProblems : Type 0
StocksAreProblems = (bank : List Node) (assertions : List ℕ) → IsBank bank → AreFormulasOf bank assertions → IsProblem (stock bank assertions)

-- The stock of a bank's formulas stays as nodes are put behind the bank's.
abbrev pub StocksStay : Type 0
StocksStay = (old new : List Node) → Begins old new → (assertions : List ℕ) → IsBank old → AreFormulasOf old assertions → stock new assertions ≡ stock old assertions

-- Each root is true under an interpretation exactly where its assertion is.
abbrev pub MeaningsAgree : Type 0
MeaningsAgree =
    (bank : List Node) (assertions : List ℕ) → IsBank bank → AreFormulasOf bank assertions → (i : Interpretation) → IsInterpretation i
    → map (meaning (stock bank assertions) i).truth (stock bank assertions).roots ≡ map (bank_meaning bank i).truth assertions

-- ---- sorts: the constants of a problem have the sorts that a list gives them
abbrev pub FlagIsOf : List Sort → Formula → Type 0
FlagIsOf known (formulas.Flag c) = item_at known c ≡ Some sorts.Bool
FlagIsOf known _ = ⊤

abbrev pub SetIsOf : List Sort → SetTerm → Type 0
SetIsOf known (sets.Const c sort) = (item_at known c ≡ Some sort) × IsSetSort sort
SetIsOf known _ = ⊤

abbrev pub ElementIsOf : List Sort → Element → Type 0
ElementIsOf known (elements.Const c sort) = (item_at known c ≡ Some sort) × IsDeclaredSort sort
ElementIsOf known _ = ⊤

pub record ProblemHasSorts (known : List Sort) (problem : Parts) : Type 0 where
  pub formulas : AllByRecursion (FlagIsOf known) problem.formulas
  pub sets : AllByRecursion (SetIsOf known) problem.sets
  pub elements : AllByRecursion (ElementIsOf known) problem.elements
  pub ints : AllByRecursion (λ c. item_at known c ≡ Some sorts.Int) problem.ints

-- The constants of a stock have the sorts that the bank's have.
abbrev pub SortsStay : Type 0
SortsStay =
    (known : List Sort) (bank : List Node) (assertions : List ℕ) → IsBank bank → AreFormulasOf bank assertions → HasSorts known bank
    → ProblemHasSorts known (stock bank assertions)

-- The stock of a well-sorted bank is well sorted.
abbrev pub StocksStaySorted : Type 0
StocksStaySorted = (bank : List Node) (assertions : List ℕ) → IsBank bank → AreFormulasOf bank assertions → IsWellSortedBank bank → IsWellSorted (stock bank assertions)

-- ---- what may be decided
-- The forms of a stock have Int constants and cards alone.
pub record StocksHavePlainForms : Type 0 where
  pub formulas : (bank : List Node) (assertions : List ℕ) → IsBank bank → AreFormulasOf bank assertions → AllByRecursion HasPlainForm (stock bank assertions).formulas
  pub elements : (bank : List Node) (assertions : List ℕ) → IsBank bank → AreFormulasOf bank assertions → AllByRecursion ElementHasPlainForm (stock bank assertions).elements

-- Under an interpretation under which each number that an evaluation of the assertions meets fits 128 bits, each that one of the stock's nodes meets does.
abbrev pub StocksFit : Type 0
StocksFit =
    (bank : List Node) (assertions : List ℕ) → IsBank bank → AreFormulasOf bank assertions → (i : Interpretation) → IsInterpretation i
    → FitUnder bank assertions (bank_meaning bank i) → NodesFit (stock bank assertions) (meaning (stock bank assertions) i)

-- The stock of formulas of a bank that may have them posed may be decided.
abbrev pub StocksArePosed : Type 0
StocksArePosed =
    (known : List Sort) (bank : List Node) (assertions : List ℕ) → IsBank bank → IsPosedBank known bank → AreFormulasOf bank assertions
    → IsPosed (stock bank assertions) bank

-- The sides of each equation of a stock have their differing element.
abbrev pub StocksHaveDiffs : Type 0
StocksHaveDiffs = (bank : List Node) (assertions : List ℕ) → HasDiffs (stock bank assertions)

-- No formula and no set of one of a stock names a differing element.
abbrev pub StocksNameNoDiffs : Type 0
StocksNameNoDiffs = (bank : List Node) (assertions : List ℕ) → IsBank bank → AreFormulasOf bank assertions → NamesNoDiff (stock bank assertions)

-- ---- components: the classes of the smallest equivalence in which linked numbers are equal
pub record AreLeasts (links : List (ℕ × ℕ)) (least : ℕ → ℕ) : Type 0 where
  -- the two of each link are in one class
  pub together : AllByRecursion (λ p. least p.0 ≡ least p.1) links
  -- whatever takes the two of each link to one number takes a number and the least of its class to one number
  pub apart : (f : ℕ → ℕ) → AllByRecursion (λ p. f p.0 ≡ f p.1) links → (n : ℕ) → f (least n) ≡ f n
  -- and no number of the class is less
  pub lowest : (m n : ℕ) → least m ≡ least n → least m ≤ n

abbrev pub LeastsAreOfClasses : Type 0
LeastsAreOfClasses = (links : List (ℕ × ℕ)) → AreLeasts links (least_of links)

-- those that are the least of their own classes
abbrev pub leasts_among : (ℕ → ℕ) → List ℕ → List ℕ
leasts_among least ns = filter (λ n. nat_eq (least n) n) ns

-- those whose class has the least number r
abbrev pub class_of_least : (ℕ → ℕ) → List ℕ → ℕ → List ℕ
class_of_least least ns r = filter (λ n. nat_eq (least n) r) ns

-- The components are the classes of the set terms other than empty sets, each in order, and come in the order of their least set terms.
abbrev pub ComponentsAscend : Type 0
ComponentsAscend =
    (ss : List SetTerm) (fs : List Formula)
    → components_of ss fs ≡ map (class_of_least (least_of (links_of ss fs)) (homes_of ss)) (leasts_among (least_of (links_of ss fs)) (homes_of ss))
