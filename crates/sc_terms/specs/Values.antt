-- The values of a problem's nodes under an interpretation, and when an interpretation makes the problem true.
use Rattle.std.specs.Prelude.{◌≡◌, ℕ, zero, suc, ◌+◌, Bool, true, false, ℤ, pos, ◌+ℤ◌, ◌*ℤ◌, FitsSigned, List, [], length, Option, Some, None, ◌⊎◌, refl, ⊤}
use Rattle.std.proofs.Common.{inl, inr}
use Rattle.std.specs.Coded.{Coded, code_by, coded×, coded⊎, coded_ℤ, coded_bool, coded_list}
use Rattle.std.specs.Int.{w128}
use Rattle.std.specs.List.{AllByRecursion}
use Rattle.std.specs.Ordering.{nat_cmp}
use Rattle.std.specs.FinMap as map
use Rattle.sc_base.specs.declared.span.Span.{Span}
use Rattle.sc_base.specs.Numbered.{item_at}
use Rattle.sc_base.specs.Spans.{members, AreApart}
use Rattle.sc_terms.specs.declared.atoms.Atom.{Atom}
use Rattle.sc_terms.specs.declared.nodes.Element.{Element}
use Rattle.sc_terms.specs.declared.nodes.Element.TheVariants as elements
use Rattle.sc_terms.specs.declared.nodes.SetTerm.{SetTerm}
use Rattle.sc_terms.specs.declared.nodes.Formula.{Formula}
use Rattle.sc_terms.specs.declared.nodes.Formula.TheVariants as formulas
use Rattle.sc_terms.specs.declared.interp.Value.{Value}
use Rattle.sc_terms.specs.declared.interp.Value.TheVariants.{Flag, Number, Set}
use Rattle.sc_terms.specs.declared.problem.Parts.{Parts}
use Rattle.sc_terms.specs.Lookup.{formula_at, set_at, element_at, is_named}
use Rattle.sc_terms.specs.Meaning.{Interpretation, IsInterpretation, Valuation, truth_of, members_of, element_of, atom_value, form_value, AllTrue}

-- values of constants by their numbers
abbrev pub ValueMap : Type 0
ValueMap = map.FinMap nat_cmp Value

abbrev pub truth_or : Option Formula → (Formula → Bool) → Bool
truth_or None f = false
truth_or (Some x) f = f x

abbrev pub members_or : Option SetTerm → (SetTerm → List ℤ) → List ℤ
members_or None f = []
members_or (Some x) f = f x

abbrev pub value_or : Option Element → (Element → ℤ) → ℤ
value_or None f = pos 0
value_or (Some x) f = f x

abbrev pub number_or : Option ℕ → (ℕ → ℤ) → ℤ
number_or None f = pos 0
number_or (Some x) f = f x

-- how many nodes there are
abbrev pub node_count : Parts → ℕ
node_count problem = length problem.formulas + length problem.sets + length problem.elements

-- each node's value by its parts' values in v
abbrev pub next_values : Parts → Interpretation → Valuation → Valuation
next_values problem i v =
    record {
      truth = λ n. truth_or (formula_at problem n) (truth_of problem i v);
      members = λ n. members_or (set_at problem n) (members_of i v);
      element = λ n. value_or (element_at problem n) (element_of problem i v);
      int = λ n. number_or (item_at problem.ints n) i.numbers;
    }

-- the values of nodes down to a depth
abbrev pub values : Parts → Interpretation → ℕ → Valuation
values problem i zero = record { truth = λ n. false; members = λ n. []; element = λ n. pos 0; int = λ n. number_or (item_at problem.ints n) i.numbers }
values problem i (suc depth) = next_values problem i (values problem i depth)

-- the values that an interpretation gives the nodes of an acyclic problem
abbrev pub meaning : Parts → Interpretation → Valuation
meaning problem i = values problem i (node_count problem)

-- the roots are true under the interpretation
abbrev pub Holds : Parts → Interpretation → Type 0
Holds problem i = AllTrue (meaning problem i) problem.roots

-- no interpretation makes the roots true
abbrev pub IsUnsatisfiable : Parts → Type 0
IsUnsatisfiable problem = (i : Interpretation) → IsInterpretation i → Holds problem i → ⊥

-- values are stored as those of one of three kinds
abbrev cases : Value → Bool ⊎ (ℤ ⊎ List Span)
cases (Flag b) = inl b
cases (Number z) = inr (inl z)
cases (Set spans) = inr (inr spans)

abbrev value : Bool ⊎ (ℤ ⊎ List Span) → Value
value (inl b) = Flag b
value (inr (inl z)) = Number z
value (inr (inr spans)) = Set spans

pub value-cases : (v : Value) → value (cases v) ≡ v
value-cases (Flag b) = refl
value-cases (Number z) = refl
value-cases (Set spans) = refl

abbrev pub coded_span : Coded Span
coded_span = code_by (ℤ × ℤ) (coded× coded_ℤ coded_ℤ) (λ s. (s.low, s.high)) (λ p. record { low = p.0; high = p.1 }) (λ _. refl)

abbrev pub coded_value : Coded Value
coded_value = code_by (Bool ⊎ (ℤ ⊎ List Span)) (coded⊎ coded_bool (coded⊎ coded_ℤ (coded_list coded_span))) cases value value-cases

-- a constant's value as a truth value, an integer or a list of integers: false, 0 or none where it has no such value
abbrev pub flag_of : Option Value → Bool
flag_of (Some (Flag b)) = b
flag_of _ = false

abbrev pub number_of : Option Value → ℤ
number_of (Some (Number z)) = z
number_of _ = pos 0

abbrev pub elements_of : Option Value → List ℤ
elements_of (Some (Set spans)) = members spans
elements_of _ = []

-- what a finite map from constants to values says of each constant
abbrev pub interpretation_of : ValueMap → Interpretation
interpretation_of m =
    record {
      flags = λ c. flag_of (map.get m c);
      numbers = λ c. number_of (map.get m c);
      sets = λ c. elements_of (map.get m c);
    }

-- a set's spans are in order and apart
abbrev pub IsProper : Value → Type 0
IsProper (Flag b) = ⊤
IsProper (Number z) = ⊤
IsProper (Set spans) = AreApart spans

abbrev pub AreProper : List (ℕ × Value) → Type 0
AreProper entries = AllByRecursion (λ p. IsProper p.1) entries

-- every product of the form, and every size in it, fits 128 bits
abbrev pub TermFits : Parts → Valuation → ℤ × Atom → Type 0
TermFits problem v p = FitsSigned w128 (p.0 *ℤ atom_value problem v p.1) × FitsSigned w128 (atom_value problem v p.1)

-- and so does its sum, for an inequality
abbrev pub FormulaFits : Parts → Valuation → Formula → Type 0
FormulaFits problem v (formulas.Le row) = AllByRecursion (TermFits problem v) row.form × FitsSigned w128 (form_value problem v row.form)
FormulaFits problem v _ = ⊤

-- and the value, for an Int term
abbrev pub ElementFits : Parts → Valuation → Element → Type 0
ElementFits problem v (elements.Number affine) = AllByRecursion (TermFits problem v) affine.form × FitsSigned w128 (form_value problem v affine.form +ℤ affine.constant)
ElementFits problem v _ = ⊤

-- The values make the roots true, name constants of the problem alone, and no number that an evaluation meets passes 128 bits.
pub record Shows (problem : Parts) (m : ValueMap) : Type 0 where
  pub proper : IsInterpretation (interpretation_of m)
  pub holds : Holds problem (interpretation_of m)
  pub names : (c : ℕ) → map.contains_key m c ≡ true → is_named problem c ≡ true
  pub formulas_fit : AllByRecursion (FormulaFits problem (meaning problem (interpretation_of m))) problem.formulas
  pub elements_fit : AllByRecursion (ElementFits problem (meaning problem (interpretation_of m))) problem.elements
