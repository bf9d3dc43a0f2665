-- What the nodes of a problem mean, by equations that each speak of one node and its parts.
use Rattle.std.specs.Prelude.{◌≡◌, ℕ, Bool, true, false, not, ◌&&◌, if◌then◌else◌, ℤ, pos, ◌+ℤ◌, ◌*ℤ◌, ◌≤ℤ◌, int_lt, List, [], ◌∷◌, ◌++◌, length, filter, zip, Some}
use Rattle.std.specs.List.{list_any, list_all, AllByRecursion, IsDistinct}
use Rattle.std.specs.Ordering.{int_eq}
use Rattle.sc_terms.specs.declared.atoms.Atom.{Atom}
use Rattle.sc_terms.specs.declared.atoms.Atom.TheVariants as atoms
use Rattle.sc_terms.specs.declared.atoms.Sign.{Sign}
use Rattle.sc_terms.specs.declared.atoms.Sign.TheVariants.{Plus, Minus}
use Rattle.sc_terms.specs.declared.atoms.Cube.{Cube}
use Rattle.sc_terms.specs.declared.form.Row.{Row}
use Rattle.sc_terms.specs.declared.nodes.Element.{Element}
use Rattle.sc_terms.specs.declared.nodes.Element.TheVariants as elements
use Rattle.sc_terms.specs.declared.nodes.SetTerm.{SetTerm}
use Rattle.sc_terms.specs.declared.nodes.SetTerm.TheVariants as sets
use Rattle.sc_terms.specs.declared.nodes.Formula.{Formula}
use Rattle.sc_terms.specs.declared.nodes.Formula.TheVariants as formulas
use Rattle.sc_terms.specs.declared.problem.Parts.{Parts}
use Rattle.sc_terms.specs.Same.{same_truth}
use Rattle.sc_terms.specs.Lookup.{formula_at, set_at, element_at, basis_of}
use Rattle.sc_base.specs.Numbered.{item_at}
use Rattle.sc_base.specs.Integers.{has_element, without}

-- What the constants stand for, by their numbers: those of Bool, those of Int or of a declared sort, and sets, each as the list of its members.
pub record Interpretation : Type 0 where
  pub flags : ℕ → Bool
  pub numbers : ℕ → ℤ
  pub sets : ℕ → List ℤ

-- no set has an integer twice
abbrev pub IsInterpretation : Interpretation → Type 0
IsInterpretation i = (c : ℕ) → IsDistinct int_eq (i.sets c)

-- what the nodes of a problem stand for, by their numbers
pub record Valuation : Type 0 where
  pub truth : ℕ → Bool
  pub members : ℕ → List ℤ
  pub element : ℕ → ℤ
  pub int : ℕ → ℤ

abbrev pub same_elements : List ℤ → List ℤ → Bool
same_elements xs ys = list_all (has_element ys) xs && list_all (has_element xs) ys

abbrev pub smaller : ℤ → ℤ → ℤ
smaller x y = if int_lt y x then y else x

-- the least element, or 0 where there is none
abbrev pub least : List ℤ → ℤ
least [] = pos 0
least (x ∷ []) = x
least (x ∷ y ∷ ys) = smaller x (least (y ∷ ys))

-- the least integer in exactly one of the lists, or 0
abbrev pub least_difference : List ℤ → List ℤ → ℤ
least_difference xs ys = least (without xs ys ++ without ys xs)

abbrev pub members_of : Interpretation → Valuation → SetTerm → List ℤ
members_of i v (sets.Const c sort) = i.sets c
members_of i v (sets.Empty sort) = []
members_of i v (sets.Single e) = v.element e ∷ []
members_of i v (sets.Union s t) = v.members s ++ without (v.members t) (v.members s)
members_of i v (sets.Inter s t) = filter (has_element (v.members t)) (v.members s)
members_of i v (sets.Minus s t) = without (v.members s) (v.members t)

-- a cube's basis sets, each with its sign
abbrev pub signed_basis : Parts → Cube → List (ℕ × Sign)
signed_basis problem cube = zip (basis_of problem cube.component) cube.signs

abbrev pub is_plus : Sign → Bool
is_plus Plus = true
is_plus Minus = false

abbrev pub first_inside : Valuation → List (ℕ × Sign) → List ℤ
first_inside v [] = []
first_inside v (s ∷ ss) = if is_plus s.1 then v.members s.0 else first_inside v ss

abbrev pub is_inside : Valuation → List (ℕ × Sign) → ℤ → Bool
is_inside v signs x = list_all (λ s. same_truth (is_plus s.1) (has_element (v.members s.0) x)) signs

-- the elements of the first basis set with a plus, filtered by all signs
abbrev pub cube_members : Parts → Valuation → Cube → List ℤ
cube_members problem v cube = filter (is_inside v (signed_basis problem cube)) (first_inside v (signed_basis problem cube))

abbrev pub atom_value : Parts → Valuation → Atom → ℤ
atom_value problem v (atoms.Int n) = v.int n
atom_value problem v (atoms.Card s) = pos (length (v.members s))
atom_value problem v (atoms.Diff e) = v.element e
atom_value problem v (atoms.Size cube) = pos (length (cube_members problem v cube))

abbrev pub form_value : Parts → Valuation → List (ℤ × Atom) → ℤ
form_value problem v [] = pos 0
form_value problem v (p ∷ ps) = (p.0 *ℤ atom_value problem v p.1) +ℤ form_value problem v ps

abbrev pub element_of : Parts → Interpretation → Valuation → Element → ℤ
element_of problem i v (elements.Const c sort) = i.numbers c
element_of problem i v (elements.Number affine) = form_value problem v affine.form +ℤ affine.constant
element_of problem i v (elements.Diff s t) = least_difference (v.members s) (v.members t)

abbrev pub RowHolds : Parts → Valuation → Row → Type 0
RowHolds problem v row = form_value problem v row.form ≤ℤ row.bound

abbrev pub truth_of : Parts → Interpretation → Valuation → Formula → Bool
truth_of problem i v formulas.True = true
truth_of problem i v formulas.False = false
truth_of problem i v (formulas.Flag c) = i.flags c
truth_of problem i v (formulas.Not f) = not (v.truth f)
truth_of problem i v (formulas.And fs) = list_all v.truth fs
truth_of problem i v (formulas.Or fs) = list_any v.truth fs
truth_of problem i v (formulas.Iff f g) = same_truth (v.truth f) (v.truth g)
truth_of problem i v (formulas.Eq e f) = int_eq (v.element e) (v.element f)
truth_of problem i v (formulas.EqSet s t) = same_elements (v.members s) (v.members t)
truth_of problem i v (formulas.Member e s) = has_element (v.members s) (v.element e)
truth_of problem i v (formulas.Le row) = not (int_lt row.bound (form_value problem v row.form))

-- the valuation gives each node what its own equation says of its parts
pub record Fits (problem : Parts) (i : Interpretation) (v : Valuation) : Type 0 where
  pub truths : (n : ℕ) (f : Formula) → formula_at problem n ≡ Some f → v.truth n ≡ truth_of problem i v f
  pub sets : (n : ℕ) (s : SetTerm) → set_at problem n ≡ Some s → v.members n ≡ members_of i v s
  pub elements : (n : ℕ) (e : Element) → element_at problem n ≡ Some e → v.element n ≡ element_of problem i v e
  pub ints : (n c : ℕ) → item_at problem.ints n ≡ Some c → v.int n ≡ i.numbers c
  pub no_repeats : (n : ℕ) → IsDistinct int_eq (v.members n)

-- each formula of the list is true
abbrev pub AllTrue : Valuation → List ℕ → Type 0
AllTrue v fs = AllByRecursion (λ f. v.truth f ≡ true) fs
