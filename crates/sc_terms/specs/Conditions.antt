-- What every problem keeps: numbers name what is there, nothing is a part of itself, and each set has its component.
use Rattle.std.specs.Prelude.{◌≡◌, ℕ, ◌<◌, ◌≤◌, ◌^◌, ℤ, unsigned_abs, List, length, count_by, Some, ⊤}
use Rattle.std.specs.List.{AllByRecursion}
use Rattle.sc_terms.specs.declared.atoms.Atom.{Atom}
use Rattle.sc_terms.specs.declared.atoms.Atom.TheVariants as atoms
use Rattle.sc_terms.specs.declared.nodes.Element.{Element}
use Rattle.sc_terms.specs.declared.nodes.Element.TheVariants as elements
use Rattle.sc_terms.specs.declared.nodes.SetTerm.{SetTerm}
use Rattle.sc_terms.specs.declared.nodes.SetTerm.TheVariants as sets
use Rattle.sc_terms.specs.declared.nodes.Formula.{Formula}
use Rattle.sc_terms.specs.declared.nodes.Formula.TheVariants as formulas
use Rattle.sc_terms.specs.declared.problem.Parts.{Parts}
use Rattle.sc_terms.specs.Forms.{IsForm}
use Rattle.sc_terms.specs.Lookup.{formula_at, set_at, element_at, basis_of, is_listed}
use Rattle.sc_terms.specs.Meaning.{Interpretation, IsInterpretation, Fits}
use Rattle.sc_terms.specs.Values.{node_count, meaning}

-- a number from 1 up to the last
abbrev pub IsIn : ℕ → ℕ → Type 0
IsIn last n = (0 < n) × (n ≤ last)

abbrev pub AtomIn : Parts → Atom → Type 0
AtomIn problem (atoms.Int n) = IsIn (length problem.ints) n
AtomIn problem (atoms.Card s) = IsIn (length problem.sets) s
AtomIn problem (atoms.Diff e) = IsIn (length problem.elements) e
AtomIn problem (atoms.Size cube) = IsIn (length problem.components) cube.component

-- the atom is there, and the coefficient is below 2^126 in size
abbrev pub TermIn : Parts → ℤ × Atom → Type 0
TermIn problem p = (unsigned_abs p.0 < 2 ^ 126) × AtomIn problem p.1

abbrev pub SetIn : Parts → SetTerm → Type 0
SetIn problem (sets.Const c sort) = ⊤
SetIn problem (sets.Empty sort) = ⊤
SetIn problem (sets.Single e) = IsIn (length problem.elements) e
SetIn problem (sets.Union s t) = IsIn (length problem.sets) s × IsIn (length problem.sets) t
SetIn problem (sets.Inter s t) = IsIn (length problem.sets) s × IsIn (length problem.sets) t
SetIn problem (sets.Minus s t) = IsIn (length problem.sets) s × IsIn (length problem.sets) t

-- the form is in order, and its terms are there
abbrev pub FormIn : Parts → List (ℤ × Atom) → Type 0
FormIn problem form = IsForm form × AllByRecursion (TermIn problem) form

abbrev pub ElementIn : Parts → Element → Type 0
ElementIn problem (elements.Const c sort) = ⊤
ElementIn problem (elements.Number affine) = FormIn problem affine.form × (unsigned_abs affine.constant < 2 ^ 126)
ElementIn problem (elements.Diff s t) = IsIn (length problem.sets) s × IsIn (length problem.sets) t

abbrev pub FormulaIn : Parts → Formula → Type 0
FormulaIn problem formulas.True = ⊤
FormulaIn problem formulas.False = ⊤
FormulaIn problem (formulas.Flag c) = ⊤
FormulaIn problem (formulas.Not f) = IsIn (length problem.formulas) f
FormulaIn problem (formulas.And fs) = AllByRecursion (IsIn (length problem.formulas)) fs
FormulaIn problem (formulas.Or fs) = AllByRecursion (IsIn (length problem.formulas)) fs
FormulaIn problem (formulas.Iff f g) = IsIn (length problem.formulas) f × IsIn (length problem.formulas) g
FormulaIn problem (formulas.Eq e f) = IsIn (length problem.elements) e × IsIn (length problem.elements) f
FormulaIn problem (formulas.EqSet s t) = IsIn (length problem.sets) s × IsIn (length problem.sets) t
FormulaIn problem (formulas.Member e s) = IsIn (length problem.elements) e × IsIn (length problem.sets) s
FormulaIn problem (formulas.Le row) = FormIn problem row.form

-- a rank of each node
pub record Ranks : Type 0 where
  pub formula : ℕ → ℕ
  pub set : ℕ → ℕ
  pub element : ℕ → ℕ

-- the parts of the node have ranks below r
abbrev pub AtomBelow : Parts → Ranks → ℕ → Atom → Type 0
AtomBelow problem ranks r (atoms.Int n) = ⊤
AtomBelow problem ranks r (atoms.Card s) = ranks.set s < r
AtomBelow problem ranks r (atoms.Diff e) = ranks.element e < r
AtomBelow problem ranks r (atoms.Size cube) = AllByRecursion (λ s. ranks.set s < r) (basis_of problem cube.component)

abbrev pub FormBelow : Parts → Ranks → ℕ → List (ℤ × Atom) → Type 0
FormBelow problem ranks r form = AllByRecursion (λ p. AtomBelow problem ranks r p.1) form

abbrev pub SetBelow : Ranks → ℕ → SetTerm → Type 0
SetBelow ranks r (sets.Const c sort) = ⊤
SetBelow ranks r (sets.Empty sort) = ⊤
SetBelow ranks r (sets.Single e) = ranks.element e < r
SetBelow ranks r (sets.Union s t) = (ranks.set s < r) × (ranks.set t < r)
SetBelow ranks r (sets.Inter s t) = (ranks.set s < r) × (ranks.set t < r)
SetBelow ranks r (sets.Minus s t) = (ranks.set s < r) × (ranks.set t < r)

abbrev pub ElementBelow : Parts → Ranks → ℕ → Element → Type 0
ElementBelow problem ranks r (elements.Const c sort) = ⊤
ElementBelow problem ranks r (elements.Number affine) = FormBelow problem ranks r affine.form
ElementBelow problem ranks r (elements.Diff s t) = (ranks.set s < r) × (ranks.set t < r)

abbrev pub FormulaBelow : Parts → Ranks → ℕ → Formula → Type 0
FormulaBelow problem ranks r formulas.True = ⊤
FormulaBelow problem ranks r formulas.False = ⊤
FormulaBelow problem ranks r (formulas.Flag c) = ⊤
FormulaBelow problem ranks r (formulas.Not f) = ranks.formula f < r
FormulaBelow problem ranks r (formulas.And fs) = AllByRecursion (λ f. ranks.formula f < r) fs
FormulaBelow problem ranks r (formulas.Or fs) = AllByRecursion (λ f. ranks.formula f < r) fs
FormulaBelow problem ranks r (formulas.Iff f g) = (ranks.formula f < r) × (ranks.formula g < r)
FormulaBelow problem ranks r (formulas.Eq e f) = (ranks.element e < r) × (ranks.element f < r)
FormulaBelow problem ranks r (formulas.EqSet s t) = (ranks.set s < r) × (ranks.set t < r)
FormulaBelow problem ranks r (formulas.Member e s) = (ranks.element e < r) × (ranks.set s < r)
FormulaBelow problem ranks r (formulas.Le row) = FormBelow problem ranks r row.form

-- each node's parts have smaller ranks, all of which are below the depth
pub record Descends (problem : Parts) (depth : ℕ) (ranks : Ranks) : Type 0 where
  pub formulas : (n : ℕ) (f : Formula) → formula_at problem n ≡ Some f → (ranks.formula n < depth) × FormulaBelow problem ranks (ranks.formula n) f
  pub sets : (n : ℕ) (s : SetTerm) → set_at problem n ≡ Some s → (ranks.set n < depth) × SetBelow ranks (ranks.set n) s
  pub elements : (n : ℕ) (e : Element) → element_at problem n ≡ Some e → (ranks.element n < depth) × ElementBelow problem ranks (ranks.element n) e

-- no node is a part of itself, at any depth
abbrev pub IsAcyclic : Parts → Type 0
IsAcyclic problem = (ranks : Ranks) × Descends problem (node_count problem) ranks

-- in how many components a set stands
abbrev pub home_count : Parts → ℕ → ℕ
home_count problem s = count_by (is_listed s) problem.components

-- the empty sets stand in no component, each other set in one
abbrev pub homes_due : SetTerm → ℕ
homes_due (sets.Empty sort) = 0
homes_due _ = 1

pub record IsProblem (problem : Parts) : Type 0 where
  pub roots : AllByRecursion (IsIn (length problem.formulas)) problem.roots
  pub assertions : length problem.assertions ≡ length problem.roots
  pub formulas : AllByRecursion (FormulaIn problem) problem.formulas
  pub sets : AllByRecursion (SetIn problem) problem.sets
  pub elements : AllByRecursion (ElementIn problem) problem.elements
  pub components : AllByRecursion (λ c. AllByRecursion (IsIn (length problem.sets)) c) problem.components
  pub homes : (n : ℕ) (s : SetTerm) → set_at problem n ≡ Some s → home_count problem n ≡ homes_due s
  pub bases : AllByRecursion (λ b. AllByRecursion (IsIn (length problem.sets)) b) problem.bases
  pub bases_match : length problem.bases ≡ length problem.components
  pub few_formulas : length problem.formulas < 2 ^ 32
  pub few_sets : length problem.sets < 2 ^ 32
  pub few_elements : length problem.elements < 2 ^ 32
  pub few_components : length problem.components < 2 ^ 32
  pub acyclic : IsAcyclic problem

-- Each interpretation gives the nodes of a problem values that fit every node's own equation.
abbrev pub MeaningsFit : Type 0
MeaningsFit = (problem : Parts) → IsProblem problem → (i : Interpretation) → IsInterpretation i → Fits problem i (meaning problem i)
