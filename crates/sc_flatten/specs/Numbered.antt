-- When a numbering has all that the nodes that it numbers name.
use Rattle.std.specs.Prelude.{◌≡◌, ℕ, ◌<◌, ◌^◌, true, ℤ, unsigned_abs, List, length, Option, Some, ⊤}
use Rattle.std.specs.List.{AllByRecursion}
use Rattle.sc_base.specs.Numbered.{item_at}
use Rattle.sc_terms.specs.declared.atoms.Atom.{Atom}
use Rattle.sc_terms.specs.declared.atoms.Atom.TheVariants as atoms
use Rattle.sc_terms.specs.declared.nodes.Element.{Element}
use Rattle.sc_terms.specs.declared.nodes.Element.TheVariants as elements
use Rattle.sc_terms.specs.declared.nodes.Formula.{Formula}
use Rattle.sc_terms.specs.declared.nodes.Formula.TheVariants as formulas
use Rattle.sc_terms.specs.declared.nodes.Node.{Node}
use Rattle.sc_terms.specs.declared.nodes.Node.TheVariants as nodes
use Rattle.sc_terms.specs.declared.nodes.SetTerm.{SetTerm}
use Rattle.sc_terms.specs.declared.nodes.SetTerm.TheVariants as sets
use Rattle.sc_terms.specs.Forms.{IsForm}
use Rattle.sc_terms.specs.Lookup.{is_listed}
use Rattle.sc_flatten.specs.Stock.{Numbering}

-- the number stands in the list
abbrev pub IsAmong : List ℕ → ℕ → Type 0
IsAmong ns n = is_listed n ns ≡ true

abbrev pub AtomListed : Numbering → Atom → Type 0
AtomListed by (atoms.Int c) = IsAmong by.ints c
AtomListed by (atoms.Card s) = IsAmong by.sets s
AtomListed by _ = ⊥

abbrev pub TermListed : Numbering → ℤ × Atom → Type 0
TermListed by p = (unsigned_abs p.0 < 2 ^ 126) × AtomListed by p.1

abbrev pub FormListed : Numbering → List (ℤ × Atom) → Type 0
FormListed by form = IsForm form × AllByRecursion (TermListed by) form

abbrev pub FormulaListed : Numbering → Formula → Type 0
FormulaListed by formulas.True = ⊤
FormulaListed by formulas.False = ⊤
FormulaListed by (formulas.Flag c) = ⊤
FormulaListed by (formulas.Not f) = IsAmong by.formulas f
FormulaListed by (formulas.And fs) = AllByRecursion (IsAmong by.formulas) fs
FormulaListed by (formulas.Or fs) = AllByRecursion (IsAmong by.formulas) fs
FormulaListed by (formulas.Iff f g) = IsAmong by.formulas f × IsAmong by.formulas g
FormulaListed by (formulas.Eq e f) = IsAmong by.elements e × IsAmong by.elements f
FormulaListed by (formulas.EqSet s t) = IsAmong by.sets s × IsAmong by.sets t
FormulaListed by (formulas.Member e s) = IsAmong by.elements e × IsAmong by.sets s
FormulaListed by (formulas.Le row) = FormListed by row.form

abbrev pub SetListed : Numbering → SetTerm → Type 0
SetListed by (sets.Const c sort) = ⊤
SetListed by (sets.Empty sort) = ⊤
SetListed by (sets.Single e) = IsAmong by.elements e
SetListed by (sets.Union s t) = IsAmong by.sets s × IsAmong by.sets t
SetListed by (sets.Inter s t) = IsAmong by.sets s × IsAmong by.sets t
SetListed by (sets.Minus s t) = IsAmong by.sets s × IsAmong by.sets t

abbrev pub ElementListed : Numbering → Element → Type 0
ElementListed by (elements.Const c sort) = ⊤
ElementListed by (elements.Number affine) = FormListed by affine.form × (unsigned_abs affine.constant < 2 ^ 126)
ElementListed by (elements.Diff s t) = ⊥

-- there is a node of the kind, and what it names is numbered
abbrev pub FormulaListedAt : Numbering → Option Node → Type 0
FormulaListedAt by (Some (nodes.Formula f)) = FormulaListed by f
FormulaListedAt by _ = ⊥

abbrev pub SetListedAt : Numbering → Option Node → Type 0
SetListedAt by (Some (nodes.Set s)) = SetListed by s
SetListedAt by _ = ⊥

abbrev pub ElementListedAt : Numbering → Option Node → Type 0
ElementListedAt by (Some (nodes.Element e)) = ElementListed by e
ElementListedAt by _ = ⊥

-- The numbering has the assertions, and what each node that it has names.
pub record IsWhole (bank : List Node) (assertions : List ℕ) (by : Numbering) : Type 0 where
  pub roots : AllByRecursion (IsAmong by.formulas) assertions
  pub formulas : AllByRecursion (λ n. FormulaListedAt by (item_at bank n)) by.formulas
  pub sets : AllByRecursion (λ n. SetListedAt by (item_at bank n)) by.sets
  pub elements : AllByRecursion (λ n. ElementListedAt by (item_at bank n)) by.elements
  pub few_formulas : length by.formulas < 2 ^ 31
  pub few_sets : length by.sets < 2 ^ 31
  pub few_elements : length by.elements < 2 ^ 31
