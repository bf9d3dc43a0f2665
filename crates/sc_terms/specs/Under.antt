-- The nodes that stand under others: these themselves, their parts, the parts of those, and so on; and when each number that their evaluation meets fits 128 bits.
use Rattle.std.specs.Prelude.{◌≡◌, ℕ, true, ℤ, List, [], ◌∷◌, ◌++◌, Some, ⊤}
use Rattle.sc_base.specs.Numbered.{item_at}
use Rattle.sc_terms.specs.declared.atoms.Atom.{Atom}
use Rattle.sc_terms.specs.declared.atoms.Atom.TheVariants as atoms
use Rattle.sc_terms.specs.declared.nodes.Element.{Element}
use Rattle.sc_terms.specs.declared.nodes.Element.TheVariants as elements
use Rattle.sc_terms.specs.declared.nodes.Formula.{Formula}
use Rattle.sc_terms.specs.declared.nodes.Formula.TheVariants as formulas
use Rattle.sc_terms.specs.declared.nodes.Node.{Node}
use Rattle.sc_terms.specs.declared.nodes.Node.TheVariants as nodes
use Rattle.sc_terms.specs.declared.nodes.SetTerm.{SetTerm}
use Rattle.sc_terms.specs.declared.nodes.SetTerm.TheVariants as sets
use Rattle.sc_terms.specs.Lookup.{is_listed}
use Rattle.sc_terms.specs.Meaning.{Valuation}
use Rattle.sc_terms.specs.BankValues.{no_parts}
use Rattle.sc_terms.specs.Values.{FormulaFits, ElementFits}

-- the nodes that a node names
abbrev pub atom_parts : Atom → List ℕ
atom_parts (atoms.Int c) = []
atom_parts (atoms.Card s) = s ∷ []
atom_parts (atoms.Diff e) = e ∷ []
atom_parts (atoms.Size cube) = []

abbrev pub form_parts : List (ℤ × Atom) → List ℕ
form_parts [] = []
form_parts (p ∷ ps) = atom_parts p.1 ++ form_parts ps

abbrev pub formula_parts : Formula → List ℕ
formula_parts formulas.True = []
formula_parts formulas.False = []
formula_parts (formulas.Flag c) = []
formula_parts (formulas.Not f) = f ∷ []
formula_parts (formulas.And fs) = fs
formula_parts (formulas.Or fs) = fs
formula_parts (formulas.Iff f g) = f ∷ g ∷ []
formula_parts (formulas.Eq e f) = e ∷ f ∷ []
formula_parts (formulas.EqSet s t) = s ∷ t ∷ []
formula_parts (formulas.Member e s) = e ∷ s ∷ []
formula_parts (formulas.Le row) = form_parts row.form

abbrev pub set_parts : SetTerm → List ℕ
set_parts (sets.Const c sort) = []
set_parts (sets.Empty sort) = []
set_parts (sets.Single e) = e ∷ []
set_parts (sets.Union s t) = s ∷ t ∷ []
set_parts (sets.Inter s t) = s ∷ t ∷ []
set_parts (sets.Minus s t) = s ∷ t ∷ []

abbrev pub element_parts : Element → List ℕ
element_parts (elements.Const c sort) = []
element_parts (elements.Number affine) = form_parts affine.form
element_parts (elements.Diff s t) = s ∷ t ∷ []

abbrev pub node_parts : Node → List ℕ
node_parts (nodes.Formula f) = formula_parts f
node_parts (nodes.Set s) = set_parts s
node_parts (nodes.Element e) = element_parts e

-- the numbers of the nodes that stand under those of a list
pub data Under (bank : List Node) (tops : List ℕ) : ℕ → Type 0 where
  top : (n : ℕ) → is_listed n tops ≡ true → Under bank tops n
  part : (n m : ℕ) (x : Node) → Under bank tops n → item_at bank n ≡ Some x → is_listed m (node_parts x) ≡ true → Under bank tops m

-- each product of the node's form, the value of an Int term, the left side of an inequality, and each size in them, fits 128 bits
abbrev pub NodeFits : Valuation → Node → Type 0
NodeFits v (nodes.Formula f) = FormulaFits no_parts v f
NodeFits v (nodes.Element e) = ElementFits no_parts v e
NodeFits v (nodes.Set s) = ⊤

-- every number that an evaluation of the nodes of the list meets fits 128 bits
abbrev pub FitUnder : List Node → List ℕ → Valuation → Type 0
FitUnder bank tops v = (n : ℕ) (x : Node) → Under bank tops n → item_at bank n ≡ Some x → NodeFits v x
