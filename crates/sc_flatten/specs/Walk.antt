-- The order in which a walk meets the nodes under a list of formulas: a node, then its parts from left to right.
use Rattle.std.specs.Prelude.{ℕ, zero, suc, if◌then◌else◌, nat_eq, ℤ, List, [], ◌∷◌, ◌++◌, length, Option, Some}
use Rattle.std.specs.List.{list_any, flat_map}
use Rattle.indexmap.specs.IndexSet.{insert_all}
use Rattle.sc_base.specs.Numbered.{item_at}
use Rattle.sc_terms.specs.declared.atoms.Atom.{Atom}
use Rattle.sc_terms.specs.declared.atoms.Atom.TheVariants as atoms
use Rattle.sc_terms.specs.declared.nodes.Element.{Element}
use Rattle.sc_terms.specs.declared.nodes.Element.TheVariants as elements
use Rattle.sc_terms.specs.declared.nodes.Formula.{Formula}
use Rattle.sc_terms.specs.declared.nodes.Formula.TheVariants as formulas
use Rattle.sc_terms.specs.declared.nodes.Node.{Node}
use Rattle.sc_terms.specs.declared.nodes.Node.TheVariants as nodes
use Rattle.sc_terms.specs.declared.nodes.SetTerm.{SetTerm}
use Rattle.sc_terms.specs.declared.nodes.SetTerm.TheVariants as sets

-- ---- the parts of a node from left to right; those of a form are the sets whose cards it has
abbrev pub card_of : Atom → List ℕ
card_of (atoms.Card s) = s ∷ []
card_of _ = []

abbrev pub form_parts : List (ℤ × Atom) → List ℕ
form_parts form = flat_map (λ p. card_of p.1) form

abbrev pub formula_parts : Formula → List ℕ
formula_parts formulas.True = []
formula_parts formulas.False = []
formula_parts (formulas.Flag c) = []
formula_parts (formulas.Not f) = f ∷ []
formula_parts (formulas.And fs) = fs
formula_parts (formulas.Or fs) = fs
formula_parts (formulas.Iff f g) = f ∷ g ∷ []
formula_parts (formulas.Eq e f) = e ∷ f ∷ []
formula_parts (formulas.EqSet s t) = s ∷ t ∷ []
formula_parts (formulas.Member e s) = e ∷ s ∷ []
formula_parts (formulas.Le row) = form_parts row.form

abbrev pub set_parts : SetTerm → List ℕ
set_parts (sets.Const c sort) = []
set_parts (sets.Empty sort) = []
set_parts (sets.Single e) = e ∷ []
set_parts (sets.Union s t) = s ∷ t ∷ []
set_parts (sets.Inter s t) = s ∷ t ∷ []
set_parts (sets.Minus s t) = s ∷ t ∷ []

abbrev pub element_parts : Element → List ℕ
element_parts (elements.Const c sort) = []
element_parts (elements.Number affine) = form_parts affine.form
element_parts (elements.Diff s t) = s ∷ t ∷ []

abbrev pub node_parts : Node → List ℕ
node_parts (nodes.Formula f) = formula_parts f
node_parts (nodes.Set s) = set_parts s
node_parts (nodes.Element e) = element_parts e

abbrev pub parts_at : Option Node → List ℕ
parts_at (Some x) = node_parts x
parts_at _ = []

-- ---- the Int constants that are atoms of a node
abbrev pub constant_of : Atom → List ℕ
constant_of (atoms.Int c) = c ∷ []
constant_of _ = []

abbrev pub form_constants : List (ℤ × Atom) → List ℕ
form_constants form = flat_map (λ p. constant_of p.1) form

abbrev pub constants_at : Option Node → List ℕ
constants_at (Some (nodes.Formula (formulas.Le row))) = form_constants row.form
constants_at (Some (nodes.Element (elements.Number affine))) = form_constants affine.form
constants_at _ = []

-- ---- the walk
-- the numbers that are met under the node with number n, down to a depth: n, and then what is met under each of its parts
abbrev pub preorder : List Node → ℕ → ℕ → List ℕ
preorder bank zero n = []
preorder bank (suc depth) n = n ∷ flat_map (preorder bank depth) (parts_at (item_at bank n))

-- what is met under the formulas one after the other; parts have smaller numbers, so no node lies deeper than the bank is long
abbrev pub met : List Node → List ℕ → List ℕ
met bank assertions = flat_map (preorder bank (length bank)) assertions

-- each number once, where it first stands
abbrev pub firsts : List ℕ → List ℕ
firsts ns = insert_all nat_eq [] ns

-- the nodes in the order in which they are first met
abbrev pub order_of : List Node → List ℕ → List ℕ
order_of bank assertions = firsts (met bank assertions)

-- ---- a visit to the node with number n, where some nodes are met and others pending: the first time it is met, and its parts are pending
abbrev pub visited : ℕ → List ℕ → List ℕ
visited n met = if list_any (nat_eq n) met then met else met ++ n ∷ []

abbrev pub pending_after : List Node → ℕ → List ℕ → List ℕ → List ℕ
pending_after bank n met pending = if list_any (nat_eq n) met then pending else parts_at (item_at bank n) ++ pending
