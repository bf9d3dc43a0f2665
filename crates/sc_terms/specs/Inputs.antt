-- What is hashed of a node.
use Rattle.std.specs.Prelude.{ℕ, ◌++◌, List, ℤ}
use Rattle.std.specs.Hash as fed
use Rattle.sc_terms.specs.declared.atoms.Sign.{Sign}
use Rattle.sc_terms.specs.declared.atoms.Sign.TheVariants.{Plus, Minus}
use Rattle.sc_terms.specs.declared.atoms.Cube.{Cube}
use Rattle.sc_terms.specs.declared.atoms.Atom.{Atom}
use Rattle.sc_terms.specs.declared.atoms.Atom.TheVariants as atoms
use Rattle.sc_terms.specs.declared.form.Row.{Row}
use Rattle.sc_terms.specs.declared.form.Affine.{Affine}
use Rattle.sc_terms.specs.declared.nodes.Element.{Element}
use Rattle.sc_terms.specs.declared.nodes.Element.TheVariants as elements
use Rattle.sc_terms.specs.declared.nodes.SetTerm.{SetTerm}
use Rattle.sc_terms.specs.declared.nodes.SetTerm.TheVariants as sets
use Rattle.sc_terms.specs.declared.nodes.Formula.{Formula}
use Rattle.sc_terms.specs.declared.nodes.Formula.TheVariants as formulas
use Rattle.sc_terms.specs.declared.nodes.Node.{Node}
use Rattle.sc_terms.specs.declared.nodes.Node.TheVariants as nodes

abbrev pub sign_input : Sign → List (List ℕ)
sign_input Plus = fed.u8 0
sign_input Minus = fed.u8 1

abbrev pub cube_input : Cube → List (List ℕ)
cube_input cube = fed.u32 cube.component ++ fed.slice sign_input cube.signs

abbrev pub atom_input : Atom → List (List ℕ)
atom_input (atoms.Int n) = fed.u8 0 ++ fed.u32 n
atom_input (atoms.Card n) = fed.u8 1 ++ fed.u32 n
atom_input (atoms.Diff n) = fed.u8 2 ++ fed.u32 n
atom_input (atoms.Size cube) = fed.u8 3 ++ cube_input cube

abbrev pub term_input : ℤ × Atom → List (List ℕ)
term_input p = fed.i128 p.0 ++ atom_input p.1

abbrev pub form_input : List (ℤ × Atom) → List (List ℕ)
form_input form = fed.slice term_input form

abbrev pub row_input : Row → List (List ℕ)
row_input row = form_input row.form ++ fed.i128 row.bound

abbrev pub affine_input : Affine → List (List ℕ)
affine_input affine = form_input affine.form ++ fed.i128 affine.constant

abbrev pub set_input : SetTerm → List (List ℕ)
set_input (sets.Const n sort) = fed.u8 0 ++ fed.u32 n
set_input (sets.Empty sort) = fed.u8 1
set_input (sets.Single n) = fed.u8 2 ++ fed.u32 n
set_input (sets.Union a b) = fed.u8 3 ++ fed.u32 a ++ fed.u32 b
set_input (sets.Inter a b) = fed.u8 4 ++ fed.u32 a ++ fed.u32 b
set_input (sets.Minus a b) = fed.u8 5 ++ fed.u32 a ++ fed.u32 b

abbrev pub element_input : Element → List (List ℕ)
element_input (elements.Const n sort) = fed.u8 0 ++ fed.u32 n
element_input (elements.Number affine) = fed.u8 1 ++ affine_input affine
element_input (elements.Diff a b) = fed.u8 2 ++ fed.u32 a ++ fed.u32 b

-- the place of the variant among the variants of formulas
abbrev pub formula_kind : Formula → ℕ
formula_kind formulas.True = 0
formula_kind formulas.False = 1
formula_kind (formulas.Flag n) = 2
formula_kind (formulas.Not n) = 3
formula_kind (formulas.And parts) = 4
formula_kind (formulas.Or parts) = 5
formula_kind (formulas.Iff a b) = 6
formula_kind (formulas.Eq a b) = 7
formula_kind (formulas.EqSet a b) = 8
formula_kind (formulas.Member a b) = 9
formula_kind (formulas.Le row) = 10

abbrev pub formula_input : Formula → List (List ℕ)
formula_input formulas.True = fed.u8 0
formula_input formulas.False = fed.u8 1
formula_input (formulas.Flag n) = fed.u8 2 ++ fed.u32 n
formula_input (formulas.Not n) = fed.u8 3 ++ fed.u32 n
formula_input (formulas.And parts) = fed.u8 4 ++ fed.slice fed.u32 parts
formula_input (formulas.Or parts) = fed.u8 5 ++ fed.slice fed.u32 parts
formula_input (formulas.Iff a b) = fed.u8 6 ++ fed.u32 a ++ fed.u32 b
formula_input (formulas.Eq a b) = fed.u8 7 ++ fed.u32 a ++ fed.u32 b
formula_input (formulas.EqSet a b) = fed.u8 8 ++ fed.u32 a ++ fed.u32 b
formula_input (formulas.Member a b) = fed.u8 9 ++ fed.u32 a ++ fed.u32 b
formula_input (formulas.Le row) = fed.u8 10 ++ row_input row

abbrev pub node_input : Node → List (List ℕ)
node_input (nodes.Formula f) = fed.u8 0 ++ formula_input f
node_input (nodes.Set s) = fed.u8 1 ++ set_input s
node_input (nodes.Element e) = fed.u8 2 ++ element_input e
