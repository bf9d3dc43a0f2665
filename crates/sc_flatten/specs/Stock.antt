-- The stock: the problem of a list of a bank's formulas, whose nodes have new numbers by the order in which a walk meets them.
use Rattle.std.specs.Prelude.{ℕ, ◌+◌, nat_eq, if◌then◌else◌, ℤ, List, [], ◌∷◌, ◌++◌, map, filter, Option, Some}
use Rattle.std.specs.List.{position_or_len, flat_map}
use Rattle.std.specs.Ordering.{is_lt}
use Rattle.sc_base.specs.Numbered.{item_at}
use Rattle.sc_terms.specs.declared.atoms.Atom.{Atom}
use Rattle.sc_terms.specs.declared.atoms.Atom.TheVariants as atoms
use Rattle.sc_terms.specs.declared.nodes.Element.{Element}
use Rattle.sc_terms.specs.declared.nodes.Element.TheVariants as elements
use Rattle.sc_terms.specs.declared.nodes.Formula.{Formula}
use Rattle.sc_terms.specs.declared.nodes.Formula.TheVariants as formulas
use Rattle.sc_terms.specs.declared.nodes.Node.{Node}
use Rattle.sc_terms.specs.declared.nodes.Node.TheVariants as nodes
use Rattle.sc_terms.specs.declared.nodes.SetTerm.{SetTerm}
use Rattle.sc_terms.specs.declared.nodes.SetTerm.TheVariants as sets
use Rattle.sc_terms.specs.declared.nodes.Sort.TheVariants as sorts
use Rattle.sc_terms.specs.declared.problem.Parts.{Parts}
use Rattle.sc_terms.specs.Bank.{is_formula, is_set, is_element}
use Rattle.sc_terms.specs.Forms.{atom_cmp}
use Rattle.sc_flatten.specs.Walk.{constants_at, firsts, order_of}
use Rattle.sc_flatten.specs.Classes.{pairs_of, diff_of_pair, components_of, bases_of}

-- ---- numbers
-- The bank's formulas, set terms and elements, and the Int constants, that have numbers in the stock: the n-th of each list has the number n.
pub record Numbering : Type 0 where
  pub formulas : List ℕ
  pub sets : List ℕ
  pub elements : List ℕ
  pub ints : List ℕ

-- nodes are numbered in the given order, each among its kind, and Int constants where they are first met in it
abbrev pub numbering_by : List Node → List ℕ → Numbering
numbering_by bank order =
    record {
      formulas = filter (λ n. is_formula (item_at bank n)) order;
      sets = filter (λ n. is_set (item_at bank n)) order;
      elements = filter (λ n. is_element (item_at bank n)) order;
      ints = firsts (flat_map (λ n. constants_at (item_at bank n)) order);
    }

abbrev pub numbering_of : List Node → List ℕ → Numbering
numbering_of bank assertions = numbering_by bank (order_of bank assertions)

-- the number of an item of a list, from 1
unfoldable pub number_in : List ℕ → ℕ → ℕ
number_in ns n = position_or_len (nat_eq n) ns + 1

-- ---- nodes by their new numbers
abbrev pub atom_in : Numbering → Atom → Atom
atom_in by (atoms.Int c) = atoms.Int (number_in by.ints c)
atom_in by (atoms.Card s) = atoms.Card (number_in by.sets s)
atom_in by a = a

-- a term at its place in a form
abbrev pub placed_term : ℤ × Atom → List (ℤ × Atom) → List (ℤ × Atom)
placed_term p [] = p ∷ []
placed_term p (q ∷ qs) = if is_lt (atom_cmp p.1 q.1) then p ∷ q ∷ qs else q ∷ placed_term p qs

-- the terms are in order by the new numbers of their atoms
abbrev pub form_in : Numbering → List (ℤ × Atom) → List (ℤ × Atom)
form_in by [] = []
form_in by (p ∷ ps) = placed_term (p.0, atom_in by p.1) (form_in by ps)

abbrev pub formula_in : Numbering → Formula → Formula
formula_in by formulas.True = formulas.True
formula_in by formulas.False = formulas.False
formula_in by (formulas.Flag c) = formulas.Flag c
formula_in by (formulas.Not f) = formulas.Not (number_in by.formulas f)
formula_in by (formulas.And fs) = formulas.And (map (number_in by.formulas) fs)
formula_in by (formulas.Or fs) = formulas.Or (map (number_in by.formulas) fs)
formula_in by (formulas.Iff f g) = formulas.Iff (number_in by.formulas f) (number_in by.formulas g)
formula_in by (formulas.Eq e f) = formulas.Eq (number_in by.elements e) (number_in by.elements f)
formula_in by (formulas.EqSet s t) = formulas.EqSet (number_in by.sets s) (number_in by.sets t)
formula_in by (formulas.Member e s) = formulas.Member (number_in by.elements e) (number_in by.sets s)
formula_in by (formulas.Le row) = formulas.Le (record { form = form_in by row.form; bound = row.bound })

abbrev pub set_in : Numbering → SetTerm → SetTerm
set_in by (sets.Const c sort) = sets.Const c sort
set_in by (sets.Empty sort) = sets.Empty sort
set_in by (sets.Single e) = sets.Single (number_in by.elements e)
set_in by (sets.Union s t) = sets.Union (number_in by.sets s) (number_in by.sets t)
set_in by (sets.Inter s t) = sets.Inter (number_in by.sets s) (number_in by.sets t)
set_in by (sets.Minus s t) = sets.Minus (number_in by.sets s) (number_in by.sets t)

abbrev pub element_in : Numbering → Element → Element
element_in by (elements.Const c sort) = elements.Const c sort
element_in by (elements.Number affine) = elements.Number (record { form = form_in by affine.form; constant = affine.constant })
element_in by (elements.Diff s t) = elements.Diff (number_in by.sets s) (number_in by.sets t)

-- the node of each kind by its new numbers; the rest is for numbers that have no such node
abbrev pub formula_by : Numbering → Option Node → Formula
formula_by by (Some (nodes.Formula f)) = formula_in by f
formula_by by _ = formulas.True

abbrev pub set_by : Numbering → Option Node → SetTerm
set_by by (Some (nodes.Set s)) = set_in by s
set_by by _ = sets.Empty sorts.SetInt

abbrev pub element_by : Numbering → Option Node → Element
element_by by (Some (nodes.Element e)) = element_in by e
element_by by _ = elements.Diff 0 0

-- ---- the problem
abbrev pub formulas_by : List Node → Numbering → List Formula
formulas_by bank by = map (λ n. formula_by by (item_at bank n)) by.formulas

abbrev pub sets_by : List Node → Numbering → List SetTerm
sets_by bank by = map (λ n. set_by by (item_at bank n)) by.sets

abbrev pub walked_by : List Node → Numbering → List Element
walked_by bank by = map (λ n. element_by by (item_at bank n)) by.elements

-- the elements that the walk meets, and then the differing elements
abbrev pub elements_by : List Node → Numbering → List Element
elements_by bank by = walked_by bank by ++ map diff_of_pair (pairs_of (formulas_by bank by))

abbrev pub problem_by : List Node → List ℕ → Numbering → Parts
problem_by bank assertions by =
    record {
      roots = map (number_in by.formulas) assertions;
      assertions = assertions;
      formulas = formulas_by bank by;
      sets = sets_by bank by;
      elements = elements_by bank by;
      ints = by.ints;
      components = components_of (sets_by bank by) (formulas_by bank by);
      bases = bases_of (sets_by bank by) (components_of (sets_by bank by) (formulas_by bank by));
    }

-- the stock of a list of a bank's formulas
abbrev pub stock : List Node → List ℕ → Parts
stock bank assertions = problem_by bank assertions (numbering_of bank assertions)
