-- Values found match those that the interpretation gives, where those of the parts do.
use Rattle.std.proofs.Common.{◌≡◌, ℕ, zero, suc, Bool, ◌||◌, ◌&&◌, ◌++◌, ℤ, pos, ◌+ℤ◌, ◌*ℤ◌, List, [], ◌∷◌, length, refl, sym, ap, ◌∙◌}
use Rattle.std.specs.Prelude.{filter, zip, FitsSigned}
use Rattle.std.specs.Int.{w128}
use Rattle.std.specs.List.{list_any, list_all, AllByRecursion, IsDistinct}
use Rattle.std.specs.Ordering.{int_eq}
use Rattle.sc_base.specs.Integers.{has_element, in_order, without}
use Rattle.sc_base.proofs.Integers.{has_element-in_order}
use Rattle.sc_runs.proofs.Elements.{length-in_order, in_order-union, in_order-inter, in_order-minus}
use Rattle.sc_terms.specs.declared.atoms.Atom.{Atom}
use Rattle.sc_terms.specs.declared.atoms.Atom.TheVariants as atoms
use Rattle.sc_terms.specs.declared.atoms.Cube.{Cube}
use Rattle.sc_terms.specs.declared.nodes.Element.{Element}
use Rattle.sc_terms.specs.declared.nodes.Element.TheVariants as elements
use Rattle.sc_terms.specs.declared.nodes.Formula.{Formula}
use Rattle.sc_terms.specs.declared.nodes.Formula.TheVariants as formulas
use Rattle.sc_terms.specs.declared.nodes.Node.{Node}
use Rattle.sc_terms.specs.declared.nodes.Node.TheVariants as nodes
use Rattle.sc_terms.specs.declared.nodes.SetTerm.{SetTerm}
use Rattle.sc_terms.specs.declared.nodes.SetTerm.TheVariants as sets
use Rattle.sc_terms.specs.BankValues.{no_parts}
use Rattle.sc_terms.specs.Lookup.{basis_of}
use Rattle.sc_terms.specs.Meaning.{Interpretation, Valuation, same_elements, is_inside, first_inside, cube_members, atom_value, form_value, truth_of, members_of, element_of}
use Rattle.sc_terms.specs.Values.{TermFits, FormulaFits, ElementFits}
use Rattle.sc_meaning.proofs.Sets.{in_order_again, all_in_order}
use Rattle.sc_meaning.specs.Worths.{Matches, IsPlain}
use Rattle.sc_terms.specs.Under.{atom_parts, form_parts, formula_parts, set_parts, element_parts, node_parts, NodeFits}

-- a bank has no regions
no_basis : (n : ℕ) → basis_of no_parts n ≡ []
no_basis zero = refl
no_basis (suc n) = refl

no_cube : (u : Valuation) (cube : Cube) → cube_members no_parts u cube ≡ []
no_cube u cube = ap (λ basis. filter (is_inside u (zip basis cube.signs)) (first_inside u (zip basis cube.signs))) (no_basis cube.component)

-- tests on lists in any order
all_same_test : (s t : ℤ → Bool) (xs : List ℤ) → ((x : ℤ) → s x ≡ t x) → list_all s xs ≡ list_all t xs
all_same_test s t [] h = refl
all_same_test s t (x ∷ xs) h = λ i. h x i && all_same_test s t xs h i

module _ (i : Interpretation) (v w : Valuation) (distinct : (n : ℕ) → IsDistinct int_eq (v.members n)) (ints : (c : ℕ) → w.int c ≡ v.int c) where
  -- the values at the numbers of a list match
  abbrev pub MatchAll : List ℕ → Type 0
  MatchAll ns = AllByRecursion (Matches v w) ns

  atom_same : (a : Atom) → MatchAll (atom_parts a) → atom_value no_parts w a ≡ atom_value no_parts v a
  atom_same (atoms.Int c) h = ints c
  atom_same (atoms.Card s) h = ap (λ xs. pos (length xs)) h.0.members ∙ ap pos (length-in_order (v.members s) (distinct s))
  atom_same (atoms.Diff e) h = h.0.element
  atom_same (atoms.Size cube) h = ap (λ xs. pos (length xs)) (no_cube w cube ∙ sym (no_cube v cube))

  parts_split : (ms ns : List ℕ) → MatchAll (ms ++ ns) → MatchAll ms × MatchAll ns
  parts_split [] ns h = (tt, h)
  parts_split (m ∷ ms) ns h = let p = parts_split ms ns h.1 in ((h.0, p.0), p.1)

  pub form_same : (form : List (ℤ × Atom)) → MatchAll (form_parts form) → form_value no_parts w form ≡ form_value no_parts v form
  form_same [] h = refl
  form_same (p ∷ ps) h =
      let q = parts_split (atom_parts p.1) (form_parts ps) h in
      λ j. (p.0 *ℤ atom_same p.1 q.0 j) +ℤ form_same ps q.1 j

  pub terms_fit : (form : List (ℤ × Atom)) → MatchAll (form_parts form) → AllByRecursion (TermFits no_parts w) form ≡ AllByRecursion (TermFits no_parts v) form
  terms_fit [] h = refl
  terms_fit (p ∷ ps) h =
      let q = parts_split (atom_parts p.1) (form_parts ps) h in
      λ j. (FitsSigned w128 (p.0 *ℤ atom_same p.1 q.0 j) × FitsSigned w128 (atom_same p.1 q.0 j)) × terms_fit ps q.1 j

  all_same : (fs : List ℕ) → MatchAll fs → list_all w.truth fs ≡ list_all v.truth fs
  all_same [] h = refl
  all_same (f ∷ fs) h = λ j. h.0.truth j && all_same fs h.1 j

  any_same : (fs : List ℕ) → MatchAll fs → list_any w.truth fs ≡ list_any v.truth fs
  any_same [] h = refl
  any_same (f ∷ fs) h = λ j. h.0.truth j || any_same fs h.1 j

  has_same : (xs : List ℤ) (x : ℤ) → has_element (in_order xs) x ≡ has_element xs x
  has_same xs x = has_element-in_order xs x

  elements_same : (xs ys : List ℤ) → same_elements (in_order xs) (in_order ys) ≡ same_elements xs ys
  elements_same xs ys = λ j. one xs ys j && one ys xs j
    where
      one : (xs ys : List ℤ) → list_all (has_element (in_order ys)) (in_order xs) ≡ list_all (has_element ys) xs
      one xs ys = all_same_test (has_element (in_order ys)) (has_element ys) (in_order xs) (has_element-in_order ys) ∙ all_in_order (has_element ys) xs

  pub truth_same : (f : Formula) → MatchAll (formula_parts f) → truth_of no_parts i w f ≡ truth_of no_parts i v f
  truth_same formulas.True h = refl
  truth_same formulas.False h = refl
  truth_same (formulas.Flag c) h = refl
  truth_same (formulas.Not f) h = rw h.0.truth refl
  truth_same (formulas.And fs) h = all_same fs h
  truth_same (formulas.Or fs) h = any_same fs h
  truth_same (formulas.Iff f g) h = rw (h.0.truth, h.1.0.truth) refl
  truth_same (formulas.Eq e f) h = rw (h.0.element, h.1.0.element) refl
  truth_same (formulas.EqSet s t) h = rw (h.0.members, h.1.0.members) (elements_same (v.members s) (v.members t))
  truth_same (formulas.Member e s) h = rw (h.0.element, h.1.0.members) (has_same (v.members s) (v.element e))
  truth_same (formulas.Le row) h = rw (form_same row.form h) refl

  pub members_same : (s : SetTerm) → MatchAll (set_parts s) → in_order (members_of i w s) ≡ in_order (members_of i v s)
  members_same (sets.Const c sort) h = refl
  members_same (sets.Empty sort) h = refl
  members_same (sets.Single e) h = ap (λ x. in_order (x ∷ [])) h.0.element
  members_same (sets.Union s t) h = rw (h.0.members, h.1.0.members) (in_order-union (v.members s) (v.members t))
  members_same (sets.Inter s t) h =
      rw (h.0.members, h.1.0.members) (ap in_order (in_order-inter (v.members s) (v.members t)) ∙ in_order_again (filter (has_element (v.members t)) (v.members s)))
  members_same (sets.Minus s t) h =
      rw (h.0.members, h.1.0.members) (ap in_order (in_order-minus (v.members s) (v.members t)) ∙ in_order_again (without (v.members s) (v.members t)))

  pub element_same : (e : Element) → IsPlain (nodes.Element e) → MatchAll (element_parts e) → element_of no_parts i w e ≡ element_of no_parts i v e
  element_same (elements.Const c sort) q h = refl
  element_same (elements.Number affine) q h = ap (λ z. z +ℤ affine.constant) (form_same affine.form h)
  element_same (elements.Diff s t) q h = absurd q

  formula_fits : (f : Formula) → MatchAll (formula_parts f) → FormulaFits no_parts w f ≡ FormulaFits no_parts v f
  formula_fits formulas.True h = refl
  formula_fits formulas.False h = refl
  formula_fits (formulas.Flag c) h = refl
  formula_fits (formulas.Not f) h = refl
  formula_fits (formulas.And fs) h = refl
  formula_fits (formulas.Or fs) h = refl
  formula_fits (formulas.Iff f g) h = refl
  formula_fits (formulas.Eq e f) h = refl
  formula_fits (formulas.EqSet s t) h = refl
  formula_fits (formulas.Member e s) h = refl
  formula_fits (formulas.Le row) h = λ j. terms_fit row.form h j × FitsSigned w128 (form_same row.form h j)

  element_fits : (e : Element) → MatchAll (element_parts e) → ElementFits no_parts w e ≡ ElementFits no_parts v e
  element_fits (elements.Const c sort) h = refl
  element_fits (elements.Number affine) h = λ j. terms_fit affine.form h j × FitsSigned w128 (form_same affine.form h j +ℤ affine.constant)
  element_fits (elements.Diff s t) h = refl

  pub node_fits : (x : Node) → MatchAll (node_parts x) → NodeFits w x ≡ NodeFits v x
  node_fits (nodes.Formula f) h = formula_fits f h
  node_fits (nodes.Set s) h = refl
  node_fits (nodes.Element e) h = element_fits e h
