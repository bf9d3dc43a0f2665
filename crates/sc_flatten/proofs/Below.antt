-- The parts of a node of a bank have smaller numbers than the node.
use Rattle.std.proofs.Common.{◌≡◌, ℕ, zero, suc, ◌<◌, Bool, true, false, ℤ, List, [], ◌∷◌, length, take, Option, Some, None, refl, sym, ◌∙◌, arith}
use Rattle.std.specs.Prelude.{slice_get}
use Rattle.std.specs.List.{AllByRecursion}
use Rattle.std.proofs.lemmas.Bool.{false≢true}
use Rattle.sc_base.specs.Numbered.{item_at}
use Rattle.sc_base.proofs.Integers.{all_weaker}
use Rattle.sc_terms.specs.declared.atoms.Atom.{Atom}
use Rattle.sc_terms.specs.declared.atoms.Atom.TheVariants as atoms
use Rattle.sc_terms.specs.declared.nodes.Element.{Element}
use Rattle.sc_terms.specs.declared.nodes.Element.TheVariants as elements
use Rattle.sc_terms.specs.declared.nodes.Formula.{Formula}
use Rattle.sc_terms.specs.declared.nodes.Formula.TheVariants as formulas
use Rattle.sc_terms.specs.declared.nodes.Node.{Node}
use Rattle.sc_terms.specs.declared.nodes.Node.TheVariants as nodes
use Rattle.sc_terms.specs.declared.nodes.SetTerm.{SetTerm}
use Rattle.sc_terms.specs.declared.nodes.SetTerm.TheVariants as sets
use Rattle.sc_terms.specs.Bank.{is_formula, is_set, is_element, IsFormulaOf, IsSetOf, IsElementOf, TermStands, FormulaStands, SetStands, ElementStands, NodeStands, IsBank}
use Rattle.sc_terms.specs.Conditions.{IsIn}
use Rattle.sc_flatten.specs.Walk.{card_of, form_parts, formula_parts, set_parts, element_parts, node_parts, parts_at}
use Rattle.sc_flatten.specs.Numbered.{IsAmong}
use Rattle.sc_flatten.proofs.Lists.{all_flat_map, all_to}

-- ---- what is found among the first nodes
module _ {X : Type 0} (t : Option X → Bool) (none : t None ≡ false) where
  get_before : (xs : List X) (k p : ℕ) → t (slice_get (take k xs) p) ≡ true → (t (slice_get xs p) ≡ true) × (p < k)
  get_before xs zero p h = absurd (false≢true (sym none ∙ h))
  get_before [] (suc k) p h = absurd (false≢true (sym none ∙ h))
  get_before (x ∷ xs) (suc k) zero h = (h, omega arith)
  get_before (x ∷ xs) (suc k) (suc p) h = let r = get_before xs k p h in (r.0, omega (arith, r.1))

  pub item_before : (xs : List X) (k p : ℕ) → t (item_at (take k xs) p) ≡ true → (t (item_at xs p) ≡ true) × IsIn k p
  item_before xs k zero h = absurd (false≢true (sym none ∙ h))
  item_before xs k (suc p) h = let r = get_before xs k p h in (r.0, (omega arith, omega (arith, r.1)))

  get_within : (xs : List X) (p : ℕ) → t (slice_get xs p) ≡ true → p < length xs
  get_within [] p h = absurd (false≢true (sym none ∙ h))
  get_within (x ∷ xs) zero h = omega arith
  get_within (x ∷ xs) (suc p) h = omega (arith, get_within xs p h)

  pub item_within : (xs : List X) (p : ℕ) → t (item_at xs p) ≡ true → IsIn (length xs) p
  item_within xs zero h = absurd (false≢true (sym none ∙ h))
  item_within xs (suc p) h = (omega arith, omega (arith, get_within xs p h))

module _ (bank : List Node) (k : ℕ) where
  pub formula_before : (p : ℕ) → IsFormulaOf (take k bank) p → IsFormulaOf bank p × IsIn k p
  formula_before p h = item_before is_formula refl bank k p h

  pub set_before : (p : ℕ) → IsSetOf (take k bank) p → IsSetOf bank p × IsIn k p
  set_before p h = item_before is_set refl bank k p h

  pub element_before : (p : ℕ) → IsElementOf (take k bank) p → IsElementOf bank p × IsIn k p
  element_before p h = item_before is_element refl bank k p h

  -- ---- the parts of what stands on the first k nodes have numbers up to k
  card_below : (p : ℤ × Atom) → TermStands (take k bank) p → AllByRecursion (IsIn k) (card_of p.1)
  card_below (c, atoms.Int n) h = tt
  card_below (c, atoms.Card s) h = ((set_before s h.1).1, tt)
  card_below (c, atoms.Diff e) h = tt
  card_below (c, atoms.Size cube) h = tt

  form_below : (form : List (ℤ × Atom)) → AllByRecursion (TermStands (take k bank)) form → AllByRecursion (IsIn k) (form_parts form)
  form_below form h = all_flat_map (IsIn k) (λ p. card_of p.1) form (all_weaker (TermStands (take k bank)) (λ p. AllByRecursion (IsIn k) (card_of p.1)) card_below form h)

  formula_below : (f : Formula) → FormulaStands (take k bank) f → AllByRecursion (IsIn k) (formula_parts f)
  formula_below formulas.True h = tt
  formula_below formulas.False h = tt
  formula_below (formulas.Flag c) h = tt
  formula_below (formulas.Not f) h = ((formula_before f h).1, tt)
  formula_below (formulas.And fs) h = all_weaker (IsFormulaOf (take k bank)) (IsIn k) (λ f g. (formula_before f g).1) fs h
  formula_below (formulas.Or fs) h = all_weaker (IsFormulaOf (take k bank)) (IsIn k) (λ f g. (formula_before f g).1) fs h
  formula_below (formulas.Iff f g) h = ((formula_before f h.0).1, ((formula_before g h.1).1, tt))
  formula_below (formulas.Eq e f) h = ((element_before e h.0).1, ((element_before f h.1).1, tt))
  formula_below (formulas.EqSet s t) h = ((set_before s h.0).1, ((set_before t h.1).1, tt))
  formula_below (formulas.Member e s) h = ((element_before e h.0).1, ((set_before s h.1).1, tt))
  formula_below (formulas.Le row) h = form_below row.form h.1

  set_below : (s : SetTerm) → SetStands (take k bank) s → AllByRecursion (IsIn k) (set_parts s)
  set_below (sets.Const c sort) h = tt
  set_below (sets.Empty sort) h = tt
  set_below (sets.Single e) h = ((element_before e h).1, tt)
  set_below (sets.Union s t) h = ((set_before s h.0).1, ((set_before t h.1).1, tt))
  set_below (sets.Inter s t) h = ((set_before s h.0).1, ((set_before t h.1).1, tt))
  set_below (sets.Minus s t) h = ((set_before s h.0).1, ((set_before t h.1).1, tt))

  element_below : (e : Element) → ElementStands (take k bank) e → AllByRecursion (IsIn k) (element_parts e)
  element_below (elements.Const c sort) h = tt
  element_below (elements.Number affine) h = form_below affine.form h.0.1
  element_below (elements.Diff s t) h = absurd h

  node_below : (x : Node) → NodeStands (take k bank) x → AllByRecursion (IsIn k) (node_parts x)
  node_below (nodes.Formula f) h = formula_below f h
  node_below (nodes.Set s) h = set_below s h
  node_below (nodes.Element e) h = element_below e h

module _ (bank : List Node) (is : IsBank bank) where
  node_parts_below : (k p : ℕ) (o : Option Node) → slice_get bank k ≡ o → IsAmong (parts_at o) p → IsIn k p
  node_parts_below k p None e h = absurd (false≢true h)
  node_parts_below k p (Some x) e h = all_to (IsIn k) (node_parts x) (node_below bank k x (is.stands k x e)) p h

  pub parts_below : (n p : ℕ) → IsAmong (parts_at (item_at bank n)) p → (0 < p) × (p < n)
  parts_below zero p h = absurd (false≢true h)
  parts_below (suc k) p h = let r = node_parts_below k p (slice_get bank k) refl h in (r.0, omega (arith, r.1))
