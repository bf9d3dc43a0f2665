-- The numbering of a closed list of a bank's nodes has all that they name.
use Rattle.std.proofs.Common.{◌≡◌, ℕ, zero, suc, ◌^◌, ◌<◌, ◌≤◌, Bool, true, ℤ, List, [], ◌∷◌, length, take, Option, Some, refl, ◌∙◌, arith}
use Rattle.std.specs.Prelude.{slice_get, filter}
use Rattle.std.specs.List.{AllByRecursion, flat_map}
use Rattle.std.proofs.lemmas.Bool.{false≢true}
use Rattle.sc_base.specs.Numbered.{item_at}
use Rattle.sc_terms.specs.declared.atoms.Atom.{Atom}
use Rattle.sc_terms.specs.declared.atoms.Atom.TheVariants as atoms
use Rattle.sc_terms.specs.declared.nodes.Element.{Element}
use Rattle.sc_terms.specs.declared.nodes.Element.TheVariants as elements
use Rattle.sc_terms.specs.declared.nodes.Formula.{Formula}
use Rattle.sc_terms.specs.declared.nodes.Formula.TheVariants as formulas
use Rattle.sc_terms.specs.declared.nodes.Node.{Node}
use Rattle.sc_terms.specs.declared.nodes.Node.TheVariants as nodes
use Rattle.sc_terms.specs.declared.nodes.SetTerm.{SetTerm}
use Rattle.sc_terms.specs.declared.nodes.SetTerm.TheVariants as sets
use Rattle.sc_terms.specs.Bank.{is_formula, is_set, is_element, IsFormulaOf, IsSetOf, IsElementOf, TermStands, FormStands, FormulaStands, SetStands, ElementStands, IsBank}
use Rattle.sc_flatten.specs.Walk.{form_parts, form_constants, formula_parts, set_parts, element_parts, parts_at, constants_at}
use Rattle.sc_flatten.specs.Stock.{Numbering, numbering_by}
use Rattle.sc_flatten.specs.Numbered.{IsAmong, TermListed, FormListed, FormulaListed, SetListed, ElementListed, FormulaListedAt, SetListedAt, ElementListedAt, IsWhole}
use Rattle.sc_flatten.proofs.Closed.{IsClosed}
use Rattle.sc_flatten.proofs.Lists.{among_of, among_filter, among_filtered, all_from, all_to, length-filter}
use Rattle.sc_flatten.proofs.Firsts.{among-firsts, few_distinct}
use Rattle.sc_flatten.proofs.Below.{formula_before, set_before, element_before}

module _ (bank : List Node) (is : IsBank bank) (order : List ℕ) (closed : IsClosed bank order) where
  abbrev by : Numbering
  by = numbering_by bank order

  formula_listed : (p : ℕ) → IsAmong order p → IsFormulaOf bank p → IsAmong by.formulas p
  formula_listed p h k = among_filter (λ n. is_formula (item_at bank n)) p order h k

  set_listed : (p : ℕ) → IsAmong order p → IsSetOf bank p → IsAmong by.sets p
  set_listed p h k = among_filter (λ n. is_set (item_at bank n)) p order h k

  element_listed : (p : ℕ) → IsAmong order p → IsElementOf bank p → IsAmong by.elements p
  element_listed p h k = among_filter (λ n. is_element (item_at bank n)) p order h k

  -- what a node of the list with the number k + 1 names is numbered
  module _ (k : ℕ) where
    terms_listed : (form : List (ℤ × Atom)) → AllByRecursion (TermStands (take k bank)) form → AllByRecursion (IsAmong order) (form_parts form) → AllByRecursion (IsAmong by.ints) (form_constants form) → AllByRecursion (TermListed by) form
    terms_listed [] h p c = tt
    terms_listed ((z, atoms.Int n) ∷ ps) h p c = ((h.0.0, c.0), terms_listed ps h.1 p c.1)
    terms_listed ((z, atoms.Card s) ∷ ps) h p c = ((h.0.0, set_listed s p.0 (set_before bank k s h.0.1).0), terms_listed ps h.1 p.1 c)
    terms_listed ((z, atoms.Diff e) ∷ ps) h p c = absurd h.0.1
    terms_listed ((z, atoms.Size cube) ∷ ps) h p c = absurd h.0.1

    form_listed : (form : List (ℤ × Atom)) → FormStands (take k bank) form → AllByRecursion (IsAmong order) (form_parts form) → AllByRecursion (IsAmong by.ints) (form_constants form) → FormListed by form
    form_listed form h p c = (h.0, terms_listed form h.1 p c)

    both_listed : (fs : List ℕ) → AllByRecursion (IsFormulaOf (take k bank)) fs → AllByRecursion (IsAmong order) fs → AllByRecursion (IsAmong by.formulas) fs
    both_listed [] h p = tt
    both_listed (f ∷ fs) h p = (formula_listed f p.0 (formula_before bank k f h.0).0, both_listed fs h.1 p.1)

    parts_listed : (f : Formula) → FormulaStands (take k bank) f → AllByRecursion (IsAmong order) (formula_parts f) → AllByRecursion (IsAmong by.ints) (constants_at (Some (nodes.Formula f))) → FormulaListed by f
    parts_listed formulas.True h p c = tt
    parts_listed formulas.False h p c = tt
    parts_listed (formulas.Flag n) h p c = tt
    parts_listed (formulas.Not f) h p c = formula_listed f p.0 (formula_before bank k f h).0
    parts_listed (formulas.And fs) h p c = both_listed fs h p
    parts_listed (formulas.Or fs) h p c = both_listed fs h p
    parts_listed (formulas.Iff f g) h p c = (formula_listed f p.0 (formula_before bank k f h.0).0, formula_listed g p.1.0 (formula_before bank k g h.1).0)
    parts_listed (formulas.Eq e f) h p c = (element_listed e p.0 (element_before bank k e h.0).0, element_listed f p.1.0 (element_before bank k f h.1).0)
    parts_listed (formulas.EqSet s t) h p c = (set_listed s p.0 (set_before bank k s h.0).0, set_listed t p.1.0 (set_before bank k t h.1).0)
    parts_listed (formulas.Member e s) h p c = (element_listed e p.0 (element_before bank k e h.0).0, set_listed s p.1.0 (set_before bank k s h.1).0)
    parts_listed (formulas.Le row) h p c = form_listed row.form h p c

    arguments_listed : (s : SetTerm) → SetStands (take k bank) s → AllByRecursion (IsAmong order) (set_parts s) → SetListed by s
    arguments_listed (sets.Const n sort) h p = tt
    arguments_listed (sets.Empty sort) h p = tt
    arguments_listed (sets.Single e) h p = element_listed e p.0 (element_before bank k e h).0
    arguments_listed (sets.Union s t) h p = (set_listed s p.0 (set_before bank k s h.0).0, set_listed t p.1.0 (set_before bank k t h.1).0)
    arguments_listed (sets.Inter s t) h p = (set_listed s p.0 (set_before bank k s h.0).0, set_listed t p.1.0 (set_before bank k t h.1).0)
    arguments_listed (sets.Minus s t) h p = (set_listed s p.0 (set_before bank k s h.0).0, set_listed t p.1.0 (set_before bank k t h.1).0)

    atoms_listed : (e : Element) → ElementStands (take k bank) e → AllByRecursion (IsAmong order) (element_parts e) → AllByRecursion (IsAmong by.ints) (constants_at (Some (nodes.Element e))) → ElementListed by e
    atoms_listed (elements.Const n sort) h p c = tt
    atoms_listed (elements.Number affine) h p c = (form_listed affine.form h.0 p c, h.1)
    atoms_listed (elements.Diff s t) h p c = absurd h

  -- the parts and the constants of a node of the list
  parts_in : (n : ℕ) → IsAmong order n → AllByRecursion (IsAmong order) (parts_at (item_at bank n))
  parts_in n h = all_from (IsAmong order) (parts_at (item_at bank n)) (λ p e. closed.parts n p h e)

  constants_in : (n : ℕ) → IsAmong order n → AllByRecursion (IsAmong by.ints) (constants_at (item_at bank n))
  constants_in n h = all_from (IsAmong by.ints) (constants_at (item_at bank n)) (λ c e. among-firsts c (flat_map (λ m. constants_at (item_at bank m)) order) ∙ among_of (λ m. constants_at (item_at bank m)) order n c h e)

  formula_whole : (k : ℕ) (o : Option Node) → slice_get bank k ≡ o → is_formula o ≡ true → AllByRecursion (IsAmong order) (parts_at o) → AllByRecursion (IsAmong by.ints) (constants_at o) → FormulaListedAt by o
  formula_whole k (Some (nodes.Formula f)) e t p c = parts_listed k f (is.stands k (nodes.Formula f) e) p c
  formula_whole k _ e t p c = absurd (false≢true t)

  set_whole : (k : ℕ) (o : Option Node) → slice_get bank k ≡ o → is_set o ≡ true → AllByRecursion (IsAmong order) (parts_at o) → SetListedAt by o
  set_whole k (Some (nodes.Set s)) e t p = arguments_listed k s (is.stands k (nodes.Set s) e) p
  set_whole k _ e t p = absurd (false≢true t)

  element_whole : (k : ℕ) (o : Option Node) → slice_get bank k ≡ o → is_element o ≡ true → AllByRecursion (IsAmong order) (parts_at o) → AllByRecursion (IsAmong by.ints) (constants_at o) → ElementListedAt by o
  element_whole k (Some (nodes.Element e)) at t p c = atoms_listed k e (is.stands k (nodes.Element e) at) p c
  element_whole k _ at t p c = absurd (false≢true t)

  formula_at_whole : (n : ℕ) → IsAmong order n → IsFormulaOf bank n → FormulaListedAt by (item_at bank n)
  formula_at_whole zero h t = absurd (false≢true t)
  formula_at_whole (suc k) h t = formula_whole k (slice_get bank k) refl t (parts_in (suc k) h) (constants_in (suc k) h)

  set_at_whole : (n : ℕ) → IsAmong order n → IsSetOf bank n → SetListedAt by (item_at bank n)
  set_at_whole zero h t = absurd (false≢true t)
  set_at_whole (suc k) h t = set_whole k (slice_get bank k) refl t (parts_in (suc k) h)

  element_at_whole : (n : ℕ) → IsAmong order n → IsElementOf bank n → ElementListedAt by (item_at bank n)
  element_at_whole zero h t = absurd (false≢true t)
  element_at_whole (suc k) h t = element_whole k (slice_get bank k) refl t (parts_in (suc k) h) (constants_in (suc k) h)

  few_in_order : length order ≤ suc (length bank)
  few_in_order = few_distinct (length bank) order closed.distinct (λ m h. omega (arith, (closed.range m h).1))

  few_kept : (t : ℕ → Bool) → length (filter t order) < 2 ^ 31
  few_kept t = omega (arith, length-filter t order, few_in_order, is.few)

  pub whole : (assertions : List ℕ) → AllByRecursion (IsAmong order) assertions → AllByRecursion (IsFormulaOf bank) assertions → IsWhole bank assertions by
  whole assertions among formulas = record {
    roots = all_from (IsAmong by.formulas) assertions (λ a h. formula_listed a (all_to (IsAmong order) assertions among a h) (all_to (IsFormulaOf bank) assertions formulas a h));
    formulas = all_from (λ n. FormulaListedAt by (item_at bank n)) by.formulas (λ n h. let p = among_filtered (λ m. is_formula (item_at bank m)) n order h in formula_at_whole n p.0 p.1);
    sets = all_from (λ n. SetListedAt by (item_at bank n)) by.sets (λ n h. let p = among_filtered (λ m. is_set (item_at bank m)) n order h in set_at_whole n p.0 p.1);
    elements = all_from (λ n. ElementListedAt by (item_at bank n)) by.elements (λ n h. let p = among_filtered (λ m. is_element (item_at bank m)) n order h in element_at_whole n p.0 p.1);
    few_formulas = few_kept (λ m. is_formula (item_at bank m));
    few_sets = few_kept (λ m. is_set (item_at bank m));
    few_elements = few_kept (λ m. is_element (item_at bank m));
  }
