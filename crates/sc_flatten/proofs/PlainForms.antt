-- The forms of a stock have Int constants and cards alone.
use Rattle.std.proofs.Common.{ℕ, ℤ, List, [], ◌∷◌, map, Option, Some}
use Rattle.std.specs.List.{AllByRecursion}
use Rattle.sc_base.specs.Numbered.{item_at}
use Rattle.sc_base.proofs.Integers.{all_weaker}
use Rattle.sc_terms.specs.declared.atoms.Atom.{Atom}
use Rattle.sc_terms.specs.declared.atoms.Atom.TheVariants as atoms
use Rattle.sc_terms.specs.declared.nodes.Element.{Element}
use Rattle.sc_terms.specs.declared.nodes.Element.TheVariants as elements
use Rattle.sc_terms.specs.declared.nodes.Formula.{Formula}
use Rattle.sc_terms.specs.declared.nodes.Formula.TheVariants as formulas
use Rattle.sc_terms.specs.declared.nodes.Node.{Node}
use Rattle.sc_terms.specs.declared.nodes.Node.TheVariants as nodes
use Rattle.sc_terms.specs.Bank.{IsBank}
use Rattle.sc_sorts.specs.Posed.{IsScriptAtom, IsPlainForm, HasPlainForm, ElementHasPlainForm}
use Rattle.sc_flatten.specs.Classes.{pairs_of, diff_of_pair}
use Rattle.sc_flatten.specs.Numbered.{TermListed, FormulaListed, ElementListed, FormulaListedAt, ElementListedAt}
use Rattle.sc_flatten.specs.Stock.{Numbering, numbering_of, number_in, form_in, formula_in, element_in, formula_by, element_by, formulas_by, walked_by, stock}
use Rattle.sc_flatten.specs.Laws.{AreFormulasOf, StocksHavePlainForms}
use Rattle.sc_flatten.proofs.Lists.{all_map, all_joined}
use Rattle.sc_flatten.proofs.Falls.{all_placed}
use Rattle.sc_flatten.proofs.Problems.{stock_whole}

module _ (by : Numbering) where
  form_plain : (form : List (ℤ × Atom)) → AllByRecursion (TermListed by) form → IsPlainForm (form_in by form)
  form_plain [] h = tt
  form_plain ((z, atoms.Int n) ∷ ps) h = all_placed (λ p. IsScriptAtom p.1) (z, atoms.Int (number_in by.ints n)) (form_in by ps) tt (form_plain ps h.1)
  form_plain ((z, atoms.Card s) ∷ ps) h = all_placed (λ p. IsScriptAtom p.1) (z, atoms.Card (number_in by.sets s)) (form_in by ps) tt (form_plain ps h.1)
  form_plain ((z, atoms.Diff e) ∷ ps) h = absurd h.0.1
  form_plain ((z, atoms.Size cube) ∷ ps) h = absurd h.0.1

  formula_plain : (f : Formula) → FormulaListed by f → HasPlainForm (formula_in by f)
  formula_plain (formulas.Le row) h = form_plain row.form h.1
  formula_plain _ h = tt

  element_plain : (e : Element) → ElementListed by e → ElementHasPlainForm (element_in by e)
  element_plain (elements.Number affine) h = form_plain affine.form h.0.1
  element_plain _ h = tt

  formula_plain_by : (o : Option Node) → FormulaListedAt by o → HasPlainForm (formula_by by o)
  formula_plain_by (Some (nodes.Formula f)) h = formula_plain f h
  formula_plain_by _ h = absurd h

  element_plain_by : (o : Option Node) → ElementListedAt by o → ElementHasPlainForm (element_by by o)
  element_plain_by (Some (nodes.Element e)) h = element_plain e h
  element_plain_by _ h = absurd h

diffs_plain : (pairs : List (ℕ × ℕ)) → AllByRecursion ElementHasPlainForm (map diff_of_pair pairs)
diffs_plain [] = tt
diffs_plain (p ∷ ps) = (tt, diffs_plain ps)

module _ (bank : List Node) (assertions : List ℕ) (is : IsBank bank) (named : AreFormulasOf bank assertions) where
  abbrev by : Numbering
  by = numbering_of bank assertions

  formulas_plain : AllByRecursion HasPlainForm (formulas_by bank by)
  formulas_plain =
      all_map HasPlainForm (λ n. formula_by by (item_at bank n)) by.formulas
      (all_weaker (λ n. FormulaListedAt by (item_at bank n)) (λ n. HasPlainForm (formula_by by (item_at bank n))) (λ n h. formula_plain_by by (item_at bank n) h) by.formulas (stock_whole bank assertions is named).formulas)

  walked_plain : AllByRecursion ElementHasPlainForm (walked_by bank by)
  walked_plain =
      all_map ElementHasPlainForm (λ n. element_by by (item_at bank n)) by.elements
      (all_weaker (λ n. ElementListedAt by (item_at bank n)) (λ n. ElementHasPlainForm (element_by by (item_at bank n))) (λ n h. element_plain_by by (item_at bank n) h) by.elements (stock_whole bank assertions is named).elements)

  elements_plain : AllByRecursion ElementHasPlainForm (stock bank assertions).elements
  elements_plain = all_joined ElementHasPlainForm (walked_by bank by) (map diff_of_pair (pairs_of (formulas_by bank by))) walked_plain (diffs_plain (pairs_of (formulas_by bank by)))

pub stocks_have_plain_forms : StocksHavePlainForms
stocks_have_plain_forms = record { formulas = formulas_plain; elements = elements_plain }
