-- What is true of each node of a bank by its kind of node, and of its atoms, is true of the nodes of a stock: those without integers, and those without cards.
use Rattle.std.proofs.Common.{◌≡◌, ℕ, ℤ, List, [], ◌∷◌, ◌++◌, map, Option, Some, refl}
use Rattle.std.specs.List.{AllByRecursion}
use Rattle.sc_base.specs.Numbered.{item_at}
use Rattle.sc_terms.specs.declared.atoms.Atom.{Atom}
use Rattle.sc_terms.specs.declared.atoms.Atom.TheVariants as atoms
use Rattle.sc_terms.specs.declared.nodes.Element.{Element}
use Rattle.sc_terms.specs.declared.nodes.Element.TheVariants as elements
use Rattle.sc_terms.specs.declared.nodes.Formula.{Formula}
use Rattle.sc_terms.specs.declared.nodes.Formula.TheVariants as formulas
use Rattle.sc_terms.specs.declared.nodes.Node.{Node}
use Rattle.sc_terms.specs.declared.nodes.Node.TheVariants as nodes
use Rattle.sc_sorts.specs.Posed.{IsIntlessFormula, IsIntlessElement, IsIntlessNode, IsIntless, IsNoCard, IsCardlessForm, IsCardlessFormula, IsCardlessElement, IsCardlessNode, IsCardless}
use Rattle.sc_flatten.specs.Classes.{pairs_of, diff_of_pair}
use Rattle.sc_flatten.specs.Stock.{Numbering, numbering_of, number_in, atom_in, form_in, formula_in, element_in, formula_by, element_by, formulas_by, walked_by, elements_by, stock}
use Rattle.sc_flatten.proofs.Lists.{all_from, all_map, all_joined, item_all}
use Rattle.sc_flatten.proofs.Falls.{all_placed}

module _ (N : Node → Type 0) (F : Formula → Type 0) (E : Element → Type 0) (bank : List Node) (by : Numbering) (all : AllByRecursion N bank) (formula : (f : Formula) → N (nodes.Formula f) → F (formula_in by f)) (element : (e : Element) → N (nodes.Element e) → E (element_in by e)) (none : F formulas.True) (diff : (s t : ℕ) → E (elements.Diff s t)) where
  formula_kept : (o : Option Node) → ((x : Node) → o ≡ Some x → N x) → F (formula_by by o)
  formula_kept (Some (nodes.Formula f)) h = formula f (h (nodes.Formula f) refl)
  formula_kept _ h = none

  element_kept : (o : Option Node) → ((x : Node) → o ≡ Some x → N x) → E (element_by by o)
  element_kept (Some (nodes.Element e)) h = element e (h (nodes.Element e) refl)
  element_kept _ h = diff 0 0

  diffs_kept : (pairs : List (ℕ × ℕ)) → AllByRecursion E (map diff_of_pair pairs)
  diffs_kept [] = tt
  diffs_kept (p ∷ ps) = (diff p.0 p.1, diffs_kept ps)

  formulas_kept : AllByRecursion F (formulas_by bank by)
  formulas_kept = all_map F (λ n. formula_by by (item_at bank n)) by.formulas (all_from (λ n. F (formula_by by (item_at bank n))) by.formulas (λ n h. formula_kept (item_at bank n) (λ x e. item_all N bank n x all e)))

  walked_kept : AllByRecursion E (walked_by bank by)
  walked_kept = all_map E (λ n. element_by by (item_at bank n)) by.elements (all_from (λ n. E (element_by by (item_at bank n))) by.elements (λ n h. element_kept (item_at bank n) (λ x e. item_all N bank n x all e)))

  elements_kept : AllByRecursion E (elements_by bank by)
  elements_kept = all_joined E (walked_by bank by) (map diff_of_pair (pairs_of (formulas_by bank by))) walked_kept (diffs_kept (pairs_of (formulas_by bank by)))

-- ---- no integers
formula_intless : (by : Numbering) (f : Formula) → IsIntlessFormula f → IsIntlessFormula (formula_in by f)
formula_intless by (formulas.Le row) h = absurd h
formula_intless by _ h = tt

element_intless : (by : Numbering) (e : Element) → IsIntlessElement e → IsIntlessElement (element_in by e)
element_intless by (elements.Number affine) h = absurd h
element_intless by _ h = tt

pub stock_intless : (bank : List Node) (assertions : List ℕ) → AllByRecursion IsIntlessNode bank → IsIntless (stock bank assertions)
stock_intless bank assertions all =
    let by : Numbering = numbering_of bank assertions in
    record {
      formulas = formulas_kept IsIntlessNode IsIntlessFormula IsIntlessElement bank by all (formula_intless by) (element_intless by) tt (λ s t. tt);
      elements = elements_kept IsIntlessNode IsIntlessFormula IsIntlessElement bank by all (formula_intless by) (element_intless by) tt (λ s t. tt);
    }

-- ---- no cards
form_cardless : (by : Numbering) (form : List (ℤ × Atom)) → IsCardlessForm form → IsCardlessForm (form_in by form)
form_cardless by [] h = tt
form_cardless by ((z, atoms.Int n) ∷ ps) h = all_placed (λ p. IsNoCard p.1) (z, atoms.Int (number_in by.ints n)) (form_in by ps) tt (form_cardless by ps h.1)
form_cardless by ((z, atoms.Card s) ∷ ps) h = absurd h.0
form_cardless by ((z, atoms.Diff e) ∷ ps) h = all_placed (λ p. IsNoCard p.1) (z, atoms.Diff e) (form_in by ps) tt (form_cardless by ps h.1)
form_cardless by ((z, atoms.Size cube) ∷ ps) h = all_placed (λ p. IsNoCard p.1) (z, atoms.Size cube) (form_in by ps) tt (form_cardless by ps h.1)

formula_cardless : (by : Numbering) (f : Formula) → IsCardlessFormula f → IsCardlessFormula (formula_in by f)
formula_cardless by (formulas.Le row) h = form_cardless by row.form h
formula_cardless by _ h = tt

element_cardless : (by : Numbering) (e : Element) → IsCardlessElement e → IsCardlessElement (element_in by e)
element_cardless by (elements.Number affine) h = form_cardless by affine.form h
element_cardless by _ h = tt

pub stock_cardless : (bank : List Node) (assertions : List ℕ) → AllByRecursion IsCardlessNode bank → IsCardless (stock bank assertions)
stock_cardless bank assertions all =
    let by : Numbering = numbering_of bank assertions in
    record {
      formulas = formulas_kept IsCardlessNode IsCardlessFormula IsCardlessElement bank by all (formula_cardless by) (element_cardless by) tt (λ s t. tt);
      elements = elements_kept IsCardlessNode IsCardlessFormula IsCardlessElement bank by all (formula_cardless by) (element_cardless by) tt (λ s t. tt);
    }
