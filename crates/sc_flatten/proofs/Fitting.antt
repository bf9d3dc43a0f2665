-- Where each number that an evaluation of the assertions meets fits 128 bits, so does each that one of the stock's nodes meets.
use Rattle.std.proofs.Common.{◌≡◌, ℕ, zero, suc, ℤ, pos, ◌+ℤ◌, ◌*ℤ◌, List, [], ◌∷◌, length, map, Option, Some, None, inl, inr, refl, sym, ap, subst, ◌∙◌, arith}
use Rattle.std.specs.Prelude.{⊤, FitsSigned}
use Rattle.std.specs.Int.{w128}
use Rattle.std.specs.List.{AllByRecursion, flat_map}
use Rattle.std.proofs.lemmas.Bool.{false≢true}
use Rattle.sc_base.specs.Numbered.{item_at}
use Rattle.sc_terms.specs.declared.atoms.Atom.{Atom}
use Rattle.sc_terms.specs.declared.atoms.Atom.TheVariants as atoms
use Rattle.sc_terms.specs.declared.nodes.Element.{Element}
use Rattle.sc_terms.specs.declared.nodes.Element.TheVariants as elements
use Rattle.sc_terms.specs.declared.nodes.Formula.{Formula}
use Rattle.sc_terms.specs.declared.nodes.Formula.TheVariants as formulas
use Rattle.sc_terms.specs.declared.nodes.Node.{Node}
use Rattle.sc_terms.specs.declared.nodes.Node.TheVariants as nodes
use Rattle.sc_terms.specs.declared.problem.Parts.{Parts}
use Rattle.sc_terms.specs.Bank.{is_formula, is_element, IsBank}
use Rattle.sc_terms.specs.BankValues.{no_parts, bank_meaning, BankFits, BankMeaningsFit}
use Rattle.sc_terms.specs.Conditions.{MeaningsFit}
use Rattle.sc_terms.specs.Meaning.{Interpretation, Valuation, Fits, form_value}
use Rattle.sc_terms.specs.Under as under
use Rattle.sc_terms.specs.Under.{Under, top, part, NodeFits, FitUnder}
use Rattle.sc_terms.specs.Values.{meaning, TermFits, FormulaFits, ElementFits}
use Rattle.sc_sorts.specs.Posed.{NodesFit}
use Rattle.sc_flatten.specs.Walk.{form_parts, node_parts, parts_at, preorder, met, order_of}
use Rattle.sc_flatten.specs.Classes.{pairs_of, diff_of_pair}
use Rattle.sc_flatten.specs.Numbered.{IsAmong, AtomListed, TermListed, FormulaListed, ElementListed, FormulaListedAt, ElementListedAt, IsWhole}
use Rattle.sc_flatten.specs.Stock.{Numbering, numbering_of, atom_in, form_in, formula_in, element_in, formula_by, element_by, formulas_by, walked_by, problem_by, stock}
use Rattle.sc_flatten.specs.Laws.{StocksFit}
use Rattle.sc_flatten.proofs.Lists.{among_later, among_first, among_cases, among_some, among_filtered, all_from, all_to, all_map, all_joined}
use Rattle.sc_flatten.proofs.Firsts.{among-firsts}
use Rattle.sc_flatten.proofs.Falls.{all_placed}
use Rattle.sc_flatten.proofs.Problems.{stock_whole, stocks_are_problems}
use Rattle.sc_flatten.proofs.Agreeing.{AgreesAt, int_agrees, form_agrees, all_below_agree}

-- ---- what the walk meets stands under the assertions
form_under : (form : List (ℤ × Atom)) (m : ℕ) → IsAmong (form_parts form) m → IsAmong (under.form_parts form) m
form_under [] m h = h
form_under ((z, atoms.Int n) ∷ ps) m h = form_under ps m h
form_under ((z, atoms.Card s) ∷ ps) m h =
    elim (among_cases m s (form_parts ps) h) [
      | inl e ↦ subst (λ k. IsAmong (s ∷ under.form_parts ps) k) (sym e) (among_first s (under.form_parts ps))
      | inr t ↦ among_later m s (under.form_parts ps) (form_under ps m t)
    ]
form_under ((z, atoms.Diff e) ∷ ps) m h = among_later m e (under.form_parts ps) (form_under ps m h)
form_under ((z, atoms.Size cube) ∷ ps) m h = form_under ps m h

parts_under : (x : Node) (m : ℕ) → IsAmong (node_parts x) m → IsAmong (under.node_parts x) m
parts_under (nodes.Formula (formulas.Le row)) m h = form_under row.form m h
parts_under (nodes.Element (elements.Number affine)) m h = form_under affine.form m h
parts_under _ m h = h

module _ (bank : List Node) (tops : List ℕ) where
  part_under : (n m : ℕ) → Under bank tops n → (o : Option Node) → item_at bank n ≡ o → IsAmong (parts_at o) m → Under bank tops m
  part_under n m u (Some x) e h = part n m x u e (parts_under x m h)
  part_under n m u None e h = absurd (false≢true h)

  met_under : (d n m : ℕ) → Under bank tops n → IsAmong (preorder bank d n) m → Under bank tops m
  met_under zero n m u h = absurd (false≢true h)
  met_under (suc d) n m u h =
      elim (among_cases m n (flat_map (preorder bank d) (parts_at (item_at bank n))) h) [
        | inl e ↦ subst (Under bank tops) (sym e) u
        | inr t ↦ let r = among_some (preorder bank d) (parts_at (item_at bank n)) m t in met_under d r.0 m (part_under n r.0 u (item_at bank n) refl r.1) r.2
      ]

  order_under : (m : ℕ) → IsAmong (order_of bank tops) m → Under bank tops m
  order_under m h =
      let a = among_some (preorder bank (length bank)) tops m (sym (among-firsts m (met bank tops)) ∙ h) in
      met_under (length bank) a.0 m (top a.0 a.1) a.2

-- ---- a node of the stock fits where that of the bank does
module _ (bank : List Node) (is : IsBank bank) (assertions : List ℕ) (by : Numbering) (whole : IsWhole bank assertions by) (i : Interpretation) (v w : Valuation) (fits : Fits (problem_by bank assertions by) i v) (bank_fits : BankFits bank i w) where
  abbrev problem : Parts
  problem = problem_by bank assertions by

  agree : (n : ℕ) → AgreesAt by v w n
  agree n = all_below_agree bank is assertions by whole i v w fits bank_fits (suc n) n (omega arith)

  form_value_agrees : (form : List (ℤ × Atom)) → AllByRecursion (TermListed by) form → form_value problem v (form_in by form) ≡ form_value no_parts w form
  form_value_agrees form h = form_agrees bank is assertions by whole i v w fits bank_fits (λ n. ⊤) (λ n _. agree n) form h (all_from (λ n. ⊤) (form_parts form) (λ n _. tt))

  term_fits : (z : ℤ) (a : Atom) → AtomListed by a → TermFits no_parts w (z, a) → TermFits problem v (z, atom_in by a)
  term_fits z (atoms.Int n) h k = subst (λ x. FitsSigned w128 (z *ℤ x) × FitsSigned w128 x) (sym (int_agrees bank is assertions by whole i v w fits bank_fits n h)) k
  term_fits z (atoms.Card s) h k = subst (λ xs. FitsSigned w128 (z *ℤ pos (length xs)) × FitsSigned w128 (pos (length xs))) (sym ((agree s).members h)) k
  term_fits z (atoms.Diff e) h k = absurd h
  term_fits z (atoms.Size cube) h k = absurd h

  terms_fit : (form : List (ℤ × Atom)) → AllByRecursion (TermListed by) form → AllByRecursion (TermFits no_parts w) form → AllByRecursion (TermFits problem v) (form_in by form)
  terms_fit [] h k = tt
  terms_fit (p ∷ ps) h k = all_placed (TermFits problem v) (p.0, atom_in by p.1) (form_in by ps) (term_fits p.0 p.1 h.0.1 k.0) (terms_fit ps h.1 k.1)

  formula_fits : (f : Formula) → FormulaListed by f → FormulaFits no_parts w f → FormulaFits problem v (formula_in by f)
  formula_fits (formulas.Le row) h k = (terms_fit row.form h.1 k.0, subst (FitsSigned w128) (sym (form_value_agrees row.form h.1)) k.1)
  formula_fits _ h k = tt

  element_fits : (e : Element) → ElementListed by e → ElementFits no_parts w e → ElementFits problem v (element_in by e)
  element_fits (elements.Number affine) h k = (terms_fit affine.form h.0.1 k.0, subst (λ z. FitsSigned w128 (z +ℤ affine.constant)) (sym (form_value_agrees affine.form h.0.1)) k.1)
  element_fits _ h k = tt

  formula_by_fits : (o : Option Node) → FormulaListedAt by o → ((x : Node) → o ≡ Some x → NodeFits w x) → FormulaFits problem v (formula_by by o)
  formula_by_fits (Some (nodes.Formula f)) h k = formula_fits f h (k (nodes.Formula f) refl)
  formula_by_fits _ h k = absurd h

  element_by_fits : (o : Option Node) → ElementListedAt by o → ((x : Node) → o ≡ Some x → NodeFits w x) → ElementFits problem v (element_by by o)
  element_by_fits (Some (nodes.Element e)) h k = element_fits e h (k (nodes.Element e) refl)
  element_by_fits _ h k = absurd h

  diffs_fit : (pairs : List (ℕ × ℕ)) → AllByRecursion (ElementFits problem v) (map diff_of_pair pairs)
  diffs_fit [] = tt
  diffs_fit (p ∷ ps) = (tt, diffs_fit ps)

  nodes_fit : ((n : ℕ) → IsAmong by.formulas n → Under bank assertions n) → ((n : ℕ) → IsAmong by.elements n → Under bank assertions n) → FitUnder bank assertions w → NodesFit problem v
  nodes_fit formulas_under elements_under fit = record {
    formulas =
        all_map (FormulaFits problem v) (λ n. formula_by by (item_at bank n)) by.formulas
        (all_from (λ n. FormulaFits problem v (formula_by by (item_at bank n))) by.formulas
        (λ n h. formula_by_fits (item_at bank n) (all_to (λ m. FormulaListedAt by (item_at bank m)) by.formulas whole.formulas n h) (λ x e. fit n x (formulas_under n h) e)));
    elements =
        all_joined (ElementFits problem v) (walked_by bank by) (map diff_of_pair (pairs_of (formulas_by bank by)))
        (all_map (ElementFits problem v) (λ n. element_by by (item_at bank n)) by.elements
        (all_from (λ n. ElementFits problem v (element_by by (item_at bank n))) by.elements
        (λ n h. element_by_fits (item_at bank n) (all_to (λ m. ElementListedAt by (item_at bank m)) by.elements whole.elements n h) (λ x e. fit n x (elements_under n h) e))))
        (diffs_fit (pairs_of (formulas_by bank by)));
  }

pub stocks_fit : MeaningsFit → BankMeaningsFit → StocksFit
stocks_fit meanings bank_meanings bank assertions is named i proper =
    nodes_fit bank is assertions (numbering_of bank assertions) (stock_whole bank assertions is named) i
    (meaning (stock bank assertions) i) (bank_meaning bank i)
    (meanings (stock bank assertions) (stocks_are_problems bank assertions is named) i proper)
    (bank_meanings bank is i proper)
    (λ n h. order_under bank assertions n (among_filtered (λ m. is_formula (item_at bank m)) n (order_of bank assertions) h).0)
    (λ n h. order_under bank assertions n (among_filtered (λ m. is_element (item_at bank m)) n (order_of bank assertions) h).0)
