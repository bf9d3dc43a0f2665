-- Nothing of a stock names a differing element.
use Rattle.std.proofs.Common.{◌≡◌, ℕ, List, map, Option, Some, sym, ◌∙◌}
use Rattle.std.specs.Prelude.{◌≢◌}
use Rattle.sc_base.specs.Numbered.{item_at}
use Rattle.sc_terms.specs.declared.nodes.Element.{Element}
use Rattle.sc_terms.specs.declared.nodes.Element.TheVariants as elements
use Rattle.sc_terms.specs.declared.nodes.Formula.{Formula}
use Rattle.sc_terms.specs.declared.nodes.Formula.TheVariants as formulas
use Rattle.sc_terms.specs.declared.nodes.Node.{Node}
use Rattle.sc_terms.specs.declared.nodes.Node.TheVariants as nodes
use Rattle.sc_terms.specs.declared.nodes.SetTerm.{SetTerm}
use Rattle.sc_terms.specs.declared.nodes.SetTerm.TheVariants as sets
use Rattle.sc_terms.specs.declared.problem.Parts.{Parts}
use Rattle.sc_sorts.specs.Posed.{IsNoDiff, FormulaNamesNoDiff, SetNamesNoDiff, NamesNoDiff}
use Rattle.sc_flatten.specs.Classes.{pairs_of, diff_of_pair}
use Rattle.sc_flatten.specs.Stock.{Numbering, numbering_of, number_in, formula_in, set_in, element_in, formula_by, set_by, element_by, formulas_by, walked_by, problem_by}
use Rattle.sc_flatten.specs.Numbered.{IsAmong, FormulaListed, SetListed, ElementListed, FormulaListedAt, SetListedAt, ElementListedAt, IsWhole}
use Rattle.sc_flatten.specs.Laws.{StocksNameNoDiffs}
use Rattle.sc_flatten.proofs.Lists.{all_from, all_to, all_map, item_map, item_first}
use Rattle.sc_flatten.proofs.Firsts.{number_there}
use Rattle.sc_flatten.proofs.Problems.{stock_whole}

-- an element of a bank is none
no_diff_in : (by : Numbering) (e : Element) (s t : ℕ) → ElementListed by e → element_in by e ≢ elements.Diff s t
no_diff_in by (elements.Const c sort) s t h e = absurd cc
no_diff_in by (elements.Number affine) s t h e = absurd cc
no_diff_in by (elements.Diff a b) s t h e = absurd h

no_diff_by : (by : Numbering) (o : Option Node) (s t : ℕ) → ElementListedAt by o → element_by by o ≢ elements.Diff s t
no_diff_by by (Some (nodes.Element e)) s t h = no_diff_in by e s t h
no_diff_by by _ s t h = absurd h

module _ (bank : List Node) (assertions : List ℕ) (by : Numbering) (whole : IsWhole bank assertions by) where
  abbrev problem : Parts
  problem = problem_by bank assertions by

  unnamed : (e : ℕ) → IsAmong by.elements e → IsNoDiff problem (number_in by.elements e)
  unnamed e h s t at =
      let here = item_first (walked_by bank by) (map diff_of_pair (pairs_of (formulas_by bank by))) (number_in by.elements e) (element_by by (item_at bank e)) (item_map (λ n. element_by by (item_at bank n)) by.elements (number_in by.elements e) e (number_there by.elements e h)) in
      let both : Some (element_by by (item_at bank e)) ≡ Some (elements.Diff s t) = sym here ∙ at in
      no_diff_by by (item_at bank e) s t (all_to (λ n. ElementListedAt by (item_at bank n)) by.elements whole.elements e h) cc

  formula_unnamed : (f : Formula) → FormulaListed by f → FormulaNamesNoDiff problem (formula_in by f)
  formula_unnamed (formulas.Eq e f) h = (unnamed e h.0, unnamed f h.1)
  formula_unnamed (formulas.Member e s) h = unnamed e h.0
  formula_unnamed formulas.True h = tt
  formula_unnamed formulas.False h = tt
  formula_unnamed (formulas.Flag c) h = tt
  formula_unnamed (formulas.Not f) h = tt
  formula_unnamed (formulas.And fs) h = tt
  formula_unnamed (formulas.Or fs) h = tt
  formula_unnamed (formulas.Iff f g) h = tt
  formula_unnamed (formulas.EqSet s t) h = tt
  formula_unnamed (formulas.Le row) h = tt

  set_unnamed : (s : SetTerm) → SetListed by s → SetNamesNoDiff problem (set_in by s)
  set_unnamed (sets.Single e) h = unnamed e h
  set_unnamed (sets.Const c sort) h = tt
  set_unnamed (sets.Empty sort) h = tt
  set_unnamed (sets.Union a b) h = tt
  set_unnamed (sets.Inter a b) h = tt
  set_unnamed (sets.Minus a b) h = tt

  formula_unnamed_by : (o : Option Node) → FormulaListedAt by o → FormulaNamesNoDiff problem (formula_by by o)
  formula_unnamed_by (Some (nodes.Formula f)) h = formula_unnamed f h
  formula_unnamed_by _ h = absurd h

  set_unnamed_by : (o : Option Node) → SetListedAt by o → SetNamesNoDiff problem (set_by by o)
  set_unnamed_by (Some (nodes.Set s)) h = set_unnamed s h
  set_unnamed_by _ h = absurd h

  names_no_diff : NamesNoDiff problem
  names_no_diff = record {
    formulas = all_map (FormulaNamesNoDiff problem) (λ n. formula_by by (item_at bank n)) by.formulas (all_from (λ n. FormulaNamesNoDiff problem (formula_by by (item_at bank n))) by.formulas (λ n h. formula_unnamed_by (item_at bank n) (all_to (λ m. FormulaListedAt by (item_at bank m)) by.formulas whole.formulas n h)));
    sets = all_map (SetNamesNoDiff problem) (λ n. set_by by (item_at bank n)) by.sets (all_from (λ n. SetNamesNoDiff problem (set_by by (item_at bank n))) by.sets (λ n h. set_unnamed_by (item_at bank n) (all_to (λ m. SetListedAt by (item_at bank m)) by.sets whole.sets n h)));
  }

pub stocks_name_no_diffs : StocksNameNoDiffs
stocks_name_no_diffs bank assertions is formulas = names_no_diff bank assertions (numbering_of bank assertions) (stock_whole bank assertions is formulas)
