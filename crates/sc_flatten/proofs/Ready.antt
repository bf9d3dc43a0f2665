-- The tables of the order in which a walk meets the nodes are ready for the problem.
use Rattle.std.proofs.Common.{◌≡◌, ℕ, List, length, sym, ap, subst, ◌∙◌, arith}
use Rattle.std.specs.List.{AllByRecursion}
use Rattle.sc_base.specs.Numbered.{item_at}
use Rattle.sc_terms.specs.declared.nodes.Node.{Node}
use Rattle.sc_terms.specs.Bank.{is_formula, is_set, is_element, IsBank}
use Rattle.sc_terms.specs.Conditions.{IsIn, IsProblem}
use Rattle.sc_flatten.specs.declared.tables.Tables.{Tables}
use Rattle.sc_flatten.specs.Walk.{order_of}
use Rattle.sc_flatten.specs.Stock.{Numbering, numbering_by, numbering_of, set_by, problem_by, stock}
use Rattle.sc_flatten.specs.Numbered.{IsWhole}
use Rattle.sc_flatten.specs.Tables.{numbering, IsNumbering, IsReady}
use Rattle.sc_flatten.specs.Laws.{AreFormulasOf}
use Rattle.sc_flatten.proofs.Lists.{all_from, all_filter, length-map}
use Rattle.sc_flatten.proofs.Closed.{order_closed}
use Rattle.sc_flatten.proofs.Problems.{stock_whole, stocks_are_problems}

module _ (bank : List Node) (is : IsBank bank) (assertions : List ℕ) (formulas : AreFormulasOf bank assertions) where
  order_in : AllByRecursion (IsIn (length bank)) (order_of bank assertions)
  order_in = all_from (IsIn (length bank)) (order_of bank assertions) (order_closed bank is assertions formulas).range

  pub order_range : (order : List ℕ) → order ≡ order_of bank assertions → AllByRecursion (IsIn (length bank)) order
  order_range order e = subst (AllByRecursion (IsIn (length bank))) (sym e) order_in

  module _ (t : Tables) (order : List ℕ) (e : order ≡ order_of bank assertions) (n : IsNumbering bank order t) where
    pub numbers_are : numbering t ≡ numbering_of bank assertions
    numbers_are = n.numbers ∙ ap (numbering_by bank) e

    is_whole : IsWhole bank assertions (numbering t)
    is_whole = subst (IsWhole bank assertions) (sym numbers_are) (stock_whole bank assertions is formulas)

    pub ready : IsReady bank assertions t
    ready = record {
      whole = is_whole;
      few = record { formulas = omega (arith, is_whole.few_formulas); sets = omega (arith, is_whole.few_sets); elements = omega (arith, is_whole.few_elements); ints = n.few };
      formulas = subst (AllByRecursion (IsIn (length bank))) (sym (ap (λ (m : Numbering). m.formulas) numbers_are)) (all_filter (λ k. is_formula (item_at bank k)) (IsIn (length bank)) (order_of bank assertions) order_in);
      sets = subst (AllByRecursion (IsIn (length bank))) (sym (ap (λ (m : Numbering). m.sets) numbers_are)) (all_filter (λ k. is_set (item_at bank k)) (IsIn (length bank)) (order_of bank assertions) order_in);
      elements = subst (AllByRecursion (IsIn (length bank))) (sym (ap (λ (m : Numbering). m.elements) numbers_are)) (all_filter (λ k. is_element (item_at bank k)) (IsIn (length bank)) (order_of bank assertions) order_in);
      few_sets = omega (arith, is_whole.few_sets, length-map (λ k. set_by (numbering t) (item_at bank k)) t.sets.keys);
      is_problem = subst (λ m. IsProblem (problem_by bank assertions m)) (sym numbers_are) (stocks_are_problems bank assertions is formulas);
    }

    pub problem_is : problem_by bank assertions (numbering t) ≡ stock bank assertions
    problem_is = ap (problem_by bank assertions) numbers_are
