-- The stock of a bank's formulas stays as the bank grows.
use Rattle.std.proofs.Common.{◌≡◌, ℕ, zero, suc, ◌≤◌, Bool, List, [], ◌∷◌, ◌++◌, length, map, Option, refl, sym, ap, ◌∙◌, arith, length-append}
use Rattle.std.specs.Prelude.{cond, filter}
use Rattle.std.specs.List.{flat_map, AllByRecursion}
use Rattle.sc_base.specs.Numbered.{item_at}
use Rattle.sc_base.proofs.Integers.{all_weaker}
use Rattle.sc_terms.specs.declared.nodes.Node.{Node}
use Rattle.sc_terms.specs.Bank.{is_formula, is_set, is_element, IsFormulaOf, IsBank}
use Rattle.sc_terms.specs.Conditions.{IsIn}
use Rattle.sc_flatten.specs.Walk.{parts_at, constants_at, preorder, met, firsts, order_of}
use Rattle.sc_flatten.specs.Classes.{pairs_of, diff_of_pair, components_of, bases_of}
use Rattle.sc_flatten.specs.Stock.{Numbering, numbering_by, number_in, formula_by, set_by, element_by, formulas_by, sets_by, walked_by, problem_by, stock}
use Rattle.sc_flatten.specs.Laws.{AreFormulasOf, StocksStay}
use Rattle.sc_flatten.proofs.Lists.{all_from, all_filter, item_in, item_first}
use Rattle.sc_flatten.proofs.Below.{parts_below, item_within}
use Rattle.sc_flatten.proofs.Ready.{order_range}
use Rattle.sc_flatten.proofs.Walking.{flat_map_same}

-- ---- what is the same at each item is the same of all
filter_same : (s t : ℕ → Bool) (ns : List ℕ) → AllByRecursion (λ n. s n ≡ t n) ns → filter s ns ≡ filter t ns
filter_same s t [] h = refl
filter_same s t (n ∷ ns) h = λ i. cond (h.0 i) (n ∷ filter_same s t ns h.1 i) (filter_same s t ns h.1 i)

map_same : {Y : Type 0} (f g : ℕ → Y) (ns : List ℕ) → AllByRecursion (λ n. f n ≡ g n) ns → map f ns ≡ map g ns
map_same f g [] h = refl
map_same f g (n ∷ ns) h = λ i. h.0 i ∷ map_same f g ns h.1 i

module _ (bank more : List Node) (is : IsBank bank) where
  -- nodes keep their numbers
  item_same : (n : ℕ) → IsIn (length bank) n → item_at (bank ++ more) n ≡ item_at bank n
  item_same n h = let r = item_in bank n h in item_first bank more n r.0 r.1 ∙ sym r.1

  -- a walk that may go deeper meets the same
  preorder_same : (d e n : ℕ) → IsIn d n → d ≤ e → n ≤ length bank → preorder (bank ++ more) e n ≡ preorder bank d n
  preorder_same zero e n h deep top = absurd (omega (arith, h.0, h.1))
  preorder_same (suc d) zero n h deep top = absurd (omega (arith, deep))
  preorder_same (suc d) (suc e) n h deep top =
      ap (λ o. n ∷ flat_map (preorder (bank ++ more) e) (parts_at o)) (item_same n (h.0, top))
      ∙ ap (λ rest. n ∷ rest)
      (flat_map_same (preorder (bank ++ more) e) (preorder bank d) (parts_at (item_at bank n))
      (all_from (λ q. preorder (bank ++ more) e q ≡ preorder bank d q) (parts_at (item_at bank n)) (λ q k. let low = parts_below bank is n q k in preorder_same d e q (low.0, omega (arith, low.1, h.1)) (omega (arith, deep)) (omega (arith, low.1, top)))))

  module _ (assertions : List ℕ) (formulas : AreFormulasOf bank assertions) where
    met_same : met (bank ++ more) assertions ≡ met bank assertions
    met_same =
        flat_map_same (preorder (bank ++ more) (length (bank ++ more))) (preorder bank (length bank)) assertions
        (all_weaker (IsFormulaOf bank) (λ a. preorder (bank ++ more) (length (bank ++ more)) a ≡ preorder bank (length bank) a) (λ a f. let low = item_within is_formula refl bank a f in preorder_same (length bank) (length (bank ++ more)) a low (omega (arith, length-append bank more)) low.1) assertions formulas)

    order_same : order_of (bank ++ more) assertions ≡ order_of bank assertions
    order_same = ap firsts met_same

  -- ---- the nodes of an order are numbered as they were
  module _ (order : List ℕ) (range : AllByRecursion (IsIn (length bank)) order) where
    items_same : AllByRecursion (λ n. item_at (bank ++ more) n ≡ item_at bank n) order
    items_same = all_weaker (IsIn (length bank)) (λ n. item_at (bank ++ more) n ≡ item_at bank n) item_same order range

    by_item : {Y : Type 0} (f : Option Node → Y) → AllByRecursion (λ n. f (item_at (bank ++ more) n) ≡ f (item_at bank n)) order
    by_item f = all_weaker (λ n. item_at (bank ++ more) n ≡ item_at bank n) (λ n. f (item_at (bank ++ more) n) ≡ f (item_at bank n)) (λ n e. ap f e) order items_same

    kept_same : (t : Option Node → Bool) → filter (λ n. t (item_at (bank ++ more) n)) order ≡ filter (λ n. t (item_at bank n)) order
    kept_same t = filter_same (λ n. t (item_at (bank ++ more) n)) (λ n. t (item_at bank n)) order (by_item t)

    constants_same : flat_map (λ n. constants_at (item_at (bank ++ more) n)) order ≡ flat_map (λ n. constants_at (item_at bank n)) order
    constants_same = flat_map_same (λ n. constants_at (item_at (bank ++ more) n)) (λ n. constants_at (item_at bank n)) order (by_item constants_at)

    numbering_same : numbering_by (bank ++ more) order ≡ numbering_by bank order
    numbering_same = λ i. record { formulas = kept_same is_formula i; sets = kept_same is_set i; elements = kept_same is_element i; ints = firsts (constants_same i) }

    -- and what is read from the nodes of a kind is what it was
    kept_nodes : {Y : Type 0} (t : Option Node → Bool) (f : Option Node → Y) → map (λ n. f (item_at (bank ++ more) n)) (filter (λ n. t (item_at bank n)) order) ≡ map (λ n. f (item_at bank n)) (filter (λ n. t (item_at bank n)) order)
    kept_nodes t f = map_same (λ n. f (item_at (bank ++ more) n)) (λ n. f (item_at bank n)) (filter (λ n. t (item_at bank n)) order) (all_filter (λ n. t (item_at bank n)) (λ n. f (item_at (bank ++ more) n) ≡ f (item_at bank n)) order (by_item f))

  -- ---- so the problem is what it was
  module _ (assertions order : List ℕ) (range : AllByRecursion (IsIn (length bank)) order) where
    abbrev by : Numbering
    by = numbering_by bank order

    formulas_same : formulas_by (bank ++ more) by ≡ formulas_by bank by
    formulas_same = kept_nodes order range is_formula (formula_by by)

    sets_same : sets_by (bank ++ more) by ≡ sets_by bank by
    sets_same = kept_nodes order range is_set (set_by by)

    walked_same : walked_by (bank ++ more) by ≡ walked_by bank by
    walked_same = kept_nodes order range is_element (element_by by)

    problem_same : problem_by (bank ++ more) assertions by ≡ problem_by bank assertions by
    problem_same = λ i. record {
      roots = map (number_in by.formulas) assertions;
      assertions = assertions;
      formulas = formulas_same i;
      sets = sets_same i;
      elements = walked_same i ++ map diff_of_pair (pairs_of (formulas_same i));
      ints = by.ints;
      components = components_of (sets_same i) (formulas_same i);
      bases = bases_of (sets_same i) (components_of (sets_same i) (formulas_same i));
    }

  module _ (assertions : List ℕ) (formulas : AreFormulasOf bank assertions) where
    range_of : AllByRecursion (IsIn (length bank)) (order_of bank assertions)
    range_of = order_range bank is assertions formulas (order_of bank assertions) refl

    stock_same : stock (bank ++ more) assertions ≡ stock bank assertions
    stock_same =
        ap (λ order. problem_by (bank ++ more) assertions (numbering_by (bank ++ more) order)) (order_same assertions formulas)
        ∙ ap (problem_by (bank ++ more) assertions) (numbering_same (order_of bank assertions) range_of)
        ∙ problem_same assertions (order_of bank assertions) range_of

pub stocks_stay : StocksStay
stocks_stay old new begins assertions is formulas = ap (λ bank. stock bank assertions) begins.1 ∙ stock_same old begins.0 is assertions formulas
