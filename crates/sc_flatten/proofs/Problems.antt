-- The stock of a bank's formulas is a problem.
use Rattle.std.proofs.Common.{ℕ, ◌^◌, ◌<◌, ◌≤◌, Bool, true, false, cond, ℤ, List, [], ◌∷◌, ◌++◌, length, map, Option, Some, sym, subst, arith, length-append}
use Rattle.std.specs.Prelude.{nat_lt}
use Rattle.std.specs.List.{list_any, flat_map, AllByRecursion}
use Rattle.indexmap.specs.IndexSet.{insert_key, insert_all}
use Rattle.sc_base.specs.Numbered.{item_at}
use Rattle.sc_base.proofs.Integers.{all_weaker}
use Rattle.sc_terms.specs.declared.atoms.Atom.{Atom}
use Rattle.sc_terms.specs.declared.atoms.Atom.TheVariants as atoms
use Rattle.sc_terms.specs.declared.nodes.Element.{Element}
use Rattle.sc_terms.specs.declared.nodes.Element.TheVariants as elements
use Rattle.sc_terms.specs.declared.nodes.Formula.{Formula}
use Rattle.sc_terms.specs.declared.nodes.Formula.TheVariants as formulas
use Rattle.sc_terms.specs.declared.nodes.Node.{Node}
use Rattle.sc_terms.specs.declared.nodes.Node.TheVariants as nodes
use Rattle.sc_terms.specs.declared.nodes.SetTerm.{SetTerm}
use Rattle.sc_terms.specs.declared.nodes.SetTerm.TheVariants as sets
use Rattle.sc_terms.specs.declared.problem.Parts.{Parts}
use Rattle.sc_terms.specs.Bank.{IsBank}
use Rattle.sc_terms.specs.Conditions.{IsIn, TermIn, FormulaIn, SetIn, ElementIn, IsProblem}
use Rattle.sc_flatten.specs.Walk.{order_of}
use Rattle.sc_flatten.specs.Classes.{sides_of, same_pair, pairs_of, diff_of_pair, components_of, basis_in}
use Rattle.sc_flatten.specs.Stock.{Numbering, numbering_by, numbering_of, number_in, form_in, formula_in, set_in, element_in, formula_by, set_by, element_by, formulas_by, problem_by}
use Rattle.sc_flatten.specs.Numbered.{IsAmong, TermListed, FormulaListed, SetListed, ElementListed, FormulaListedAt, SetListedAt, ElementListedAt, IsWhole}
use Rattle.sc_flatten.specs.Laws.{AreFormulasOf, StocksAreProblems}
use Rattle.sc_flatten.proofs.Lists.{all_map, all_joined, all_flat_map, in_append, length-map}
use Rattle.sc_flatten.proofs.Firsts.{number_within, inserted_length}
use Rattle.sc_flatten.proofs.Closed.{IsClosed, assertions_met, order_closed}
use Rattle.sc_flatten.proofs.Whole.{whole}
use Rattle.sc_flatten.proofs.Homes.{homes_hold, components_in, bases_in, few_components}
use Rattle.sc_flatten.proofs.Falls.{all_placed, stock_ranks, falls}
use Rattle.sc_flatten.proofs.Placing.{form_in_form}

-- ---- what holds of all pairs holds of those that stand once
module _ {X : Type 0} (eq : X → X → Bool) (P : X → Type 0) where
  all_pushed : (x : X) (ys : List X) → P x → AllByRecursion P ys → AllByRecursion P (ys ++ x ∷ [])
  all_pushed x [] p a = (p, tt)
  all_pushed x (y ∷ ys) p a = (a.0, all_pushed x ys p a.1)

  all_entered : (b : Bool) (x : X) (ks : List X) → P x → AllByRecursion P ks → AllByRecursion P (cond b ks (ks ++ x ∷ []))
  all_entered true x ks p a = a
  all_entered false x ks p a = all_pushed x ks p a

  pub all_inserted : (ks xs : List X) → AllByRecursion P ks → AllByRecursion P xs → AllByRecursion P (insert_all eq ks xs)
  all_inserted ks [] h k = h
  all_inserted ks (x ∷ xs) h k = all_inserted (insert_key eq ks x) xs (all_entered (list_any (eq x) ks) x ks k.0 h) k.1

-- ---- pairs of sides
module _ (last : ℕ) where
  abbrev PairIn : ℕ × ℕ → Type 0
  PairIn p = IsIn last p.0 × IsIn last p.1

  sorted_in : (s t : ℕ) (a b : Bool) → IsIn last s → IsIn last t → AllByRecursion PairIn (cond a ((s, t) ∷ []) (cond b ((t, s) ∷ []) []))
  sorted_in s t true b p q = ((p, q), tt)
  sorted_in s t false true p q = ((q, p), tt)
  sorted_in s t false false p q = tt

abbrev sides : ℕ → ℕ → Bool → Bool → List (ℕ × ℕ)
sides s t a b = cond a ((s, t) ∷ []) (cond b ((t, s) ∷ []) [])

few_sides : (s t : ℕ) (a b : Bool) → length (sides s t a b) ≤ 1
few_sides s t true b = omega arith
few_sides s t false true = omega arith
few_sides s t false false = omega arith

sides_length : (f : Formula) → length (sides_of f) ≤ 1
sides_length (formulas.EqSet s t) = few_sides s t (nat_lt s t) (nat_lt t s)
sides_length _ = omega arith

all_sides_length : (fs : List Formula) → length (flat_map sides_of fs) ≤ length fs
all_sides_length [] = omega arith
all_sides_length (f ∷ fs) = omega (arith, length-append (sides_of f) (flat_map sides_of fs), sides_length f, all_sides_length fs)

pairs_length : (fs : List Formula) → length (pairs_of fs) ≤ length fs
pairs_length fs = omega (arith, inserted_length same_pair [] (flat_map sides_of fs), all_sides_length fs)

module _ (bank : List Node) (is : IsBank bank) (order : List ℕ) (closed : IsClosed bank order) (assertions : List ℕ) (whole : IsWhole bank assertions (numbering_by bank order)) where
  abbrev by : Numbering
  by = numbering_by bank order

  abbrev problem : Parts
  problem = problem_by bank assertions by

  formula_number_in : (n : ℕ) → IsAmong by.formulas n → IsIn (length problem.formulas) (number_in by.formulas n)
  formula_number_in n h = subst (λ k. IsIn k (number_in by.formulas n)) (sym (length-map (λ m. formula_by by (item_at bank m)) by.formulas)) (number_within by.formulas n h)

  set_number_in : (n : ℕ) → IsAmong by.sets n → IsIn (length problem.sets) (number_in by.sets n)
  set_number_in n h = subst (λ k. IsIn k (number_in by.sets n)) (sym (length-map (λ m. set_by by (item_at bank m)) by.sets)) (number_within by.sets n h)

  element_number_in : (n : ℕ) → IsAmong by.elements n → IsIn (length problem.elements) (number_in by.elements n)
  element_number_in n h =
      in_append (map (λ m. element_by by (item_at bank m)) by.elements) (map diff_of_pair (pairs_of (formulas_by bank by))) (number_in by.elements n)
      (subst (λ k. IsIn k (number_in by.elements n)) (sym (length-map (λ m. element_by by (item_at bank m)) by.elements)) (number_within by.elements n h))

  form_is_in : (form : List (ℤ × Atom)) → AllByRecursion (TermListed by) form → AllByRecursion (TermIn problem) (form_in by form)
  form_is_in [] h = tt
  form_is_in ((z, atoms.Int n) ∷ ps) h = all_placed (TermIn problem) (z, atoms.Int (number_in by.ints n)) (form_in by ps) (h.0.0, number_within by.ints n h.0.1) (form_is_in ps h.1)
  form_is_in ((z, atoms.Card s) ∷ ps) h = all_placed (TermIn problem) (z, atoms.Card (number_in by.sets s)) (form_in by ps) (h.0.0, set_number_in s h.0.1) (form_is_in ps h.1)
  form_is_in ((z, atoms.Diff e) ∷ ps) h = absurd h.0.1
  form_is_in ((z, atoms.Size cube) ∷ ps) h = absurd h.0.1

  formulas_are_in : (fs : List ℕ) → AllByRecursion (IsAmong by.formulas) fs → AllByRecursion (IsIn (length problem.formulas)) (map (number_in by.formulas) fs)
  formulas_are_in fs h = all_map (IsIn (length problem.formulas)) (number_in by.formulas) fs (all_weaker (IsAmong by.formulas) (λ n. IsIn (length problem.formulas) (number_in by.formulas n)) formula_number_in fs h)

  formula_is_in : (f : Formula) → FormulaListed by f → FormulaIn problem (formula_in by f)
  formula_is_in formulas.True h = tt
  formula_is_in formulas.False h = tt
  formula_is_in (formulas.Flag c) h = tt
  formula_is_in (formulas.Not f) h = formula_number_in f h
  formula_is_in (formulas.And fs) h = formulas_are_in fs h
  formula_is_in (formulas.Or fs) h = formulas_are_in fs h
  formula_is_in (formulas.Iff f g) h = (formula_number_in f h.0, formula_number_in g h.1)
  formula_is_in (formulas.Eq e f) h = (element_number_in e h.0, element_number_in f h.1)
  formula_is_in (formulas.EqSet s t) h = (set_number_in s h.0, set_number_in t h.1)
  formula_is_in (formulas.Member e s) h = (element_number_in e h.0, set_number_in s h.1)
  formula_is_in (formulas.Le row) h = (form_in_form by row.form h, form_is_in row.form h.1)

  set_is_in : (s : SetTerm) → SetListed by s → SetIn problem (set_in by s)
  set_is_in (sets.Const c sort) h = tt
  set_is_in (sets.Empty sort) h = tt
  set_is_in (sets.Single e) h = element_number_in e h
  set_is_in (sets.Union s t) h = (set_number_in s h.0, set_number_in t h.1)
  set_is_in (sets.Inter s t) h = (set_number_in s h.0, set_number_in t h.1)
  set_is_in (sets.Minus s t) h = (set_number_in s h.0, set_number_in t h.1)

  element_is_in : (e : Element) → ElementListed by e → ElementIn problem (element_in by e)
  element_is_in (elements.Const c sort) h = tt
  element_is_in (elements.Number affine) h = ((form_in_form by affine.form h.0, form_is_in affine.form h.0.1), h.1)
  element_is_in (elements.Diff s t) h = absurd h

  formula_by_in : (o : Option Node) → FormulaListedAt by o → FormulaIn problem (formula_by by o)
  formula_by_in (Some (nodes.Formula f)) h = formula_is_in f h
  formula_by_in _ h = absurd h

  set_by_in : (o : Option Node) → SetListedAt by o → SetIn problem (set_by by o)
  set_by_in (Some (nodes.Set s)) h = set_is_in s h
  set_by_in _ h = absurd h

  element_by_in : (o : Option Node) → ElementListedAt by o → ElementIn problem (element_by by o)
  element_by_in (Some (nodes.Element e)) h = element_is_in e h
  element_by_in _ h = absurd h

  all_formulas_in : AllByRecursion (FormulaIn problem) problem.formulas
  all_formulas_in = all_map (FormulaIn problem) (λ n. formula_by by (item_at bank n)) by.formulas (all_weaker (λ n. FormulaListedAt by (item_at bank n)) (λ n. FormulaIn problem (formula_by by (item_at bank n))) (λ n h. formula_by_in (item_at bank n) h) by.formulas whole.formulas)

  all_sets_in : AllByRecursion (SetIn problem) problem.sets
  all_sets_in = all_map (SetIn problem) (λ n. set_by by (item_at bank n)) by.sets (all_weaker (λ n. SetListedAt by (item_at bank n)) (λ n. SetIn problem (set_by by (item_at bank n))) (λ n h. set_by_in (item_at bank n) h) by.sets whole.sets)

  walked_in : AllByRecursion (ElementIn problem) (map (λ n. element_by by (item_at bank n)) by.elements)
  walked_in = all_map (ElementIn problem) (λ n. element_by by (item_at bank n)) by.elements (all_weaker (λ n. ElementListedAt by (item_at bank n)) (λ n. ElementIn problem (element_by by (item_at bank n))) (λ n h. element_by_in (item_at bank n) h) by.elements whole.elements)

  sides_in : (f : Formula) → FormulaIn problem f → AllByRecursion (PairIn (length problem.sets)) (sides_of f)
  sides_in (formulas.EqSet s t) h = sorted_in (length problem.sets) s t (nat_lt s t) (nat_lt t s) h.0 h.1
  sides_in _ h = tt

  pairs_in : AllByRecursion (PairIn (length problem.sets)) (pairs_of problem.formulas)
  pairs_in = all_inserted same_pair (PairIn (length problem.sets)) [] (flat_map sides_of problem.formulas) tt (all_flat_map (PairIn (length problem.sets)) sides_of problem.formulas (all_weaker (FormulaIn problem) (λ f. AllByRecursion (PairIn (length problem.sets)) (sides_of f)) sides_in problem.formulas all_formulas_in))

  diffs_in : AllByRecursion (ElementIn problem) (map diff_of_pair (pairs_of problem.formulas))
  diffs_in = all_map (ElementIn problem) diff_of_pair (pairs_of problem.formulas) pairs_in

  few_sets : length problem.sets < 2 ^ 31
  few_sets = omega (arith, whole.few_sets, length-map (λ m. set_by by (item_at bank m)) by.sets)

  few_formulas : length problem.formulas < 2 ^ 31
  few_formulas = omega (arith, whole.few_formulas, length-map (λ m. formula_by by (item_at bank m)) by.formulas)

  few_elements : length problem.elements < 2 ^ 32
  few_elements =
      let a = length-append (map (λ m. element_by by (item_at bank m)) by.elements) (map diff_of_pair (pairs_of problem.formulas)) in
      let b = length-map (λ m. element_by by (item_at bank m)) by.elements in
      let c = length-map diff_of_pair (pairs_of problem.formulas) in
      let d = pairs_length problem.formulas in
      omega (arith, a, b, c, d, whole.few_elements, few_formulas)

  pairs_in_sets : AllByRecursion (PairIn (length by.sets)) (pairs_of problem.formulas)
  pairs_in_sets = subst (λ k. AllByRecursion (PairIn k) (pairs_of problem.formulas)) (length-map (λ m. set_by by (item_at bank m)) by.sets) pairs_in

  pub is_problem : IsProblem problem
  is_problem = record {
    roots = formulas_are_in assertions whole.roots;
    assertions = sym (length-map (number_in by.formulas) assertions);
    formulas = all_formulas_in;
    sets = all_sets_in;
    elements = all_joined (ElementIn problem) (map (λ n. element_by by (item_at bank n)) by.elements) (map diff_of_pair (pairs_of problem.formulas)) walked_in diffs_in;
    components = components_in problem.sets problem.formulas;
    homes = homes_hold problem.sets problem.formulas;
    bases = bases_in problem.sets problem.formulas;
    bases_match = length-map (basis_in problem.sets) (components_of problem.sets problem.formulas);
    few_formulas = omega (arith, few_formulas);
    few_sets = omega (arith, few_sets);
    few_elements = few_elements;
    few_components = omega (arith, few_components problem.sets problem.formulas, few_sets);
    acyclic = (stock_ranks bank is order closed assertions whole, falls bank is order closed assertions whole pairs_in_sets);
  }

pub stock_whole : (bank : List Node) (assertions : List ℕ) → IsBank bank → AreFormulasOf bank assertions → IsWhole bank assertions (numbering_of bank assertions)
stock_whole bank assertions is formulas = whole bank is (order_of bank assertions) (order_closed bank is assertions formulas) assertions (assertions_met bank is assertions formulas) formulas

pub stocks_are_problems : StocksAreProblems
stocks_are_problems bank assertions is formulas = is_problem bank is (order_of bank assertions) (order_closed bank is assertions formulas) assertions (stock_whole bank assertions is formulas)
