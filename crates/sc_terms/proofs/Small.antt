-- Problems of memberships of constants and their negations alone are problems.
use Rattle.std.proofs.Common.{◌≡◌, ℕ, zero, suc, ◌+◌, ◌<◌, ◌≤◌, ◌^◌, Bool, true, false, cond, [], ◌∷◌, length, Option, Some, None, refl, sym, ap, subst, ◌∙◌, arith}
use Rattle.std.specs.Prelude.{nat_eq}
use Rattle.std.specs.List.{AllByRecursion, count_by}
use Rattle.std.proofs.lemmas.List.Sums.{sum_by-cons}
use Rattle.sc_base.proofs.Integers.{all_weaker}
use Rattle.sc_terms.specs.declared.nodes.Element.{Element}
use Rattle.sc_terms.specs.declared.nodes.Element.TheVariants as elements
use Rattle.sc_terms.specs.declared.nodes.SetTerm.{SetTerm}
use Rattle.sc_terms.specs.declared.nodes.SetTerm.TheVariants as sets
use Rattle.sc_terms.specs.declared.nodes.Formula.{Formula}
use Rattle.sc_terms.specs.declared.nodes.Formula.TheVariants as formulas
use Rattle.sc_terms.specs.declared.problem.Parts.{Parts}
use Rattle.sc_terms.specs.Lookup.{formula_at, set_at, element_at, is_listed}
use Rattle.sc_terms.proofs.Ranges.{item_in, item_all}
use Rattle.sc_terms.specs.Literals.{IsConstSet, IsConstElement, IsMembership, IsLiteral, singles_from, IsOfLiterals, LiteralsMakeProblem}
use Rattle.sc_terms.specs.Values.{node_count}
use Rattle.sc_terms.specs.Conditions.{IsIn, SetIn, ElementIn, FormulaIn, Ranks, SetBelow, ElementBelow, FormulaBelow, Descends, home_count, homes_due, IsProblem}

-- ---- single numbers
singles_in : (last k n : ℕ) → 0 < k → k + n ≤ last + 1 → AllByRecursion (λ c. AllByRecursion (IsIn last) c) (singles_from k n)
singles_in last k zero p q = tt
singles_in last k (suc n) p q =
    (((p, omega arith), tt), singles_in last (k + 1) n (omega arith) (omega arith))

length-singles : (k n : ℕ) → length (singles_from k n) ≡ n
length-singles k zero = refl
length-singles k (suc n) = ap suc (length-singles (k + 1) n)

count_more : (b : Bool) (s k n m : ℕ) → nat_eq s k ≡ b → count_by (is_listed s) (singles_from (k + 1) n) ≡ m → count_by (is_listed s) (singles_from k (suc n)) ≡ cond b (suc m) m
count_more true s k n m e h =
    sum_by-cons (λ c. cond (is_listed s c) 1 0) (k ∷ []) (singles_from (k + 1) n) ∙ rw (e, h) (omega arith)
count_more false s k n m e h =
    sum_by-cons (λ c. cond (is_listed s c) 1 0) (k ∷ []) (singles_from (k + 1) n) ∙ rw (e, h) (omega arith)

count_past : (s k n : ℕ) → s < k → count_by (is_listed s) (singles_from k n) ≡ 0
count_past s k zero h = refl
count_past s k (suc n) h = count_more false s k n 0 (grind arith) (count_past s (k + 1) n (omega arith))

count_here : (b : Bool) (s k n : ℕ) → nat_eq s k ≡ b → k ≤ s → s < k + suc n → (k + 1 ≤ s → s < k + 1 + n → count_by (is_listed s) (singles_from (k + 1) n) ≡ 1) → count_by (is_listed s) (singles_from k (suc n)) ≡ 1
count_here true s k n e p q rest =
    let same : s ≡ k = grind arith in count_more true s k n 0 e (count_past s (k + 1) n (omega arith))
count_here false s k n e p q rest =
    let above : k < s = grind arith in count_more false s k n 1 e (rest (omega arith) (omega arith))

count_one : (s k n : ℕ) → k ≤ s → s < k + n → count_by (is_listed s) (singles_from k n) ≡ 1
count_one s k zero p q = absurd (omega arith)
count_one s k (suc n) p q = count_here (nat_eq s k) s k n refl p q (count_one s (k + 1) n)

-- ---- each condition
const_set_in : (problem : Parts) (s : SetTerm) → IsConstSet s → SetIn problem s
const_set_in problem (sets.Const c sort) h = tt
const_set_in problem _ h = absurd h

const_element_in : (problem : Parts) (e : Element) → IsConstElement e → ElementIn problem e
const_element_in problem (elements.Const c sort) h = tt
const_element_in problem _ h = absurd h

membership_in : (problem : Parts) (n : ℕ) (o : Option Formula) → formula_at problem n ≡ o → IsMembership o → IsIn (length problem.formulas) n
membership_in problem n None e h = absurd h
membership_in problem n (Some f) e h = item_in problem.formulas n f e

literal_in : (problem : Parts) (f : Formula) → IsLiteral problem f → FormulaIn problem f
literal_in problem (formulas.Member e s) h = h
literal_in problem (formulas.Not f) h = membership_in problem f (formula_at problem f) refl h
literal_in problem _ h = absurd h

one_due : (s : SetTerm) → IsConstSet s → homes_due s ≡ 1
one_due (sets.Const c sort) h = refl
one_due _ h = absurd h

const_set_below : (ranks : Ranks) (r : ℕ) (s : SetTerm) → IsConstSet s → SetBelow ranks r s
const_set_below ranks r (sets.Const c sort) h = tt
const_set_below ranks r _ h = absurd h

const_element_below : (problem : Parts) (ranks : Ranks) (r : ℕ) (e : Element) → IsConstElement e → ElementBelow problem ranks r e
const_element_below problem ranks r (elements.Const c sort) h = tt
const_element_below problem ranks r _ h = absurd h

-- a negation has the rank 2, a membership 1, sets and elements 0
abbrev rank_of : Option Formula → ℕ
rank_of (Some (formulas.Not f)) = 2
rank_of (Some (formulas.Member e s)) = 1
rank_of _ = 0

module _ (problem : Parts) (is : IsOfLiterals problem) where
  literal_ranks : Ranks
  literal_ranks = record { formula = λ n. rank_of (formula_at problem n); set = λ n. 0; element = λ n. 0 }

  -- there is a membership, and so an element and a set
  membership_deep : (n : ℕ) (o : Option Formula) → formula_at problem n ≡ o → IsMembership o → (2 < node_count problem) × (rank_of o ≡ 1)
  membership_deep n (Some (formulas.Member e s)) at h =
      let one = item_in problem.formulas n (formulas.Member e s) at in
      let here = item_all (IsLiteral problem) problem.formulas n (formulas.Member e s) is.formulas at in
      (deep one here, refl) where
        deep : IsIn (length problem.formulas) n → IsLiteral problem (formulas.Member e s) → 2 < node_count problem
        deep one here =
            let a = one.0 in let b = one.1 in let c = here.0.0 in let d = here.0.1 in let x = here.1.0 in let y = here.1.1 in omega arith
  membership_deep n _ at h = absurd h

  formula_falls : (n : ℕ) (f : Formula) → formula_at problem n ≡ Some f → IsLiteral problem f → (rank_of (Some f) < node_count problem) × FormulaBelow problem literal_ranks (rank_of (Some f)) f
  unfolding literal_ranks
  formula_falls n (formulas.Member e s) at h =
      let deep = (membership_deep n (Some (formulas.Member e s)) at tt).0 in (omega arith, (omega arith, omega arith))
  formula_falls n (formulas.Not f) at h =
      let deep = membership_deep f (formula_at problem f) refl h in
      let most = deep.0 in let one = deep.1 in (most, omega arith)
  formula_falls n _ at h = absurd h

  sets_deep : (n : ℕ) (s : SetTerm) → set_at problem n ≡ Some s → 0 < node_count problem
  sets_deep n s at = let one = item_in problem.sets n s at in let a = one.0 in let b = one.1 in omega arith

  elements_deep : (n : ℕ) (e : Element) → element_at problem n ≡ Some e → 0 < node_count problem
  elements_deep n e at =
      let one = item_in problem.elements n e at in let a = one.0 in let b = one.1 in omega arith

  falls : Descends problem (node_count problem) literal_ranks
  unfolding literal_ranks
  falls = record {
    formulas = λ n f at. subst (λ o. (rank_of o < node_count problem) × FormulaBelow problem literal_ranks (rank_of o) f) (sym at) (formula_falls n f at (item_all (IsLiteral problem) problem.formulas n f is.formulas at));
    sets = λ n s at. (sets_deep n s at, const_set_below literal_ranks 0 s (item_all IsConstSet problem.sets n s is.sets at));
    elements = λ n e at. (elements_deep n e at, const_element_below problem literal_ranks 0 e (item_all IsConstElement problem.elements n e is.elements at));
  }

  one_home : (n : ℕ) (s : SetTerm) → set_at problem n ≡ Some s → home_count problem n ≡ homes_due s
  one_home n s at =
      let place = item_in problem.sets n s at in
      let a = place.0 in
      let b = place.1 in
      ap (count_by (is_listed n)) is.components
      ∙ (count_one n 1 (length problem.sets) (omega arith) (omega arith)
      ∙ sym (one_due s (item_all IsConstSet problem.sets n s is.sets at)))

  of_literals : IsProblem problem
  of_literals = record {
    roots = is.roots;
    assertions = is.assertions;
    formulas = all_weaker (IsLiteral problem) (FormulaIn problem) (literal_in problem) problem.formulas is.formulas;
    sets = all_weaker IsConstSet (SetIn problem) (const_set_in problem) problem.sets is.sets;
    elements = all_weaker IsConstElement (ElementIn problem) (const_element_in problem) problem.elements is.elements;
    components = rw is.components (singles_in (length problem.sets) 1 (length problem.sets) (omega arith) (omega arith));
    homes = one_home;
    bases = rw is.bases (singles_in (length problem.sets) 1 (length problem.sets) (omega arith) (omega arith));
    bases_match = ap length is.bases ∙ ap length (sym is.components);
    few_formulas = is.few_formulas;
    few_sets = is.few_sets;
    few_elements = is.few_elements;
    few_components = subst (λ n. n < 2 ^ 32) (sym (ap length is.components ∙ length-singles 1 (length problem.sets))) is.few_sets;
    acyclic = (literal_ranks, falls);
  }

pub literals_make_problem : LiteralsMakeProblem
literals_make_problem problem is = of_literals problem is
