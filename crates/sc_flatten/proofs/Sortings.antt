-- The stock of a well-sorted bank is well sorted.
use Rattle.std.proofs.Common.{◌≡◌, ℕ, Bool, true, false, cond, List, [], ◌∷◌, map, Option, Some, None, inl, inr, refl, sym, ap, subst, ◌∙◌}
use Rattle.std.specs.Prelude.{nat_lt}
use Rattle.std.specs.List.{flat_map, AllByRecursion}
use Rattle.sc_base.specs.Numbered.{item_at}
use Rattle.sc_terms.specs.declared.nodes.Element.{Element}
use Rattle.sc_terms.specs.declared.nodes.Element.TheVariants as elements
use Rattle.sc_terms.specs.declared.nodes.Formula.{Formula}
use Rattle.sc_terms.specs.declared.nodes.Formula.TheVariants as formulas
use Rattle.sc_terms.specs.declared.nodes.Node.{Node}
use Rattle.sc_terms.specs.declared.nodes.Node.TheVariants as nodes
use Rattle.sc_terms.specs.declared.nodes.SetTerm.{SetTerm}
use Rattle.sc_terms.specs.declared.nodes.SetTerm.TheVariants as sets
use Rattle.sc_terms.specs.declared.nodes.Sort.{Sort}
use Rattle.sc_terms.specs.declared.nodes.Sort.TheVariants as sorts
use Rattle.sc_sorts.specs.Sorted.{Sorting, FormulaIsSorted, SetIsSorted, ElementIsSorted, AreSorted, BankHasSorting}
use Rattle.sc_flatten.specs.Classes.{sides_of, same_pair, pairs_of, diff_of_pair}
use Rattle.sc_flatten.specs.Stock.{Numbering, numbering_of, number_in, formula_in, set_in, element_in, formula_by, set_by, element_by, formulas_by, walked_by, elements_by, problem_by}
use Rattle.sc_flatten.specs.Numbered.{IsAmong, FormulaListed, SetListed, ElementListed, FormulaListedAt, SetListedAt, ElementListedAt, IsWhole}
use Rattle.sc_flatten.specs.Laws.{StocksStaySorted}
use Rattle.sc_flatten.proofs.Lists.{all_from, all_to, all_flat_map, all_map, item_all, item_mapped, item_unmapped, item_appended}
use Rattle.sc_flatten.proofs.Firsts.{number_there}
use Rattle.sc_flatten.proofs.Problems.{all_inserted, stock_whole}

abbrev or_zero : Option ℕ → ℕ
or_zero None = 0
or_zero (Some n) = n

module _ (bank : List Node) (old : Sorting) (by : Numbering) where
  -- set terms of the stock are sorted as those of the bank
  abbrev members_by : ℕ → Sort
  members_by k = old.members (or_zero (item_at by.sets k))

  -- an element is sorted as that of the bank, or else as the sides between which it differs
  abbrev sort_by : Option ℕ → Option Element → Sort
  sort_by (Some n) o = old.element n
  sort_by None (Some (elements.Diff s t)) = members_by s
  sort_by None _ = sorts.Int

  abbrev new : Sorting
  new = record { members = members_by; element = λ k. sort_by (item_at by.elements k) (item_at (elements_by bank by) k) }

  members_at : (k m : ℕ) → item_at by.sets k ≡ Some m → new.members k ≡ old.members m
  members_at k m at = ap (λ o. old.members (or_zero o)) at

  element_at : (k m : ℕ) → item_at by.elements k ≡ Some m → new.element k ≡ old.element m
  element_at k m at = ap (λ o. sort_by o (item_at (elements_by bank by) k)) at

  members_same : (s : ℕ) → IsAmong by.sets s → new.members (number_in by.sets s) ≡ old.members s
  members_same s h = members_at (number_in by.sets s) s (number_there by.sets s h)

  element_same : (e : ℕ) → IsAmong by.elements e → new.element (number_in by.elements e) ≡ old.element e
  element_same e h = element_at (number_in by.elements e) e (number_there by.elements e h)

  -- ---- each kind of node
  formula_sorted : (f : Formula) → FormulaListed by f → FormulaIsSorted old f → FormulaIsSorted new (formula_in by f)
  formula_sorted (formulas.Eq e f) h s = element_same e h.0 ∙ (s ∙ sym (element_same f h.1))
  formula_sorted (formulas.EqSet a b) h s = members_same a h.0 ∙ (s ∙ sym (members_same b h.1))
  formula_sorted (formulas.Member e a) h s = element_same e h.0 ∙ (s ∙ sym (members_same a h.1))
  formula_sorted formulas.True h s = tt
  formula_sorted formulas.False h s = tt
  formula_sorted (formulas.Flag c) h s = tt
  formula_sorted (formulas.Not f) h s = tt
  formula_sorted (formulas.And fs) h s = tt
  formula_sorted (formulas.Or fs) h s = tt
  formula_sorted (formulas.Iff f g) h s = tt
  formula_sorted (formulas.Le row) h s = tt

  module _ (k m : ℕ) where
    set_sorted : (s : SetTerm) → item_at by.sets k ≡ Some m → SetListed by s → SetIsSorted old m s → SetIsSorted new k (set_in by s)
    set_sorted (sets.Const c sort) at h s = s ∙ ap Some (sym (members_at k m at))
    set_sorted (sets.Empty sort) at h s = s ∙ ap Some (sym (members_at k m at))
    set_sorted (sets.Single e) at h s = element_same e h ∙ (s ∙ sym (members_at k m at))
    set_sorted (sets.Union a b) at h s = (members_same a h.0 ∙ (s.0 ∙ sym (members_at k m at)), members_same b h.1 ∙ (s.1 ∙ sym (members_at k m at)))
    set_sorted (sets.Inter a b) at h s = (members_same a h.0 ∙ (s.0 ∙ sym (members_at k m at)), members_same b h.1 ∙ (s.1 ∙ sym (members_at k m at)))
    set_sorted (sets.Minus a b) at h s = (members_same a h.0 ∙ (s.0 ∙ sym (members_at k m at)), members_same b h.1 ∙ (s.1 ∙ sym (members_at k m at)))

    element_sorted : (e : Element) → item_at by.elements k ≡ Some m → ElementListed by e → ElementIsSorted old m e → ElementIsSorted new k (element_in by e)
    element_sorted (elements.Const c sort) at h s = element_at k m at ∙ s
    element_sorted (elements.Number affine) at h s = element_at k m at ∙ s
    element_sorted (elements.Diff a b) at h s = absurd h

  -- ---- pairs of sides
  abbrev OfOneSort : ℕ × ℕ → Type 0
  OfOneSort p = new.members p.0 ≡ new.members p.1

  pair_sorted : (s t : ℕ) (a b : Bool) → new.members s ≡ new.members t → AllByRecursion OfOneSort (cond a ((s, t) ∷ []) (cond b ((t, s) ∷ []) []))
  pair_sorted s t true b e = (e, tt)
  pair_sorted s t false true e = (sym e, tt)
  pair_sorted s t false false e = tt

  sides_sorted : (f : Formula) → FormulaIsSorted new f → AllByRecursion OfOneSort (sides_of f)
  sides_sorted (formulas.EqSet s t) e = pair_sorted s t (nat_lt s t) (nat_lt t s) e
  sides_sorted _ e = tt

  module _ (sorted : BankHasSorting bank old) (assertions : List ℕ) (whole : IsWhole bank assertions by) where
    formula_sorted_by : (m : ℕ) (o : Option Node) → item_at bank m ≡ o → FormulaListedAt by o → FormulaIsSorted new (formula_by by o)
    formula_sorted_by m (Some (nodes.Formula f)) at h = formula_sorted f h (sorted m (nodes.Formula f) at)
    formula_sorted_by m _ at h = absurd h

    set_sorted_by : (k m : ℕ) (o : Option Node) → item_at by.sets k ≡ Some m → item_at bank m ≡ o → SetListedAt by o → SetIsSorted new k (set_by by o)
    set_sorted_by k m (Some (nodes.Set s)) place at h = set_sorted k m s place h (sorted m (nodes.Set s) at)
    set_sorted_by k m _ place at h = absurd h

    element_sorted_by : (k m : ℕ) (o : Option Node) → item_at by.elements k ≡ Some m → item_at bank m ≡ o → ElementListedAt by o → ElementIsSorted new k (element_by by o)
    element_sorted_by k m (Some (nodes.Element e)) place at h = element_sorted k m e place h (sorted m (nodes.Element e) at)
    element_sorted_by k m _ place at h = absurd h

    formula_at_sorted : (m : ℕ) → IsAmong by.formulas m → FormulaIsSorted new (formula_by by (item_at bank m))
    formula_at_sorted m h = formula_sorted_by m (item_at bank m) refl (all_to (λ n. FormulaListedAt by (item_at bank n)) by.formulas whole.formulas m h)

    all_formulas_sorted : AllByRecursion (FormulaIsSorted new) (formulas_by bank by)
    all_formulas_sorted = all_map (FormulaIsSorted new) (λ n. formula_by by (item_at bank n)) by.formulas (all_from (λ n. FormulaIsSorted new (formula_by by (item_at bank n))) by.formulas formula_at_sorted)

    all_sides_sorted : (fs : List Formula) → AllByRecursion (FormulaIsSorted new) fs → AllByRecursion (λ f. AllByRecursion OfOneSort (sides_of f)) fs
    all_sides_sorted [] h = tt
    all_sides_sorted (f ∷ fs) h = (sides_sorted f h.0, all_sides_sorted fs h.1)

    pairs_sorted : AllByRecursion OfOneSort (pairs_of (formulas_by bank by))
    pairs_sorted = all_inserted same_pair OfOneSort [] (flat_map sides_of (formulas_by bank by)) tt (all_flat_map OfOneSort sides_of (formulas_by bank by) (all_sides_sorted (formulas_by bank by) all_formulas_sorted))

    -- an element behind those that the walk met
    diff_sorted : (k m : ℕ) (e : Element) → item_at (elements_by bank by) k ≡ Some e → item_at (walked_by bank by) k ≡ None → item_at (map diff_of_pair (pairs_of (formulas_by bank by))) m ≡ Some e → ElementIsSorted new k e
    diff_sorted k m e at past place =
        let q = item_mapped diff_of_pair (pairs_of (formulas_by bank by)) m e place in
        let p = q.0 in
        let alike = item_all OfOneSort (pairs_of (formulas_by bank by)) m p pairs_sorted q.1 in
        let own : new.element k ≡ new.members p.0 =
        ap (λ o. sort_by o (item_at (elements_by bank by) k)) (item_unmapped (λ n. element_by by (item_at bank n)) by.elements k past)
        ∙ ap (λ o. sort_by None o) (at ∙ ap Some (sym q.2)) in
        subst (ElementIsSorted new k) q.2 (sym own, sym alike ∙ sym own)

    walked_sorted : (k : ℕ) (e : Element) → item_at (walked_by bank by) k ≡ Some e → ElementIsSorted new k e
    walked_sorted k e at =
        let q = item_mapped (λ n. element_by by (item_at bank n)) by.elements k e at in
        subst (ElementIsSorted new k) q.2 (element_sorted_by k q.0 (item_at bank q.0) q.1 refl (item_all (λ n. ElementListedAt by (item_at bank n)) by.elements k q.0 whole.elements q.1))

    are_sorted : AreSorted (problem_by bank assertions by) new
    are_sorted = record {
      formulas = λ k f at. item_all (FormulaIsSorted new) (formulas_by bank by) k f all_formulas_sorted at;
      sets = λ k s at.
          let q = item_mapped (λ n. set_by by (item_at bank n)) by.sets k s at in
          subst (SetIsSorted new k) q.2 (set_sorted_by k q.0 (item_at bank q.0) q.1 refl (item_all (λ n. SetListedAt by (item_at bank n)) by.sets k q.0 whole.sets q.1));
      elements = λ k e at.
          elim (item_appended (walked_by bank by) (map diff_of_pair (pairs_of (formulas_by bank by))) k e at) [ inl h ↦ walked_sorted k e h | inr h ↦ diff_sorted k h.1.0 e at h.0 h.1.1 ];
    }

pub stocks_stay_sorted : StocksStaySorted
stocks_stay_sorted bank assertions is formulas well =
    (new bank well.0 (numbering_of bank assertions), are_sorted bank well.0 (numbering_of bank assertions) well.1 assertions (stock_whole bank assertions is formulas))
