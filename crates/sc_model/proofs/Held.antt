-- On a settled path each set term has, under the values that are read off, the labels of the elements that the path puts into it.
use Rattle.std.proofs.Common.{◌≡◌, ◌≢◌, ℕ, zero, suc, ◌<◌, Bool, true, false, not, ◌&&◌, ◌||◌, ℤ, pos, List, [], ◌∷◌, length, Option, Some, None, ◌⊎◌, inl, inr, refl, sym, ap, subst, ◌∙◌, arith}
use Rattle.std.specs.Prelude.{is_some, if◌then◌else◌}
use Rattle.std.specs.List.{AllByRecursion}
use Rattle.std.specs.Ordering.{int_eq}
use Rattle.std.proofs.lemmas.Bool.{false≢true}
use Rattle.sc_base.specs.Options.{◌>>=◌}
use Rattle.sc_base.specs.Integers.{has_element}
use Rattle.sc_base.proofs.Bools.{and_true, or_true, or_right, or_none, and_right}
use Rattle.sc_base.proofs.Integers.{same-int_eq}
use Rattle.sc_terms.specs.declared.nodes.Element.{Element}
use Rattle.sc_terms.specs.declared.nodes.SetTerm.{SetTerm}
use Rattle.sc_terms.specs.declared.nodes.SetTerm.TheVariants as sets
use Rattle.sc_terms.specs.declared.nodes.Sort.{Sort}
use Rattle.sc_terms.specs.declared.problem.Parts.{Parts}
use Rattle.sc_terms.specs.Lookup.{set_at, element_at}
use Rattle.sc_terms.specs.Meaning.{Interpretation, Valuation, Fits, members_of}
use Rattle.sc_terms.specs.Conditions.{IsIn, SetIn, Ranks, SetBelow, Descends, IsProblem}
use Rattle.sc_terms.specs.Values.{node_count}
use Rattle.sc_terms.proofs.Ranges.{item_in, item_all, set_in}
use Rattle.sc_facts.specs.declared.fact.Fact.{Fact}
use Rattle.sc_facts.specs.declared.fact.Fact.TheVariants as facts
use Rattle.sc_facts.specs.Facts.{has}
use Rattle.sc_sorts.specs.Sorts.{sorts_within, element_sort_of, element_sort, are_same, may_hold}
use Rattle.sc_sorts.specs.Sorted.{Sorting, AreSorted, SetIsSorted, SortsMatch}
use Rattle.sc_sorts.specs.Posed.{NamesSet, IsNoDiff, SetNamesNoDiff, NamesNoDiff}
use Rattle.sc_rules.specs.Pairs.{equal_fact}
use Rattle.sc_rules.specs.Members.{within, within_of, op_sign, argument, single_of}
use Rattle.sc_model.specs.Settled.{Stands, IsSettledBy}
use Rattle.sc_model.specs.Modelling.{is_put, IsLabelIn, AreLabelsIn}
use Rattle.sc_model.proofs.Paths.{item_there, plus_first, minus_second, signed, never_both, not_within, within_is, within_plus, has_union, has_inter, has_minus, int_same, one_label}

-- ---- sorts
some_second : (a b : Option Sort) → are_same a b ≡ true → is_some b ≡ true
some_second None b e = absurd (false≢true e)
some_second (Some a) None e = absurd (false≢true e)
some_second (Some a) (Some b) e = refl

sort_there : (problem : Parts) (depth e : ℕ) → is_some ((sorts_within problem depth).element e) ≡ true → (y : Element) × (element_at problem e ≡ Some y)
sort_there problem zero e h = absurd (false≢true h)
sort_there problem (suc depth) e h = by (element_at problem e) refl h
  where
    by : (o : Option Element) → element_at problem e ≡ o → is_some (o >>= element_sort_of (sorts_within problem depth)) ≡ true → (y : Element) × (element_at problem e ≡ Some y)
    by None at g = absurd (false≢true g)
    by (Some y) at g = (y, at)

-- what could be a member is an element
pub element_held : (problem : Parts) (s e : ℕ) → may_hold problem s e ≡ true → (y : Element) × (element_at problem e ≡ Some y)
element_held problem s e h = sort_there problem (node_count problem) e (some_second _ (element_sort problem e) h)

pub element_in_range : (problem : Parts) (s e : ℕ) → may_hold problem s e ≡ true → IsIn (length problem.elements) e
element_in_range problem s e h = let y = element_held problem s e h in item_in problem.elements e y.0 y.1

pub held_on : SortsMatch → (problem : Parts) → IsProblem problem → (by : Sorting) → AreSorted problem by → (s t e : ℕ) (x y : SetTerm) → set_at problem s ≡ Some x → set_at problem t ≡ Some y → by.members s ≡ by.members t → may_hold problem s e ≡ true → may_hold problem t e ≡ true
held_on match problem made by sorted s t e x y at_s at_t same h =
    let z = element_held problem s e h in
    (match.held problem made by sorted t e y z.0 at_t z.1).1 (sym same ∙ (match.held problem made by sorted s e x z.0 at_s z.1).0 h)

-- ---- set terms
module _ (problem : Parts) (made : IsProblem problem) (by : Sorting) (sorted : AreSorted problem by) (match : SortsMatch) (path : List Fact) (label : ℕ → ℕ) (settled : IsSettledBy problem path label) where
  put_of : (e s : ℕ) → is_put problem path e s ≡ true → (may_hold problem s e ≡ true) × (within path e s true ≡ true)
  put_of e s h = and_true (may_hold problem s e) (within path e s true) h

  pub put : (e s : ℕ) → may_hold problem s e ≡ true → within path e s true ≡ true → is_put problem path e s ≡ true
  put e s may h = rw (may, h) refl

  pub either : (e s : ℕ) → may_hold problem s e ≡ true → (within path e s true ≡ true) ⊎ (within path e s false ≡ true)
  either e s may = signed (within path e s true) (within path e s false) (settled.decided e s may)

  -- elements with one label are put into the same sets
  pub put_alike : (e f s : ℕ) → may_hold problem s e ≡ true → is_put problem path f s ≡ true → label e ≡ label f → is_put problem path e s ≡ true
  put_alike e f s may h same =
      let parts = put_of f s h in
      put e s may (within_plus path e s (settled.congruent e f s may parts.0 same ∙ within_is path settled.consistent f s true parts.1))

  -- what is outside a set has no label that is in it
  pub outside : (e s : ℕ) (xs : List ℤ) → AreLabelsIn problem path label s xs → may_hold problem s e ≡ true → within path e s false ≡ true → has_element xs (pos (label e)) ≡ false
  outside e s xs are may h = by_case (has_element xs (pos (label e))) refl
    where
      by_case : (b : Bool) → has_element xs (pos (label e)) ≡ b → b ≡ false
      by_case false g = refl
      by_case true g =
          let f = are.each (pos (label e)) g in
          absurd (never_both path settled.consistent e s ((put_of e s (put_alike e f.0 s may f.1 (one_label (label e) (label f.0) f.2))).1) h)

  -- what an operator concludes of an element
  op_stands : (e n : ℕ) (node : SetTerm) (b : Bool) → set_at problem n ≡ Some node → may_hold problem n e ≡ true → argument n node 0 ≡ Some n → op_sign problem path e n node 0 ≡ Some b → within path e n b ≡ true
  op_stands e n node b at may arg is =
      subst (Stands path)
      (ap (λ o. o >>= λ x. argument n x 0 >>= λ s. op_sign problem path e n x 0 >>= λ c. Some (facts.Member e s c)) at
      ∙ (ap (λ o. o >>= λ s. op_sign problem path e n node 0 >>= λ c. Some (facts.Member e s c)) arg
      ∙ ap (λ o. o >>= λ c. Some (facts.Member e n c)) is))
      (settled.ops e n may)

  module _ (n a b : ℕ) (x y z : SetTerm) (at : set_at problem n ≡ Some z) (at_a : set_at problem a ≡ Some x) (at_b : set_at problem b ≡ Some y) (sort_a : by.members a ≡ by.members n) (sort_b : by.members b ≡ by.members n) (xs ys : List ℤ) (are_a : AreLabelsIn problem path label a xs) (are_b : AreLabelsIn problem path label b ys) where
    from_a : (e : ℕ) → may_hold problem a e ≡ true → may_hold problem n e ≡ true
    from_a e h = held_on match problem made by sorted a n e x z at_a at sort_a h

    from_b : (e : ℕ) → may_hold problem b e ≡ true → may_hold problem n e ≡ true
    from_b e h = held_on match problem made by sorted b n e y z at_b at sort_b h

    to_a : (e : ℕ) → may_hold problem n e ≡ true → may_hold problem a e ≡ true
    to_a e h = held_on match problem made by sorted n a e z x at at_a (sym sort_a) h

    to_b : (e : ℕ) → may_hold problem n e ≡ true → may_hold problem b e ≡ true
    to_b e h = held_on match problem made by sorted n b e z y at at_b (sym sort_b) h

    in_a : (e : ℕ) → may_hold problem n e ≡ true → within path e a true ≡ true → has_element xs (pos (label e)) ≡ true
    in_a e may h = are_a.all e (put e a (to_a e may) h)

    in_b : (e : ℕ) → may_hold problem n e ≡ true → within path e b true ≡ true → has_element ys (pos (label e)) ≡ true
    in_b e may h = are_b.all e (put e b (to_b e may) h)

    refuted : (e : ℕ) → within path e n true ≡ true → within path e n false ≡ true → ⊥
    refuted e p m = never_both path settled.consistent e n p m

    union_held : z ≡ sets.Union a b → (zs : List ℤ) → ((k : ℤ) → has_element zs k ≡ (has_element xs k || has_element ys k)) → AreLabelsIn problem path label n zs
    union_held is zs has = record {
      each = λ k h. first k (or_true (has_element xs k) (has_element ys k) (sym (has k) ∙ h));
      all = λ e h. has (pos (label e)) ∙ (let parts = put_of e n h in second e parts.0 parts.1 (either e a (to_a e parts.0)) (either e b (to_b e parts.0)));
    }
      where
        at_n : set_at problem n ≡ Some (sets.Union a b)
        at_n = at ∙ ap Some is

        into : (e : ℕ) → may_hold problem n e ≡ true → (within path e a true || within path e b true) ≡ true → is_put problem path e n ≡ true
        into e may h = put e n may (op_stands e n (sets.Union a b) true at_n may refl (plus_first _ _ h))

        first : (k : ℤ) → (has_element xs k ≡ true) ⊎ (has_element ys k ≡ true) → IsLabelIn problem path label n k
        first k (inl h) = let e = are_a.each k h in let parts = put_of e.0 a e.1 in (e.0, into e.0 (from_a e.0 parts.0) (ap (λ c. c || within path e.0 b true) parts.1), e.2)
        first k (inr h) = let e = are_b.each k h in let parts = put_of e.0 b e.1 in (e.0, into e.0 (from_b e.0 parts.0) (or_right (within path e.0 a true) (within path e.0 b true) parts.1), e.2)

        second : (e : ℕ) → may_hold problem n e ≡ true → within path e n true ≡ true → (within path e a true ≡ true) ⊎ (within path e a false ≡ true) → (within path e b true ≡ true) ⊎ (within path e b false ≡ true) → (has_element xs (pos (label e)) || has_element ys (pos (label e))) ≡ true
        second e may h (inl p) q = ap (λ c. c || has_element ys (pos (label e))) (in_a e may p)
        second e may h (inr p) (inl q) = or_right (has_element xs (pos (label e))) (has_element ys (pos (label e))) (in_b e may q)
        second e may h (inr p) (inr q) = absurd (refuted e h (op_stands e n (sets.Union a b) false at_n may refl (minus_second _ _ (rw (not_within path settled.consistent e a p, not_within path settled.consistent e b q) refl) (rw (p, q) refl))))

    inter_held : z ≡ sets.Inter a b → (zs : List ℤ) → ((k : ℤ) → has_element zs k ≡ (has_element xs k && has_element ys k)) → AreLabelsIn problem path label n zs
    inter_held is zs has = record {
      each = λ k h. first k (and_true (has_element xs k) (has_element ys k) (sym (has k) ∙ h));
      all = λ e h. has (pos (label e)) ∙ (let parts = put_of e n h in second e parts.0 parts.1 (either e a (to_a e parts.0)) (either e b (to_b e parts.0)));
    }
      where
        at_n : set_at problem n ≡ Some (sets.Inter a b)
        at_n = at ∙ ap Some is

        first : (k : ℤ) → (has_element xs k ≡ true) × (has_element ys k ≡ true) → IsLabelIn problem path label n k
        first k h =
            let e = are_a.each k h.0 in
            let f = are_b.each k h.1 in
            let parts = put_of e.0 a e.1 in
            let may = from_a e.0 parts.0 in
            let alike = put_of e.0 b (put_alike e.0 f.0 b (to_b e.0 may) f.1 (one_label (label e.0) (label f.0) (sym e.2 ∙ f.2))) in
            (e.0, put e.0 n may (op_stands e.0 n (sets.Inter a b) true at_n may refl (plus_first _ _ (rw (parts.1, alike.1) refl))), e.2)

        second : (e : ℕ) → may_hold problem n e ≡ true → within path e n true ≡ true → (within path e a true ≡ true) ⊎ (within path e a false ≡ true) → (within path e b true ≡ true) ⊎ (within path e b false ≡ true) → (has_element xs (pos (label e)) && has_element ys (pos (label e))) ≡ true
        second e may h (inl p) (inl q) = rw (in_a e may p, in_b e may q) refl
        second e may h (inr p) q = absurd (refuted e h (op_stands e n (sets.Inter a b) false at_n may refl (minus_second _ _ (ap (λ c. c && within path e b true) (not_within path settled.consistent e a p)) (ap (λ c. c || within path e b false) p))))
        second e may h (inl p) (inr q) = absurd (refuted e h (op_stands e n (sets.Inter a b) false at_n may refl (minus_second _ _ (and_right (within path e a true) (within path e b true) (not_within path settled.consistent e b q)) (or_right (within path e a false) (within path e b false) q))))

    minus_held : z ≡ sets.Minus a b → (zs : List ℤ) → ((k : ℤ) → has_element zs k ≡ (has_element xs k && not (has_element ys k))) → AreLabelsIn problem path label n zs
    minus_held is zs has = record {
      each = λ k h. first k (and_true (has_element xs k) (not (has_element ys k)) (sym (has k) ∙ h));
      all = λ e h. has (pos (label e)) ∙ (let parts = put_of e n h in second e parts.0 parts.1 (either e a (to_a e parts.0)) (either e b (to_b e parts.0)));
    }
      where
        at_n : set_at problem n ≡ Some (sets.Minus a b)
        at_n = at ∙ ap Some is

        first : (k : ℤ) → (has_element xs k ≡ true) × (not (has_element ys k) ≡ true) → IsLabelIn problem path label n k
        first k h =
            let e = are_a.each k h.0 in
            let parts = put_of e.0 a e.1 in
            let may = from_a e.0 parts.0 in
            (e.0, put e.0 n may (out (either e.0 b (to_b e.0 may))), e.2)
          where
            out : (within path (are_a.each k h.0).0 b true ≡ true) ⊎ (within path (are_a.each k h.0).0 b false ≡ true) → within path (are_a.each k h.0).0 n true ≡ true
            out (inl q) =
                let e = are_a.each k h.0 in
                let inside : has_element ys k ≡ true = ap (has_element ys) e.2 ∙ in_b e.0 (from_a e.0 ((put_of e.0 a e.1).0)) q in
                absurd (false≢true (ap not (sym inside) ∙ h.1))
            out (inr q) =
                let e = are_a.each k h.0 in
                let parts = put_of e.0 a e.1 in
                op_stands e.0 n (sets.Minus a b) true at_n (from_a e.0 parts.0) refl (plus_first _ _ (rw (parts.1, q) refl))

        second : (e : ℕ) → may_hold problem n e ≡ true → within path e n true ≡ true → (within path e a true ≡ true) ⊎ (within path e a false ≡ true) → (within path e b true ≡ true) ⊎ (within path e b false ≡ true) → (has_element xs (pos (label e)) && not (has_element ys (pos (label e)))) ≡ true
        second e may h (inl p) (inr q) = rw (in_a e may p, outside e b ys are_b (to_b e may) q) refl
        second e may h (inr p) q = absurd (refuted e h (op_stands e n (sets.Minus a b) false at_n may refl (minus_second _ _ (ap (λ c. c && within path e b false) (not_within path settled.consistent e a p)) (ap (λ c. c || within path e b true) p))))
        second e may h (inl p) (inl q) = absurd (refuted e h (op_stands e n (sets.Minus a b) false at_n may refl (minus_second _ _ (and_right (within path e a true) (within path e b false) (clear e q)) (or_right (within path e a false) (within path e b true) q))))
          where
            clear : (f : ℕ) → within path f b true ≡ true → within path f b false ≡ false
            clear f g = no_other (within path f b false) refl
              where
                no_other : (c : Bool) → within path f b false ≡ c → c ≡ false
                no_other false o = refl
                no_other true o = absurd (never_both path settled.consistent f b g o)

  empty_held : (n : ℕ) (sort : Sort) → set_at problem n ≡ Some (sets.Empty sort) → AreLabelsIn problem path label n []
  empty_held n sort at = record {
    each = λ k h. absurd (false≢true h);
    all = λ e h. let parts = put_of e n h in absurd (never_both path settled.consistent e n parts.1 (op_stands e n (sets.Empty sort) false at parts.0 refl (ap (λ c. if c then Some false else None) parts.0)));
  }

  -- what a set of one concludes of an element
  single_stands : (e f n : ℕ) (b : Bool) → set_at problem n ≡ Some (sets.Single f) → may_hold problem n e ≡ true → within path e n b ≡ true → has path (equal_fact e f b) ≡ true
  single_stands e f n b at may h =
      subst (Stands path)
      (ap (λ o. single_of o >>= λ g. within_of path e n >>= λ c. Some (equal_fact e g c)) at
      ∙ ap (λ o. o >>= λ c. Some (equal_fact e f c)) (within_is path settled.consistent e n b h))
      (settled.singles e n may)

  single_held : (n f : ℕ) (y : Element) → set_at problem n ≡ Some (sets.Single f) → element_at problem f ≡ Some y → by.element f ≡ by.members n → AreLabelsIn problem path label n (pos (label f) ∷ [])
  single_held n f y at at_f same = record {
    each = λ k h. (f, put f n may (inside (either f n may)), same-int_eq k (pos (label f)) (sym (or_none (int_eq k (pos (label f)))) ∙ h));
    all = λ e h.
        let parts = put_of e n h in
        let equal_labels : label e ≡ label f = settled.same e f (element_in_range problem n e parts.0) there (single_stands e f n true at parts.0 parts.1) in
        ap (λ l. int_eq (pos l) (pos (label f)) || false) equal_labels ∙ ap (λ c. c || false) (int_same (pos (label f)));
  }
    where
      may : may_hold problem n f ≡ true
      may = (match.held problem made by sorted n f (sets.Single f) y at at_f).1 (sym same)

      there : IsIn (length problem.elements) f
      there = item_in problem.elements f y at_f

      inside : (within path f n true ≡ true) ⊎ (within path f n false ≡ true) → within path f n true ≡ true
      inside (inl p) = p
      inside (inr q) = absurd (settled.apart f f there there (single_stands f f n false at may q) refl)

  -- ---- under the values that are read off
  module _ (i : Interpretation) (v : Valuation) (fits : Fits problem i v) (plain : NamesNoDiff problem) (constants : (e : ℕ) → IsIn (length problem.elements) e → IsNoDiff problem e → v.element e ≡ pos (label e)) (given : (n c : ℕ) → NamesSet problem n c → AreLabelsIn problem path label n (i.sets c)) (ranks : Ranks) (descends : Descends problem (node_count problem) ranks) where
    -- set terms of lower ranks have their labels
    abbrev AreHeldBelow : ℕ → Type 0
    AreHeldBelow k = (s : ℕ) → IsIn (length problem.sets) s → ranks.set s < k → AreLabelsIn problem path label s (v.members s)

    node_held : (n : ℕ) (z : SetTerm) → AreHeldBelow (ranks.set n) → set_at problem n ≡ Some z → SetIn problem z → SetBelow ranks (ranks.set n) z → SetIsSorted by n z → SetNamesNoDiff problem z → AreLabelsIn problem path label n (members_of i v z)
    node_held n (sets.Const c sort) low at inside below right no_diff = given n c (sort, at)
    node_held n (sets.Empty sort) low at inside below right no_diff = empty_held n sort at
    node_held n (sets.Single f) low at inside below right no_diff =
        let y = item_there problem.elements f inside in
        subst (λ l. AreLabelsIn problem path label n (l ∷ [])) (sym (constants f inside no_diff)) (single_held n f y.0 at y.1 right)
    node_held n (sets.Union a b) low at inside below right no_diff =
        let x = item_there problem.sets a inside.0 in
        let y = item_there problem.sets b inside.1 in
        union_held n a b x.0 y.0 (sets.Union a b) at x.1 y.1 right.0 right.1 (v.members a) (v.members b) (low a inside.0 below.0) (low b inside.1 below.1) refl _ (has_union (v.members a) (v.members b))
    node_held n (sets.Inter a b) low at inside below right no_diff =
        let x = item_there problem.sets a inside.0 in
        let y = item_there problem.sets b inside.1 in
        inter_held n a b x.0 y.0 (sets.Inter a b) at x.1 y.1 right.0 right.1 (v.members a) (v.members b) (low a inside.0 below.0) (low b inside.1 below.1) refl _ (has_inter (v.members a) (v.members b))
    node_held n (sets.Minus a b) low at inside below right no_diff =
        let x = item_there problem.sets a inside.0 in
        let y = item_there problem.sets b inside.1 in
        minus_held n a b x.0 y.0 (sets.Minus a b) at x.1 y.1 right.0 right.1 (v.members a) (v.members b) (low a inside.0 below.0) (low b inside.1 below.1) refl _ (has_minus (v.members a) (v.members b))

    held_by_number : (n : ℕ) → IsIn (length problem.sets) n → AreHeldBelow (ranks.set n) → AreLabelsIn problem path label n (v.members n)
    held_by_number n there low =
        let z = item_there problem.sets n there in
        subst (AreLabelsIn problem path label n) (sym (fits.sets n z.0 z.1))
        (node_held n z.0 low z.1 (set_in problem made n z.0 z.1) (descends.sets n z.0 z.1).1 (sorted.sets n z.0 z.1) (item_all (SetNamesNoDiff problem) problem.sets n z.0 plain.sets z.1))

    held_below : (k : ℕ) → AreHeldBelow k
    held_below zero s there below = absurd (omega (arith, below))
    held_below (suc k) s there below = held_by_number s there (λ t is lower. held_below k t is (omega (arith, below, lower)))

    pub held : (n : ℕ) → IsIn (length problem.sets) n → AreLabelsIn problem path label n (v.members n)
    held n there = held_below (suc (ranks.set n)) n there (omega arith)
