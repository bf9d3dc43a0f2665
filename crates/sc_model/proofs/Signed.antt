-- On a settled path each formula that has a sign has that truth value under the values that are read off.
use Rattle.std.proofs.Common.{◌≡◌, ℕ, zero, suc, ◌<◌, Bool, true, false, not, ◌&&◌, ◌||◌, ℤ, pos, List, [], ◌∷◌, length, Option, Some, None, ◌⊎◌, inl, inr, refl, sym, ap, subst, ◌∙◌, arith}
use Rattle.std.specs.Prelude.{⊤, if◌then◌else◌, nat_lt}
use Rattle.std.specs.List.{list_any, list_all, AllByRecursion}
use Rattle.std.specs.Ordering.{int_eq}
use Rattle.std.specs.Cmp.{signed_Decides}
use Rattle.std.proofs.lemmas.Bool.{false≢true}
use Rattle.sc_base.specs.Options.{◌>>=◌}
use Rattle.sc_base.specs.Integers.{has_element}
use Rattle.sc_base.proofs.Bools.{and_true, or_true, or_right, and_right}
use Rattle.sc_base.proofs.Integers.{same-int_eq}
use Rattle.sc_terms.specs.declared.nodes.Formula.{Formula}
use Rattle.sc_terms.specs.declared.nodes.Formula.TheVariants as formulas
use Rattle.sc_terms.specs.declared.problem.Parts.{Parts}
use Rattle.sc_terms.specs.Same.{same_truth}
use Rattle.sc_terms.specs.Lookup.{formula_at, set_at, element_at}
use Rattle.sc_terms.specs.Meaning.{Interpretation, Valuation, Fits, truth_of, same_elements}
use Rattle.sc_terms.specs.Conditions.{IsIn, FormulaIn, Ranks, FormulaBelow, Descends, IsProblem}
use Rattle.sc_terms.specs.Values.{node_count}
use Rattle.sc_terms.proofs.Ranges.{item_all, formula_in}
use Rattle.sc_facts.specs.declared.fact.Fact.{Fact}
use Rattle.sc_facts.specs.declared.fact.Fact.TheVariants as facts
use Rattle.sc_facts.specs.declared.name.FactName.TheVariants as names
use Rattle.sc_facts.specs.Facts.{has}
use Rattle.sc_sorts.specs.Sorts.{may_hold}
use Rattle.sc_sorts.specs.Sorted.{Sorting, AreSorted, FormulaIsSorted, SortsMatch}
use Rattle.sc_sorts.specs.Posed.{NamesFlag, IsIntlessFormula, IsNoDiff, FormulaNamesNoDiff, NamesNoDiff}
use Rattle.sc_rules.specs.Pairs.{first_sign, ordered, same_set, same_set_fact, equal}
use Rattle.sc_rules.specs.Boolean.{sign, all_have, some_has, agree, differ}
use Rattle.sc_rules.specs.Members.{within, within_of}
use Rattle.sc_model.specs.Settled.{Stands, TellsApart, BearsOut, IsSettledBy}
use Rattle.sc_model.specs.Modelling.{is_put, AreLabelsIn}
use Rattle.sc_model.proofs.Paths.{item_there, and_false, within_is, same_by, not_same_first, not_same_second, int_same, one_label}
use Rattle.sc_model.proofs.Held.{held_on, put, outside}

first_sign-is : (plus minus s t : Bool) → (plus ≡ true → t ≡ true) → (minus ≡ true → t ≡ false) → first_sign plus minus ≡ Some s → t ≡ s
first_sign-is true minus s t p m e = p refl ∙ cc
first_sign-is false true s t p m e = m refl ∙ cc
first_sign-is false false s t p m e = absurd cc

module _ (path : List Fact) (v : Valuation) where
  -- where formula f has a sign, that is its truth value
  abbrev pub IsKnown : ℕ → Type 0
  IsKnown f = (s : Bool) → sign path f s ≡ true → v.truth f ≡ s

  all_known : (fs : List ℕ) → AllByRecursion IsKnown fs → all_have path fs true ≡ true → list_all v.truth fs ≡ true
  all_known [] h e = refl
  all_known (f ∷ fs) h e = let p = and_true (sign path f true) (all_have path fs true) e in rw (h.0 true p.0) (all_known fs h.1 p.1)

  none_known : (fs : List ℕ) → AllByRecursion IsKnown fs → all_have path fs false ≡ true → list_any v.truth fs ≡ false
  none_known [] h e = refl
  none_known (f ∷ fs) h e = let p = and_true (sign path f false) (all_have path fs false) e in rw (h.0 false p.0) (none_known fs h.1 p.1)

  some_known : (fs : List ℕ) → AllByRecursion IsKnown fs → some_has path fs true ≡ true → list_any v.truth fs ≡ true
  some_known [] h e = absurd (false≢true e)
  some_known (f ∷ fs) h e =
      elim (or_true (sign path f true) (some_has path fs true) e) [ inl a ↦ rw (h.0 true a) refl | inr b ↦ or_right (v.truth f) (list_any v.truth fs) (some_known fs h.1 b) ]

  one_fails : (fs : List ℕ) → AllByRecursion IsKnown fs → some_has path fs false ≡ true → list_all v.truth fs ≡ false
  one_fails [] h e = absurd (false≢true e)
  one_fails (f ∷ fs) h e =
      elim (or_true (sign path f false) (some_has path fs false) e) [ inl a ↦ rw (h.0 false a) refl | inr b ↦ and_right (v.truth f) (list_all v.truth fs) (one_fails fs h.1 b) ]

  agree-same : (f g : ℕ) → IsKnown f → IsKnown g → agree path f g ≡ true → same_truth (v.truth f) (v.truth g) ≡ true
  agree-same f g kf kg e =
      elim (or_true (sign path f true && sign path g true) (sign path f false && sign path g false) e) [
        | inl a ↦ let p = and_true (sign path f true) (sign path g true) a in rw (kf true p.0, kg true p.1)
        | inr b ↦ let p = and_true (sign path f false) (sign path g false) b in rw (kf false p.0, kg false p.1)
      ]

  differ-same : (f g : ℕ) → IsKnown f → IsKnown g → differ path f g ≡ true → same_truth (v.truth f) (v.truth g) ≡ false
  differ-same f g kf kg e =
      elim (or_true (sign path f true && sign path g false) (sign path f false && sign path g true) e) [
        | inl a ↦ let p = and_true (sign path f true) (sign path g false) a in rw (kf true p.0, kg false p.1)
        | inr b ↦ let p = and_true (sign path f false) (sign path g true) b in rw (kf false p.0, kg true p.1)
      ]

  -- the same of each part of a formula
  abbrev pub ArePartsKnown : Formula → Type 0
  ArePartsKnown (formulas.Not f) = IsKnown f
  ArePartsKnown (formulas.And fs) = AllByRecursion IsKnown fs
  ArePartsKnown (formulas.Or fs) = AllByRecursion IsKnown fs
  ArePartsKnown (formulas.Iff f g) = IsKnown f × IsKnown g
  ArePartsKnown _ = ⊤

both_below : (s t : ℕ) → nat_lt s t ≡ true → nat_lt t s ≡ true → ⊥
both_below s t p q = grind arith

neither_below : (s t : ℕ) → nat_lt s t ≡ false → nat_lt t s ≡ false → s ≡ t
neither_below s t p q = grind arith

pub ordered_back : (s t : ℕ) → ordered t s ≡ ordered s t
ordered_back s t = by (nat_lt s t) (nat_lt t s) refl refl
  where
    by : (b c : Bool) → nat_lt s t ≡ b → nat_lt t s ≡ c → ordered t s ≡ ordered s t
    by true true p q = absurd (both_below s t p q)
    by true false p q = rw (p, q) refl
    by false true p q = rw (p, q) refl
    by false false p q = let same : s ≡ t = neither_below s t p q in subst (λ k. ordered k s ≡ ordered s k) same refl

module _ (problem : Parts) (made : IsProblem problem) (by : Sorting) (sorted : AreSorted problem by) (match : SortsMatch) (path : List Fact) (label : ℕ → ℕ) (settled : IsSettledBy problem path label) (plain : NamesNoDiff problem) (intless : AllByRecursion IsIntlessFormula problem.formulas) (i : Interpretation) (v : Valuation) (fits : Fits problem i v) (flags : (n c : ℕ) → NamesFlag problem n c → i.flags c ≡ sign path n true) (constants : (e : ℕ) → IsIn (length problem.elements) e → IsNoDiff problem e → v.element e ≡ pos (label e)) (held : (s : ℕ) → IsIn (length problem.sets) s → AreLabelsIn problem path label s (v.members s)) (ranks : Ranks) (descends : Descends problem (node_count problem) ranks) where
  flag_true : (n c : ℕ) (s : Bool) → NamesFlag problem n c → sign path n s ≡ true → i.flags c ≡ s
  flag_true n c true at e = flags n c at ∙ e
  flag_true n c false at e = flags n c at ∙ and_false (sign path n true) (sign path n false) (settled.consistent (names.Sign n)) e

  could_hold : (s e : ℕ) → IsIn (length problem.sets) s → IsIn (length problem.elements) e → by.members s ≡ by.element e → may_hold problem s e ≡ true
  could_hold s e p q same =
      let x = item_there problem.sets s p in
      let y = item_there problem.elements e q in
      (match.held problem made by sorted s e x.0 y.0 x.1 y.1).1 same

  -- the label of an element is in a set as the path says
  label_within : (e s : ℕ) (b : Bool) → IsIn (length problem.sets) s → may_hold problem s e ≡ true → within path e s b ≡ true → has_element (v.members s) (pos (label e)) ≡ b
  label_within e s true there may h = (held s there).all e (put problem made by sorted match path label settled e s may h)
  label_within e s false there may h = outside problem made by sorted match path label settled e s (v.members s) (held s there) may h

  member_true : (e s : ℕ) (b : Bool) → IsIn (length problem.elements) e → IsIn (length problem.sets) s → by.element e ≡ by.members s → IsNoDiff problem e → within path e s b ≡ true → has_element (v.members s) (v.element e) ≡ b
  member_true e s b p q same no_diff h = ap (has_element (v.members s)) (constants e p no_diff) ∙ label_within e s b q (could_hold s e q p (sym same)) h

  labels_true : (e f : ℕ) (b : Bool) → IsIn (length problem.elements) e → IsIn (length problem.elements) f → equal path e f b ≡ true → int_eq (pos (label e)) (pos (label f)) ≡ b
  labels_true e f true p q h = ap (λ l. int_eq (pos (label e)) (pos l)) (sym (settled.same e f p q h)) ∙ int_same (pos (label e))
  labels_true e f false p q h = by_case (int_eq (pos (label e)) (pos (label f))) refl
    where
      by_case : (b : Bool) → int_eq (pos (label e)) (pos (label f)) ≡ b → b ≡ false
      by_case false g = refl
      by_case true g = absurd (settled.apart e f p q h (one_label (label e) (label f) (same-int_eq (pos (label e)) (pos (label f)) g)))

  equal_true : (e f : ℕ) (b : Bool) → IsIn (length problem.elements) e → IsIn (length problem.elements) f → IsNoDiff problem e → IsNoDiff problem f → equal path e f b ≡ true → int_eq (v.element e) (v.element f) ≡ b
  equal_true e f b p q no_e no_f h = ap (λ x. int_eq x (v.element f)) (constants e p no_e) ∙ (ap (int_eq (pos (label e))) (constants f q no_f) ∙ labels_true e f b p q h)

  -- what is in the first of two sets that are equal is in the second
  moved : (e s t : ℕ) → same_set path s t true ≡ true → within path e s true ≡ true → Stands path (if same_set path s t true then (within_of path e s >>= λ b. Some (facts.Member e t b)) else None) → within path e t true ≡ true
  moved e s t same h stands =
      subst (Stands path)
      (ap (λ c. if c then (within_of path e s >>= λ b. Some (facts.Member e t b)) else None) same
      ∙ ap (λ o. o >>= λ b. Some (facts.Member e t b)) (within_is path settled.consistent e s true h))
      stands

  same_true : (n s t : ℕ) (b : Bool) → formula_at problem n ≡ Some (formulas.EqSet s t) → IsIn (length problem.sets) s → IsIn (length problem.sets) t → by.members s ≡ by.members t → same_set path s t b ≡ true → same_elements (v.members s) (v.members t) ≡ b
  same_true n s t true at p q same h = same_by (v.members s) (v.members t) across back
    where
      across : (k : ℤ) → has_element (v.members s) k ≡ true → has_element (v.members t) k ≡ true
      across k g =
          let x = item_there problem.sets s p in
          let y = item_there problem.sets t q in
          let e = (held s p).each k g in
          let parts = and_true (may_hold problem s e.0) (within path e.0 s true) e.1 in
          ap (has_element (v.members t)) e.2 ∙ label_within e.0 t true q (held_on match problem made by sorted s t e.0 x.0 y.0 x.1 y.1 same parts.0) (moved e.0 s t h parts.1 (settled.moves n s t e.0 at parts.0).0)

      back : (k : ℤ) → has_element (v.members t) k ≡ true → has_element (v.members s) k ≡ true
      back k g =
          let x = item_there problem.sets s p in
          let y = item_there problem.sets t q in
          let e = (held t q).each k g in
          let parts = and_true (may_hold problem t e.0) (within path e.0 t true) e.1 in
          let may = held_on match problem made by sorted t s e.0 y.0 x.0 y.1 x.1 (sym same) parts.0 in
          let turned : same_set path t s true ≡ true = ap (λ (o : ℕ × ℕ). has path (facts.EqSet o.0 o.1 true)) (ordered_back s t) ∙ h in
          ap (has_element (v.members s)) e.2 ∙ label_within e.0 s true p may (moved e.0 t s turned parts.1 (settled.moves n s t e.0 at may).1)
  same_true n s t false at p q same h =
      let told = settled.told n s t at h in
      let x = item_there problem.sets s p in
      let y = item_there problem.sets t q in
      by_side told.0 told.1 (held_on match problem made by sorted s t told.0 x.0 y.0 x.1 y.1 same told.1) told.2
    where
      by_side : (e : ℕ) → may_hold problem s e ≡ true → may_hold problem t e ≡ true → TellsApart path e s t → same_elements (v.members s) (v.members t) ≡ false
      by_side e m k (inl both) = not_same_first (v.members s) (v.members t) (pos (label e)) (label_within e s true p m both.0) (label_within e t false q k both.1)
      by_side e m k (inr both) = not_same_second (v.members s) (v.members t) (pos (label e)) (label_within e s false p m both.0) (label_within e t true q k both.1)

  truth_is : (n : ℕ) (node : Formula) (s : Bool) → formula_at problem n ≡ Some node → FormulaIn problem node → FormulaIsSorted by node → FormulaNamesNoDiff problem node → IsIntlessFormula node → ArePartsKnown path v node → sign path n s ≡ true → BearsOut path node s → truth_of problem i v node ≡ s
  truth_is n formulas.True s at is right no_diff clean k e b = cc
  truth_is n formulas.False s at is right no_diff clean k e b = cc
  truth_is n (formulas.Flag c) s at is right no_diff clean k e b = flag_true n c s at e
  truth_is n (formulas.Not f) s at is right no_diff clean k e b = first_sign-is _ _ s (not (v.truth f)) (λ p. rw (k false p)) (λ m. rw (k true m)) b
  truth_is n (formulas.And fs) s at is right no_diff clean k e b = first_sign-is _ _ s (list_all v.truth fs) (all_known path v fs k) (one_fails path v fs k) b
  truth_is n (formulas.Or fs) s at is right no_diff clean k e b = first_sign-is _ _ s (list_any v.truth fs) (some_known path v fs k) (none_known path v fs k) b
  truth_is n (formulas.Iff f g) s at is right no_diff clean k e b = first_sign-is _ _ s (same_truth (v.truth f) (v.truth g)) (agree-same path v f g k.0 k.1) (differ-same path v f g k.0 k.1) b
  truth_is n (formulas.Member x t) s at is right no_diff clean k e b = member_true x t s is.0 is.1 right no_diff b
  truth_is n (formulas.Eq x y) s at is right no_diff clean k e b = equal_true x y s is.0 is.1 no_diff.0 no_diff.1 b
  truth_is n (formulas.EqSet t u) s at is right no_diff clean k e b = same_true n t u s at is.0 is.1 right b
  truth_is n (formulas.Le row) s at is right no_diff clean k e b = absurd clean

  -- formulas of lower ranks are known
  abbrev AreKnownBelow : ℕ → Type 0
  AreKnownBelow k = (f : ℕ) → IsIn (length problem.formulas) f → ranks.formula f < k → IsKnown path v f

  all_parts : (k : ℕ) → AreKnownBelow k → (fs : List ℕ) → AllByRecursion (IsIn (length problem.formulas)) fs → AllByRecursion (λ f. ranks.formula f < k) fs → AllByRecursion (IsKnown path v) fs
  all_parts k low [] is below = tt
  all_parts k low (f ∷ fs) is below = (low f is.0 below.0, all_parts k low fs is.1 below.1)

  parts_known : (k : ℕ) → AreKnownBelow k → (node : Formula) → FormulaIn problem node → FormulaBelow problem ranks k node → ArePartsKnown path v node
  parts_known k low (formulas.Not f) is below = low f is below
  parts_known k low (formulas.And fs) is below = all_parts k low fs is below
  parts_known k low (formulas.Or fs) is below = all_parts k low fs is below
  parts_known k low (formulas.Iff f g) is below = (low f is.0 below.0, low g is.1 below.1)
  parts_known k low formulas.True is below = tt
  parts_known k low formulas.False is below = tt
  parts_known k low (formulas.Flag c) is below = tt
  parts_known k low (formulas.Eq e f) is below = tt
  parts_known k low (formulas.EqSet s t) is below = tt
  parts_known k low (formulas.Member e s) is below = tt
  parts_known k low (formulas.Le row) is below = tt

  known_by : (n : ℕ) → IsIn (length problem.formulas) n → AreKnownBelow (ranks.formula n) → IsKnown path v n
  known_by n is low s e =
      let node = item_there problem.formulas n is in
      let well_made = formula_in problem made n node.0 node.1 in
      fits.truths n node.0 node.1
      ∙ truth_is n node.0 s node.1 well_made (sorted.formulas n node.0 node.1) (item_all (FormulaNamesNoDiff problem) problem.formulas n node.0 plain.formulas node.1) (item_all IsIntlessFormula problem.formulas n node.0 intless node.1) (parts_known (ranks.formula n) low node.0 well_made (descends.formulas n node.0 node.1).1) e (settled.borne_out n node.0 s node.1 e)

  known_below : (k : ℕ) → AreKnownBelow k
  known_below zero f is below = absurd (omega (arith, below))
  known_below (suc k) f is below = known_by f is (λ g there lower. known_below k g there (omega (arith, below, lower)))

  pub signs_true : (n : ℕ) → IsIn (length problem.formulas) n → IsKnown path v n
  signs_true n is = known_below (suc (ranks.formula n)) n is (omega arith)
