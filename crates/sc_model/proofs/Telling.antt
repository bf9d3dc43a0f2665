-- Sets that differ and are not told apart, memberships without a sign, and elements that differ and have one label.
use Rattle.std.proofs.Common.{◌≡◌, ◌≢◌, ℕ, zero, suc, ◌+◌, ◌<◌, ◌≤◌, Bool, true, false, not, ◌&&◌, ◌||◌, List, [], ◌∷◌, length, get_or, Option, Some, None, ◌⊎◌, inl, inr, refl, sym, ap, subst, ◌∙◌, arith}
use Rattle.std.specs.Prelude.{is_some, is_none, nat_eq, nat_lt, nat_le, slice_get, if◌then◌else◌}
use Rattle.std.specs.List.{list_any, AllByRecursion}
use Rattle.std.specs.Cmp.{unsigned_Decides}
use Rattle.std.proofs.lemmas.Bool.{false≢true}
use Rattle.sc_base.specs.Options.{◌>>=◌}
use Rattle.sc_base.specs.Numbered.{item_at}
use Rattle.sc_base.proofs.Bools.{and_true, or_true, or_false, or_right}
use Rattle.sc_terms.specs.declared.nodes.Element.{Element}
use Rattle.sc_terms.specs.declared.nodes.Element.TheVariants as elements
use Rattle.sc_terms.specs.declared.nodes.SetTerm.{SetTerm}
use Rattle.sc_terms.specs.declared.nodes.Formula.TheVariants as formulas
use Rattle.sc_terms.specs.declared.problem.Parts.{Parts}
use Rattle.sc_terms.specs.Lookup.{formula_at, set_at, element_at, is_diff_of, diff_from, diff_of}
use Rattle.sc_terms.specs.Conditions.{IsIn, FormulaIn, IsProblem}
use Rattle.sc_terms.proofs.Ranges.{item_in, formula_in}
use Rattle.sc_facts.specs.declared.fact.Fact.{Fact}
use Rattle.sc_facts.specs.declared.fact.Fact.TheVariants as facts
use Rattle.sc_facts.specs.declared.name.FactName.TheVariants as names
use Rattle.sc_facts.specs.Facts.{has}
use Rattle.sc_sorts.specs.Sorts.{may_hold}
use Rattle.sc_sorts.specs.Sorted.{Sorting, AreSorted, SortsMatch}
use Rattle.sc_sorts.specs.Posed.{IsOfScript}
use Rattle.sc_rules.specs.declared.step.PlainStep.{PlainStep}
use Rattle.sc_rules.specs.declared.step.PlainStep.TheVariants.{EqRefl, SeqRefl, Differ, Cut}
use Rattle.sc_rules.specs.Pairs.{first_sign, ordered, equal, same_set}
use Rattle.sc_rules.specs.Members.{within, within_of, tells_apart}
use Rattle.sc_rules.specs.Steps.{one, branches}
use Rattle.sc_tree.specs.Lean.{brings_more}
use Rattle.sc_tree.specs.Events.{HasNoClash}
use Rattle.sc_model.specs.Settled.{TellsApart, AreToldApart}
use Rattle.sc_model.specs.Deciding.{sole, Concludes, Divides, is_linked, AllPassOn, AreLabelsOf, tells}
use Rattle.sc_model.specs.Modelling.{label_in}
use Rattle.sc_classes.specs.Classes.{Merges}
use Rattle.sc_facts.specs.Same.{same_fact, same_fact-Decides}
use Rattle.sc_model.proofs.Following.{class_linked}
use Rattle.sc_model.proofs.Paths.{item_there}

-- ---- a membership without a sign
no_sign : (p m : Bool) → is_none (first_sign p m) ≡ true → (p ≡ false) × (m ≡ false)
no_sign true m e = absurd (false≢true e)
no_sign false true e = absurd (false≢true e)
no_sign false false e = (refl, refl)

pub cut_member : (problem : Parts) (path : List Fact) (e s : ℕ) → may_hold problem s e ≡ true → is_none (within_of path e s) ≡ true → Divides problem path (Cut (names.Member e s))
cut_member problem path e s may none =
    let absent = no_sign (within path e s true) (within path e s false) none in
    ((facts.Member e s true ∷ [], facts.Member e s false ∷ []), ap (λ b. if b then Some ((facts.Member e s true ∷ []) ∷ (facts.Member e s false ∷ []) ∷ []) else None) may, rw (absent.0) refl, rw (absent.1) refl)

pub has_sign : (p m : Bool) → is_none (first_sign p m) ≡ false → is_some (first_sign p m) ≡ true
has_sign true m e = refl
has_sign false true e = refl
has_sign false false e = absurd (false≢true (sym e))

-- ---- the differing element of two sets
diff_found : (k : ℕ) (es : List Element) (s t d : ℕ) → diff_from k es s t ≡ Some d → (j : ℕ) × (x : Element) × (d ≡ k + j) × (slice_get es j ≡ Some x) × (is_diff_of s t x ≡ true)
diff_found k [] s t d e = absurd cc
diff_found k (x ∷ es) s t d e = by (is_diff_of s t x) refl e (diff_found (k + 1) es s t d)
  where
    by : (b : Bool) → is_diff_of s t x ≡ b → (if b then Some k else diff_from (k + 1) es s t) ≡ Some d → (diff_from (k + 1) es s t ≡ Some d → (j : ℕ) × (y : Element) × (d ≡ k + 1 + j) × (slice_get es j ≡ Some y) × (is_diff_of s t y ≡ true)) → (j : ℕ) × (y : Element) × (d ≡ k + j) × (slice_get (x ∷ es) j ≡ Some y) × (is_diff_of s t y ≡ true)
    by true is g rest = let same : k ≡ d = cc in (0, x, omega (arith, same), refl, is)
    by false is g rest = let later = rest g in (suc later.0, later.1, omega (arith, later.2), later.3, later.4)

diff_there : (problem : Parts) (s t d : ℕ) → diff_of problem s t ≡ Some d → (x : Element) × (element_at problem d ≡ Some x) × (is_diff_of s t x ≡ true)
diff_there problem s t d e =
    let found = diff_found 1 problem.elements s t d e in
    let place : d ≡ suc found.0 = omega (arith, found.2) in
    (found.1, ap (item_at problem.elements) place ∙ found.3, found.4)

diff_sort : (problem : Parts) (by : Sorting) (sorted : AreSorted problem by) (s t d : ℕ) (x : Element) → element_at problem d ≡ Some x → is_diff_of s t x ≡ true → by.members s ≡ by.element d
diff_sort problem by sorted s t d (elements.Diff a b) at is =
    let right = sorted.elements d (elements.Diff a b) at in
    elim (or_true (nat_eq a s && nat_eq b t) (nat_eq a t && nat_eq b s) is) [
      | inl h ↦ ap by.members (sym ((unsigned_Decides a s).0 ((and_true (nat_eq a s) (nat_eq b t) h).0))) ∙ right.0
      | inr h ↦ ap by.members (sym ((unsigned_Decides b s).0 ((and_true (nat_eq a t) (nat_eq b s) h).1))) ∙ right.1
    ]
diff_sort problem by sorted s t d _ at is = absurd (false≢true is)

-- ---- sets that are not told apart
two_ways : (s t : ℕ) → (ordered s t ≡ (s, t)) ⊎ (ordered s t ≡ (t, s))
two_ways s t = by (nat_lt t s) refl
  where
    by : (b : Bool) → nat_lt t s ≡ b → (ordered s t ≡ (s, t)) ⊎ (ordered s t ≡ (t, s))
    by true e = inr (ap (λ b. if b then (t, s) else (s, t)) e)
    by false e = inl (ap (λ b. if b then (t, s) else (s, t)) e)

lacks_one : (a b : Bool) → (a && b) ≡ false → not (a && (b && true)) ≡ true
lacks_one true true e = absurd (false≢true (sym e))
lacks_one true false e = refl
lacks_one false b e = refl

and_turned : (a b : Bool) → (a && b) ≡ false → (b && a) ≡ false
and_turned true b e = ap (λ c. c && true) e
and_turned false true e = refl
and_turned false false e = refl

-- neither branch stands
untold_lacks : (path : List Fact) (d s t : ℕ) (b : Bool) → tells path d s t ≡ false → brings_more path (tells_apart d (ordered s t) b) ≡ true
untold_lacks path d s t b untold =
    let parts = or_false (within path d s true && within path d t false) (within path d s false && within path d t true) untold in
    elim (two_ways s t) [
      | inl is ↦ subst (λ p. brings_more path (tells_apart d p b) ≡ true) (sym is) (straight b parts.0 parts.1)
      | inr is ↦ subst (λ p. brings_more path (tells_apart d p b) ≡ true) (sym is) (turned b parts.0 parts.1)
    ]
  where
    straight : (c : Bool) → (within path d s true && within path d t false) ≡ false → (within path d s false && within path d t true) ≡ false → brings_more path (tells_apart d (s, t) c) ≡ true
    straight true p q = lacks_one (within path d s true) (within path d t false) p
    straight false p q = lacks_one (within path d s false) (within path d t true) q

    turned : (c : Bool) → (within path d s true && within path d t false) ≡ false → (within path d s false && within path d t true) ≡ false → brings_more path (tells_apart d (t, s) c) ≡ true
    turned true p q = lacks_one (within path d t true) (within path d s false) (and_turned (within path d s false) (within path d t true) q)
    turned false p q = lacks_one (within path d t false) (within path d s true) (and_turned (within path d s true) (within path d t false) p)

some_of : {X : Type 0} (o : Option X) → is_some o ≡ true → (x : X) × (o ≡ Some x)
some_of None h = absurd (false≢true h)
some_of (Some x) h = (x, refl)

pub differ_divides : SortsMatch → (problem : Parts) → IsProblem problem → IsOfScript problem → (path : List Fact) (n s t : ℕ) → formula_at problem n ≡ Some (formulas.EqSet s t) → same_set path s t false ≡ true → s ≢ t → ((e : ℕ) → may_hold problem s e ≡ true → tells path e s t ≡ false) → Divides problem path (Differ s t)
differ_divides match problem made script path n s t at said apart untold =
    let d = some_of (diff_of problem s t) (script.diffs n s t at apart) in
    let x = diff_there problem s t d.0 d.1 in
    let z = item_there problem.sets s ((formula_in problem made n (formulas.EqSet s t) at).0) in
    let may : may_hold problem s d.0 ≡ true = (match.held problem made script.sorted.0 script.sorted.1 s d.0 z.0 x.0 z.1 x.1).1 (diff_sort problem script.sorted.0 script.sorted.1 s t d.0 x.0 x.1 x.2) in (
      (tells_apart d.0 (ordered s t) true, tells_apart d.0 (ordered s t) false),
      ap (λ b. (if b then diff_of problem s t else None) >>= λ k. Some (tells_apart k (ordered s t) true ∷ tells_apart k (ordered s t) false ∷ [])) said
          ∙ ap (λ o. o >>= λ k. Some (tells_apart k (ordered s t) true ∷ tells_apart k (ordered s t) false ∷ [])) d.1,
      untold_lacks path d.0 s t true (untold d.0 may),
      untold_lacks path d.0 s t false (untold d.0 may),
    )

other_absent : (a b : Bool) → (a && b) ≡ false → b ≡ true → a ≡ false
other_absent true b e h = absurd (false≢true (sym e ∙ h))
other_absent false b e h = refl

at_most : (n : ℕ) → nat_le n n ≡ true
at_most n = grind arith

same_order : (s : ℕ) → ordered s s ≡ (s, s)
same_order s = elim (two_ways s s) [ inl e ↦ e | inr e ↦ e ]

pub set_itself_new : (problem : Parts) (path : List Fact) (n s t : ℕ) → IsProblem problem → HasNoClash path → formula_at problem n ≡ Some (formulas.EqSet s t) → same_set path s t false ≡ true → s ≡ t → Concludes problem path (SeqRefl s)
set_itself_new problem path n s t made consistent at said same =
    let z = item_there problem.sets s ((formula_in problem made n (formulas.EqSet s t) at).0) in
    let stands : has path (facts.EqSet s s false) ≡ true = subst (λ p. has path (facts.EqSet p.0 p.1 false) ≡ true) (same_order s) (subst (λ k. same_set path s k false ≡ true) (sym same) said) in
    let clear : (has path (facts.EqSet s s true) && has path (facts.EqSet s s false)) ≡ false = ap (λ b. b && (has path (facts.EqSet s s true) && has path (facts.EqSet s s false))) (sym (at_most s)) ∙ consistent (names.EqSet s s) in
    (facts.EqSet s s true, ap (λ o. sole (one (o >>= λ node. Some (facts.EqSet s s true)))) z.1, other_absent (has path (facts.EqSet s s true)) (has path (facts.EqSet s s false)) clear stands)

pub told_by : (problem : Parts) (path : List Fact) (s t e : ℕ) → may_hold problem s e ≡ true → tells path e s t ≡ true → AreToldApart problem path s t
told_by problem path s t e may h = (e, may, by (or_true (within path e s true && within path e t false) (within path e s false && within path e t true) h))
  where
    by : ((within path e s true && within path e t false) ≡ true) ⊎ ((within path e s false && within path e t true) ≡ true) → TellsApart path e s t
    by (inl g) = inl (and_true (within path e s true) (within path e t false) g)
    by (inr g) = inr (and_true (within path e s false) (within path e t true) g)

-- ---- elements that differ and are linked
in_order_is : (e f : ℕ) → e ≤ f → ordered e f ≡ (e, f)
in_order_is e f low = by (nat_lt f e) refl
  where
    never : nat_lt f e ≡ true → ⊥
    never g = grind (arith, low, g)

    by : (b : Bool) → nat_lt f e ≡ b → ordered e f ≡ (e, f)
    by true g = absurd (never g)
    by false g = ap (λ b. if b then (f, e) else (e, f)) g

below_is : (e f : ℕ) → e ≤ f → nat_le e f ≡ true
below_is e f low = grind (arith, low)

pub itself_new : (problem : Parts) (path : List Fact) (e f : ℕ) → HasNoClash path → e ≤ f → IsIn (length problem.elements) e → has path (facts.Eq e f false) ≡ true → is_linked path e f ≡ true → Concludes problem path (EqRefl e)
itself_new problem path e f consistent low there stands linked = by (or_true (nat_eq e f) (equal path e f true) linked)
  where
    clear : (has path (facts.Eq e f true) && has path (facts.Eq e f false)) ≡ false
    clear = ap (λ b. b && (has path (facts.Eq e f true) && has path (facts.Eq e f false))) (sym (below_is e f low)) ∙ consistent (names.Eq e f)

    absent : has path (facts.Eq e f true) ≡ false
    absent = other_absent (has path (facts.Eq e f true)) (has path (facts.Eq e f false)) clear stands

    by : (nat_eq e f ≡ true) ⊎ (equal path e f true ≡ true) → Concludes problem path (EqRefl e)
    by (inl g) =
        let same : e ≡ f = (unsigned_Decides e f).0 g in
        let y = item_there problem.elements e there in
        (facts.Eq e e true, ap (λ o. sole (one (o >>= λ node. Some (facts.Eq e e true)))) y.1, subst (λ k. has path (facts.Eq e k true) ≡ false) (sym same) absent)
    by (inr g) = absurd (false≢true (sym absent ∙ (sym (ap (λ (p : ℕ × ℕ). has path (facts.Eq p.0 p.1 true)) (in_order_is e f low)) ∙ g)))

pub apart_new : (problem : Parts) (path : List Fact) (merges : Merges) (labels : List ℕ) (e f : ℕ) → HasNoClash path → AreLabelsOf problem path merges labels → e ≤ f → IsIn (length problem.elements) e → IsIn (length problem.elements) f → has path (facts.Eq e f false) ≡ true → label_in labels e ≡ label_in labels f → AllPassOn path e merges.pairs → Concludes problem path (EqRefl e)
apart_new problem path merges labels e f consistent are low in_e in_f stands same all =
    itself_new problem path e f consistent low in_e stands (class_linked path e merges.pairs all f (sym (are.least e in_e) ∙ (same ∙ are.least f in_f)))

pub has_item : (path : List Fact) (i : ℕ) (x : Fact) → i < length path → x ≡ get_or path i x → has path x ≡ true
has_item [] i x h is = absurd (omega (arith, h))
has_item (y ∷ path) zero x h is = ap (λ b. b || has path x) ((same_fact-Decides x y).1 is)
has_item (y ∷ path) (suc i) x h is = or_right (same_fact x y) (has path x) (has_item path i x (omega (arith, h)) is)
