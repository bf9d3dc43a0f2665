-- The steps on members and equalities are sound.
use Rattle.std.proofs.Common.{◌≡◌, ◌≢◌, ℕ, zero, suc, Bool, true, false, not, ◌&&◌, ◌||◌, cond, nat_eq, nat_lt, List, [], ◌∷◌, Option, Some, None, ◌⊎◌, inl, inr, refl, sym, ap, subst, ◌∙◌}
use Rattle.std.specs.Prelude.{slice_get, IfSome}
use Rattle.std.specs.Ordering.{int_eq}
use Rattle.std.specs.Cmp.{signed_Decides, int_eq_equiv, unsigned_Decides}
use Rattle.std.proofs.lemmas.Bool.{false≢true}
use Rattle.std.proofs.Math.Bool.{or-true, and-false}
use Rattle.sc_base.specs.Integers.{has_element}
use Rattle.sc_base.proofs.Options.{bind_some}
use Rattle.sc_base.proofs.Bools.{cond_cases, and_true, or_true, or_false}
use Rattle.sc_base.proofs.Integers.{has_element-filter, int_eq-same}
use Rattle.sc_terms.specs.declared.problem.Parts.{Parts}
use Rattle.sc_terms.specs.declared.nodes.SetTerm.{SetTerm}
use Rattle.sc_terms.specs.declared.nodes.SetTerm.TheVariants as sets
use Rattle.sc_terms.specs.declared.nodes.Element.{Element}
use Rattle.sc_terms.specs.declared.nodes.Element.TheVariants as elements
use Rattle.sc_terms.specs.Lookup.{set_at, element_at, diff_of, is_diff_at}
use Rattle.sc_terms.specs.Meaning.{Interpretation, Valuation, Fits, members_of, same_elements}
use Rattle.sc_terms.proofs.Firsts.{diff_found}
use Rattle.sc_facts.specs.declared.fact.Fact.{Fact}
use Rattle.sc_facts.specs.declared.fact.Fact.TheVariants as facts
use Rattle.sc_facts.specs.Facts.{FactHolds, Hold, OneHolds}
use Rattle.sc_facts.proofs.Truth.{has_holds}
use Rattle.sc_sorts.specs.Sorts.{may_hold}
use Rattle.sc_rules.specs.Pairs.{ordered, equal_fact, equal, equal_of, same_set_fact, same_set}
use Rattle.sc_rules.specs.Members.{within, within_of, union_sign, inter_sign, minus_sign, op_sign, argument, op_of, single_of, into_single, from_single, carry_of, apart_of, move_of, set_apart_of, reflexive_of, set_reflexive_of, chained, equal_step_of, set_step_of, tells_apart, differing, differ_of}
use Rattle.sc_rules.proofs.Differences.{has_element-without, has_element-union, same-holds, holds-same, same_elements-swap, least_differs}
use Rattle.sc_rules.proofs.Signs.{first_sign-is, not-true, not-false, true_or_false}

or_known : (a b : Bool) → (a ≡ true) ⊎ (b ≡ true) → (a || b) ≡ true
or_known a b w = elim w [ inl x ↦ rw x | inr y ↦ rw y (or-true a) ]

or_unknown : (a b : Bool) → (a ≡ false) × (b ≡ false) → (a || b) ≡ false
or_unknown a b k = rw (k.0, k.1)

or_left : (a b : Bool) → (a || b) ≡ true → b ≡ false → a ≡ true
or_left true b e k = refl
or_left false b e k = sym k ∙ e

or_other : (a b : Bool) → (a || b) ≡ true → a ≡ false → b ≡ true
or_other true b e k = absurd (false≢true (sym k))
or_other false b e k = e

and_known : (a b : Bool) → (a ≡ false) ⊎ (b ≡ false) → (a && b) ≡ false
and_known a b w = elim w [ inl x ↦ rw x | inr y ↦ rw y (and-false a) ]

and_left : (a b : Bool) → (a && b) ≡ false → b ≡ true → a ≡ false
and_left true b e k = sym k ∙ e
and_left false b e k = refl

and_other : (a b : Bool) → (a && b) ≡ false → a ≡ true → b ≡ false
and_other true b e k = e
and_other false b e k = absurd (false≢true k)

minus_known : (a b : Bool) → (a ≡ false) ⊎ (b ≡ true) → (a && not b) ≡ false
minus_known a b w = elim w [ inl x ↦ rw x | inr y ↦ rw y (and-false a) ]

either_of : {X : Type 0} (b : Bool) (x y : X) → (cond b x y ≡ y) ⊎ (cond b x y ≡ x)
either_of true x y = inr refl
either_of false x y = inl refl

ordered-cases : (e f : ℕ) → (ordered e f ≡ (e, f)) ⊎ (ordered e f ≡ (f, e))
ordered-cases e f = either_of (nat_lt f e) (f, e) (e, f)

-- Whether two things are equal, where this is a test r that does not mind their order and may be chained.
module _ (r : ℕ → ℕ → Bool) (swap : (x y : ℕ) → r x y ≡ r y x) (join : (x y z : ℕ) → r x y ≡ true → r y z ≡ true → r x z ≡ true) where
  carried : (x y z : ℕ) (b : Bool) → r x y ≡ true → r y z ≡ b → r x z ≡ b
  carried x y z true p q = join x y z p q
  carried x y z false p q =
      elim (true_or_false (r x z)) [
        | inl k ↦ absurd (false≢true (sym q ∙ join y x z (swap y x ∙ p) k))
        | inr k ↦ k
      ]

  chained-is : (x y z : ℕ) (first second : Bool → Bool) (b : Bool) → ((c : Bool) → first c ≡ true → r x y ≡ c) → ((c : Bool) → second c ≡ true → r y z ≡ c) → chained first second ≡ Some b → r x z ≡ b
  chained-is x y z first second b p q e =
      elim (cond_cases (first true && second true) _ _ (Some b) e) [
        | inl a ↦
            let both = and_true (first true) (second true) a.0 in
            join x y z (p true both.0) (q true both.1) ∙ cc
        | inr d ↦
            elim (cond_cases ((first true && second false) || (first false && second true)) _ None (Some b) d.1) [
              | inl a ↦
                  elim (or_true (first true && second false) (first false && second true) a.0) [
                    | inl w ↦ let both = and_true (first true) (second false) w in carried x y z false (p true both.0) (q false both.1) ∙ cc
                    | inr w ↦ let both = and_true (first false) (second true) w in swap x z ∙ carried z y x false (swap z y ∙ q true both.1) (swap y x ∙ p false both.0) ∙ cc
                  ]
              | inr d ↦ absurd cc
            ]
      ]

  ordered-is : (x y : ℕ) → r (ordered x y).0 (ordered x y).1 ≡ r x y
  ordered-is x y =
      elim (ordered-cases x y) [
        | inl o ↦ ap (λ (p : ℕ × ℕ). r p.0 p.1) o
        | inr o ↦ ap (λ (p : ℕ × ℕ). r p.0 p.1) o ∙ swap y x
      ]

-- the sides of a differing element that was found
sides : (o : Option Element) (s t : ℕ) → is_diff_at s t o ≡ true → (a : ℕ) × (b : ℕ) × (o ≡ Some (elements.Diff a b)) × (((a ≡ s) × (b ≡ t)) ⊎ ((a ≡ t) × (b ≡ s)))
sides None s t e = absurd (false≢true e)
sides (Some (elements.Diff a b)) s t e = (
  a,
  b,
  refl,
  elim (or_true (nat_eq a s && nat_eq b t) (nat_eq a t && nat_eq b s) e) [
    | inl w ↦ let p = and_true (nat_eq a s) (nat_eq b t) w in inl ((unsigned_Decides a s).0 p.0, (unsigned_Decides b t).0 p.1)
    | inr w ↦ let p = and_true (nat_eq a t) (nat_eq b s) w in inr ((unsigned_Decides a t).0 p.0, (unsigned_Decides b s).0 p.1)
  ],
)
sides (Some _) s t e = absurd (false≢true e)

not_not : (a b : Bool) → b ≡ not a → a ≡ not b
not_not true b e = rw e
not_not false b e = rw e

module _ (problem : Parts) (i : Interpretation) (v : Valuation) (fits : Fits problem i v) (path : List Fact) (h : Hold problem v path) where
  -- whether element e is in set s
  inside : ℕ → ℕ → Bool
  inside e s = has_element (v.members s) (v.element e)

  has_within : (e s : ℕ) (b : Bool) → within path e s b ≡ true → inside e s ≡ b
  unfolding inside
  has_within e s b w = has_holds problem v path (facts.Member e s b) h w

  within-is : (e s : ℕ) (b : Bool) → within_of path e s ≡ Some b → inside e s ≡ b
  within-is e s b w = first_sign-is _ _ b (inside e s) (has_within e s true) (has_within e s false) w

  either : (e s t : ℕ) (b c : Bool) → (within path e s b || within path e t c) ≡ true → (inside e s ≡ b) ⊎ (inside e t ≡ c)
  either e s t b c w =
      elim (or_true (within path e s b) (within path e t c) w) [ inl x ↦ inl (has_within e s b x) | inr y ↦ inr (has_within e t c y) ]

  both : (e s f t : ℕ) (b c : Bool) → (within path e s b && within path f t c) ≡ true → (inside e s ≡ b) × (inside f t ≡ c)
  both e s f t b c w =
      let parts = and_true (within path e s b) (within path f t c) w in (has_within e s b parts.0, has_within f t c parts.1)

  module _ (e n a b : ℕ) where
    union-true : (is : inside e n ≡ (inside e a || inside e b)) (p s : ℕ) (g : Bool) → slice_get (n ∷ a ∷ b ∷ []) p ≡ Some s → union_sign path e n a b p ≡ Some g → inside e s ≡ g
    union-true is zero s g at f =
        let same : n ≡ s = cc in
        rw (← same) (first_sign-is _ _ g (inside e n)
        (λ w. is ∙ or_known (inside e a) (inside e b) (either e a b true true w))
        (λ w. is ∙ or_unknown (inside e a) (inside e b) (both e a e b false false w)) f)
    union-true is (suc zero) s g at f =
        let same : a ≡ s = cc in
        rw (← same) (first_sign-is _ _ g (inside e a)
        (λ w. let k = both e n e b true false w in or_left (inside e a) (inside e b) (sym is ∙ k.0) k.1)
        (λ w. (or_false (inside e a) (inside e b) (sym is ∙ has_within e n false w)).0) f)
    union-true is (suc (suc zero)) s g at f =
        let same : b ≡ s = cc in
        rw (← same) (first_sign-is _ _ g (inside e b)
        (λ w. let k = both e n e a true false w in or_other (inside e a) (inside e b) (sym is ∙ k.0) k.1)
        (λ w. (or_false (inside e a) (inside e b) (sym is ∙ has_within e n false w)).1) f)
    union-true is (suc (suc (suc p))) s g at f = absurd cc

    -- the same for an intersection, and for a difference, whose second side counts the other way round
    inter-true : (is : inside e n ≡ (inside e a && inside e b)) (p s : ℕ) (g : Bool) → slice_get (n ∷ a ∷ b ∷ []) p ≡ Some s → inter_sign path e n a b p ≡ Some g → inside e s ≡ g
    inter-true is zero s g at f =
        let same : n ≡ s = cc in
        rw (← same) (first_sign-is _ _ g (inside e n)
        (λ w. let k = both e a e b true true w in is ∙ rw (k.0, k.1))
        (λ w. is ∙ and_known (inside e a) (inside e b) (either e a b false false w)) f)
    inter-true is (suc zero) s g at f =
        let same : a ≡ s = cc in
        rw (← same) (first_sign-is _ _ g (inside e a)
        (λ w. (and_true (inside e a) (inside e b) (sym is ∙ has_within e n true w)).0)
        (λ w. let k = both e n e b false true w in and_left (inside e a) (inside e b) (sym is ∙ k.0) k.1) f)
    inter-true is (suc (suc zero)) s g at f =
        let same : b ≡ s = cc in
        rw (← same) (first_sign-is _ _ g (inside e b)
        (λ w. (and_true (inside e a) (inside e b) (sym is ∙ has_within e n true w)).1)
        (λ w. let k = both e n e a false true w in and_other (inside e a) (inside e b) (sym is ∙ k.0) k.1) f)
    inter-true is (suc (suc (suc p))) s g at f = absurd cc

    minus-true : (is : inside e n ≡ (inside e a && not (inside e b))) (p s : ℕ) (g : Bool) → slice_get (n ∷ a ∷ b ∷ []) p ≡ Some s → minus_sign path e n a b p ≡ Some g → inside e s ≡ g
    minus-true is zero s g at f =
        let same : n ≡ s = cc in
        rw (← same) (first_sign-is _ _ g (inside e n)
        (λ w. let k = both e a e b true false w in is ∙ rw (k.0, k.1))
        (λ w. is ∙ minus_known (inside e a) (inside e b) (either e a b false true w)) f)
    minus-true is (suc zero) s g at f =
        let same : a ≡ s = cc in
        rw (← same) (first_sign-is _ _ g (inside e a)
        (λ w. (and_true (inside e a) (not (inside e b)) (sym is ∙ has_within e n true w)).0)
        (λ w. let k = both e n e b false false w in and_left (inside e a) (not (inside e b)) (sym is ∙ k.0) (ap not k.1)) f)
    minus-true is (suc (suc zero)) s g at f =
        let same : b ≡ s = cc in
        rw (← same) (first_sign-is _ _ g (inside e b)
        (λ w. let k = both e n e a false true w in not-false (inside e b) (and_other (inside e a) (not (inside e b)) (sym is ∙ k.0) k.1))
        (λ w. not-true (inside e b) ((and_true (inside e a) (not (inside e b)) (sym is ∙ has_within e n true w)).1)) f)
    minus-true is (suc (suc (suc p))) s g at f = absurd cc

  op_sign-true : (e n : ℕ) (node : SetTerm) (p s : ℕ) (g : Bool) → v.members n ≡ members_of i v node → argument n node p ≡ Some s → op_sign problem path e n node p ≡ Some g → inside e s ≡ g
  unfolding inside
  op_sign-true e n (sets.Union a b) p s g t at f =
      union-true e n a b (ap (λ xs. has_element xs (v.element e)) t ∙ has_element-union (v.members a) (v.members b) (v.element e)) p s g at f
  op_sign-true e n (sets.Inter a b) p s g t at f =
      inter-true e n a b (ap (λ xs. has_element xs (v.element e)) t ∙ has_element-filter (has_element (v.members b)) (v.members a) (v.element e)) p s g at f
  op_sign-true e n (sets.Minus a b) p s g t at f =
      minus-true e n a b (ap (λ xs. has_element xs (v.element e)) t ∙ has_element-without (v.members a) (v.members b) (v.element e)) p s g at f
  op_sign-true e n (sets.Empty sort) zero s g t at f =
      let same : n ≡ s = cc in
      elim (cond_cases (may_hold problem n e) (Some false) None (Some g) f) [
        | inl a ↦ rw (← same) (ap (λ xs. has_element xs (v.element e)) t ∙ cc)
        | inr b ↦ absurd cc
      ]
  op_sign-true e n (sets.Empty sort) (suc p) s g t at f = absurd cc
  op_sign-true e n _ p s g t at f = absurd cc

  pub op-true : (e n p : ℕ) (fact : Fact) → op_of problem path e n p ≡ Some fact → FactHolds problem v fact
  unfolding inside
  op-true e n p fact k =
      let node = bind_some (set_at problem n) _ fact k in
      let s = bind_some (argument n node.0 p) _ fact node.2 in
      let g = bind_some (op_sign problem path e n node.0 p) _ fact s.2 in
      let same : facts.Member e s.0 g.0 ≡ fact = cc in
      subst (FactHolds problem v) same (op_sign-true e n node.0 p s.0 g.0 (fits.sets n node.0 node.1) s.1 g.1)

  -- ---- equal elements
  alike : ℕ → ℕ → Bool
  alike e f = int_eq (v.element e) (v.element f)

  alike-swap : (e f : ℕ) → alike e f ≡ alike f e
  unfolding alike
  alike-swap e f = int_eq_equiv.symm (v.element e) (v.element f)

  same_value : (e f : ℕ) → alike e f ≡ true → v.element e ≡ v.element f
  unfolding alike
  same_value e f k = (signed_Decides (v.element e) (v.element f)).0 k

  alike-join : (e f g : ℕ) → alike e f ≡ true → alike f g ≡ true → alike e g ≡ true
  unfolding alike
  alike-join e f g p q = ap (λ z. int_eq z (v.element g)) (same_value e f p) ∙ q

  equal-holds : (e f : ℕ) (b : Bool) → alike e f ≡ b → FactHolds problem v (equal_fact e f b)
  unfolding alike
  equal-holds e f b k = ordered-is alike alike-swap alike-join e f ∙ k

  pub atom_equal : (e f : ℕ) (b : Bool) → int_eq (v.element e) (v.element f) ≡ b → FactHolds problem v (equal_fact e f b)
  unfolding alike
  atom_equal = equal-holds

  has_equal : (e f : ℕ) (b : Bool) → equal path e f b ≡ true → alike e f ≡ b
  unfolding alike
  has_equal e f b k = sym (ordered-is alike alike-swap alike-join e f) ∙ has_holds problem v path (equal_fact e f b) h k

  equal-is : (e f : ℕ) (b : Bool) → equal_of path e f ≡ Some b → alike e f ≡ b
  equal-is e f b w = first_sign-is _ _ b (alike e f) (has_equal e f true) (has_equal e f false) w

  pub carry-true : (e f s : ℕ) (fact : Fact) → carry_of path e f s ≡ Some fact → FactHolds problem v fact
  unfolding inside
  carry-true e f s fact k =
      elim (cond_cases (equal path e f true) _ None (Some fact) k) [
        | inl a ↦
            let b = bind_some (within_of path e s) _ fact a.1 in
            let same : facts.Member f s b.0 ≡ fact = cc in
            subst (FactHolds problem v) same (ap (has_element (v.members s)) (sym (same_value e f (has_equal e f true a.0))) ∙ within-is e s b.0 b.1)
        | inr b ↦ absurd cc
      ]

  unlike : (e f s : ℕ) (b c : Bool) → inside e s ≡ b → inside f s ≡ c → b ≢ c → alike e f ≡ false
  unfolding inside
  unlike e f s b c p q apart =
      elim (true_or_false (alike e f)) [
        | inl k ↦ absurd (apart (sym p ∙ ap (has_element (v.members s)) (same_value e f k) ∙ q))
        | inr k ↦ k
      ]

  pub apart-true : (e f s : ℕ) (fact : Fact) → apart_of path e f s ≡ Some fact → FactHolds problem v fact
  apart-true e f s fact k =
      elim (cond_cases ((within path e s true && within path f s false) || (within path e s false && within path f s true)) (Some (equal_fact e f false)) None (Some fact) k) [
        | inl a ↦
            let same : equal_fact e f false ≡ fact = cc in
            subst (FactHolds problem v) same (equal-holds e f false (
            elim (or_true (within path e s true && within path f s false) (within path e s false && within path f s true) a.0) [
              | inl w ↦ let p = both e s f s true false w in unlike e f s true false p.0 p.1 (λ x. false≢true (sym x))
              | inr w ↦ let p = both e s f s false true w in unlike e f s false true p.0 p.1 false≢true
            ]))
        | inr b ↦ absurd cc
      ]

  pub reflexive-true : (e : ℕ) (fact : Fact) → reflexive_of problem e ≡ Some fact → FactHolds problem v fact
  reflexive-true e fact k =
      let node = bind_some (element_at problem e) _ fact k in
      let same : facts.Eq e e true ≡ fact = cc in
      subst (FactHolds problem v) same (int_eq-same (v.element e))

  pub equal_step-true : (e f g : ℕ) (fact : Fact) → equal_step_of path e f g ≡ Some fact → FactHolds problem v fact
  equal_step-true e f g fact k =
      let b = bind_some (chained (equal path e f) (equal path f g)) _ fact k in
      let same : equal_fact e g b.0 ≡ fact = cc in
      subst (FactHolds problem v) same (equal-holds e g b.0 (chained-is alike alike-swap alike-join e f g (equal path e f) (equal path f g) b.0 (has_equal e f) (has_equal f g) b.1))

  -- ---- sets of one
  one_left : (b : Bool) → (b || false) ≡ b
  one_left true = refl
  one_left false = refl

  in_single-node : (e s f : ℕ) (o : Option SetTerm) → set_at problem s ≡ o → single_of o ≡ Some f → inside e s ≡ alike e f
  unfolding inside alike
  in_single-node e s f (Some (sets.Single g)) at k =
      let same : g ≡ f = cc in
      rw (← same) (ap (λ xs. has_element xs (v.element e)) (fits.sets s (sets.Single g) at) ∙ one_left (int_eq (v.element e) (v.element g)))
  in_single-node e s f _ at k = absurd cc

  in_single : (e s f : ℕ) → single_of (set_at problem s) ≡ Some f → inside e s ≡ alike e f
  in_single e s f k = in_single-node e s f (set_at problem s) refl k

  pub into_single-true : (e s : ℕ) (fact : Fact) → into_single problem path e s ≡ Some fact → FactHolds problem v fact
  unfolding inside
  into_single-true e s fact k =
      let f = bind_some (single_of (set_at problem s)) _ fact k in
      let b = bind_some (equal_of path e f.0) _ fact f.2 in
      let same : facts.Member e s b.0 ≡ fact = cc in
      subst (FactHolds problem v) same (in_single e s f.0 f.1 ∙ equal-is e f.0 b.0 b.1)

  pub from_single-true : (e s : ℕ) (fact : Fact) → from_single problem path e s ≡ Some fact → FactHolds problem v fact
  from_single-true e s fact k =
      let f = bind_some (single_of (set_at problem s)) _ fact k in
      let b = bind_some (within_of path e s) _ fact f.2 in
      let same : equal_fact e f.0 b.0 ≡ fact = cc in
      subst (FactHolds problem v) same (equal-holds e f.0 b.0 (sym (in_single e s f.0 f.1) ∙ within-is e s b.0 b.1))

  -- ---- equal sets
  matched : ℕ → ℕ → Bool
  matched s t = same_elements (v.members s) (v.members t)

  matched-swap : (s t : ℕ) → matched s t ≡ matched t s
  unfolding matched
  matched-swap s t = same_elements-swap (v.members s) (v.members t)

  matched-inside : (e s t : ℕ) → matched s t ≡ true → inside e s ≡ inside e t
  unfolding inside matched
  matched-inside e s t k = same-holds (v.members s) (v.members t) k (v.element e)

  matched-join : (s t u : ℕ) → matched s t ≡ true → matched t u ≡ true → matched s u ≡ true
  unfolding matched
  matched-join s t u p q = holds-same (v.members s) (v.members u) (λ x. same-holds (v.members s) (v.members t) p x ∙ same-holds (v.members t) (v.members u) q x)

  same_set-holds : (s t : ℕ) (b : Bool) → matched s t ≡ b → FactHolds problem v (same_set_fact s t b)
  unfolding matched
  same_set-holds s t b k = ordered-is matched matched-swap matched-join s t ∙ k

  pub atom_same_set : (s t : ℕ) (b : Bool) → same_elements (v.members s) (v.members t) ≡ b → FactHolds problem v (same_set_fact s t b)
  unfolding matched
  atom_same_set = same_set-holds

  has_same_set : (s t : ℕ) (b : Bool) → same_set path s t b ≡ true → matched s t ≡ b
  unfolding matched
  has_same_set s t b k = sym (ordered-is matched matched-swap matched-join s t) ∙ has_holds problem v path (same_set_fact s t b) h k

  pub move-true : (e s t : ℕ) (fact : Fact) → move_of path e s t ≡ Some fact → FactHolds problem v fact
  unfolding inside
  move-true e s t fact k =
      elim (cond_cases (same_set path s t true) _ None (Some fact) k) [
        | inl a ↦
            let b = bind_some (within_of path e s) _ fact a.1 in
            let same : facts.Member e t b.0 ≡ fact = cc in
            subst (FactHolds problem v) same (sym (matched-inside e s t (has_same_set s t true a.0)) ∙ within-is e s b.0 b.1)
        | inr b ↦ absurd cc
      ]

  unmatched : (e s t : ℕ) (b c : Bool) → inside e s ≡ b → inside e t ≡ c → b ≢ c → matched s t ≡ false
  unmatched e s t b c p q apart =
      elim (true_or_false (matched s t)) [
        | inl k ↦ absurd (apart (sym p ∙ matched-inside e s t k ∙ q))
        | inr k ↦ k
      ]

  pub set_apart-true : (e s t : ℕ) (fact : Fact) → set_apart_of path e s t ≡ Some fact → FactHolds problem v fact
  set_apart-true e s t fact k =
      elim (cond_cases ((within path e s true && within path e t false) || (within path e s false && within path e t true)) (Some (same_set_fact s t false)) None (Some fact) k) [
        | inl a ↦
            let same : same_set_fact s t false ≡ fact = cc in
            subst (FactHolds problem v) same (same_set-holds s t false (
            elim (or_true (within path e s true && within path e t false) (within path e s false && within path e t true) a.0) [
              | inl w ↦ let p = both e s e t true false w in unmatched e s t true false p.0 p.1 (λ x. false≢true (sym x))
              | inr w ↦ let p = both e s e t false true w in unmatched e s t false true p.0 p.1 false≢true
            ]))
        | inr b ↦ absurd cc
      ]

  pub set_reflexive-true : (s : ℕ) (fact : Fact) → set_reflexive_of problem s ≡ Some fact → FactHolds problem v fact
  set_reflexive-true s fact k =
      let node = bind_some (set_at problem s) _ fact k in
      let same : facts.EqSet s s true ≡ fact = cc in
      subst (FactHolds problem v) same (holds-same (v.members s) (v.members s) (λ x. refl))

  pub set_step-true : (s t u : ℕ) (fact : Fact) → set_step_of path s t u ≡ Some fact → FactHolds problem v fact
  set_step-true s t u fact k =
      let b = bind_some (chained (same_set path s t) (same_set path t u)) _ fact k in
      let same : same_set_fact s u b.0 ≡ fact = cc in
      subst (FactHolds problem v) same (same_set-holds s u b.0 (chained-is matched matched-swap matched-join s t u (same_set path s t) (same_set path t u) b.0 (has_same_set s t) (has_same_set t u) b.1))

  -- ---- sets that differ
  split_at : (d a b : ℕ) → element_at problem d ≡ Some (elements.Diff a b) → matched a b ≡ false → inside d b ≡ not (inside d a)
  unfolding inside matched
  split_at d a b at k =
      subst (λ x. has_element (v.members b) x ≡ not (has_element (v.members a) x)) (sym (fits.elements d (elements.Diff a b) at)) (least_differs (v.members a) (v.members b) k)

  differing-splits : (s t d : ℕ) → differing problem path s t ≡ Some d → inside d t ≡ not (inside d s)
  differing-splits s t d k =
      elim (cond_cases (same_set path s t false) (diff_of problem s t) None (Some d) k) [
        | inl a ↦
            let apart = has_same_set s t false a.0 in
            let found = sides (element_at problem d) s t (subst (λ o. IfSome o (λ n. is_diff_at s t (element_at problem n) ≡ true)) a.1 (diff_found problem s t)) in
            elim found.3 [
              | inl p ↦ split_at d s t (subst (λ n. element_at problem d ≡ Some (elements.Diff s n)) p.1 (subst (λ n. element_at problem d ≡ Some (elements.Diff n found.1)) p.0 found.2)) apart
              | inr p ↦ not_not (inside d t) (inside d s) (split_at d t s (subst (λ n. element_at problem d ≡ Some (elements.Diff t n)) p.1 (subst (λ n. element_at problem d ≡ Some (elements.Diff n found.1)) p.0 found.2)) (matched-swap t s ∙ apart))
            ]
        | inr b ↦ absurd cc
      ]

  told : (d low high : ℕ) → inside d high ≡ not (inside d low) → OneHolds problem v (tells_apart d (low, high) true ∷ tells_apart d (low, high) false ∷ [])
  unfolding inside
  told d low high k =
      elim (true_or_false (inside d low)) [
        | inl e ↦ inl (e, (k ∙ ap not e, tt))
        | inr e ↦ inr (inl (e, (k ∙ ap not e, tt)))
      ]

  pub differ-true : (s t : ℕ) (bs : List (List Fact)) → differ_of problem path s t ≡ Some bs → OneHolds problem v bs
  differ-true s t bs k =
      let d = bind_some (differing problem path s t) _ bs k in
      let same : tells_apart d.0 (ordered s t) true ∷ tells_apart d.0 (ordered s t) false ∷ [] ≡ bs = cc in
      let apart = differing-splits s t d.0 d.1 in
      subst (OneHolds problem v) same (
      elim (ordered-cases s t) [
        | inl o ↦ subst (λ p. OneHolds problem v (tells_apart d.0 p true ∷ tells_apart d.0 p false ∷ [])) (sym o) (told d.0 s t apart)
        | inr o ↦ subst (λ p. OneHolds problem v (tells_apart d.0 p true ∷ tells_apart d.0 p false ∷ [])) (sym o) (told d.0 t s (not_not (inside d.0 s) (inside d.0 t) apart))
      ])
