-- A list of facts of a path that has the premises of a step has its branches, and the premises stand on the path.
use Rattle.std.proofs.Common.{◌≡◌, ℕ, zero, suc, ◌+◌, ◌-◌, Bool, true, false, not, ◌&&◌, ◌||◌, cond, nat_eq, List, [], ◌∷◌, ◌++◌, map, take, drop, Option, Some, None, is_some, refl, sym, ap, subst, ◌∙◌}
use Rattle.std.specs.Prelude.{slice_get}
use Rattle.std.specs.List.{list_any, position_from}
use Rattle.std.proofs.lemmas.Bool.{false≢true, eqb-true}
use Rattle.std.proofs.lemmas.List.{append-nil, append_assoc}
use Rattle.std.proofs.lemmas.Iterator.Adapters.{position_from-zero}
use Rattle.sc_base.specs.Options.{◌>>=◌}
use Rattle.sc_base.proofs.Bools.{and_true, or_false, or_none, or_right, and_right}
use Rattle.sc_terms.specs.declared.problem.Parts.{Parts}
use Rattle.sc_terms.specs.declared.nodes.Formula.{Formula}
use Rattle.sc_terms.specs.declared.nodes.Formula.TheVariants as formulas
use Rattle.sc_terms.specs.declared.nodes.SetTerm.{SetTerm}
use Rattle.sc_terms.specs.declared.nodes.SetTerm.TheVariants as sets
use Rattle.sc_terms.specs.Lookup.{formula_at, set_at, element_at, diff_of}
use Rattle.sc_sorts.specs.Sorts.{may_hold}
use Rattle.sc_facts.specs.declared.fact.Fact.{Fact}
use Rattle.sc_facts.specs.declared.fact.Fact.TheVariants as facts
use Rattle.sc_facts.specs.Same.{same_fact}
use Rattle.sc_facts.specs.Facts.{has, first_place}
use Rattle.sc_rules.specs.declared.step.PlainStep.{PlainStep}
use Rattle.sc_rules.specs.declared.step.PlainStep.TheVariants as steps
use Rattle.sc_rules.specs.Pairs.{first_sign, equal_fact, same_set_fact}
use Rattle.sc_rules.specs.Boolean.{sign, sign_of, all_have, some_has, agree, differ, own_sign, part_at, others_have, part_sign, unit_of, parts_sign, atom_with}
use Rattle.sc_rules.specs.Members.{within, within_of, op_sign, argument, single_of}
use Rattle.sc_rules.specs.Steps.{one, names_fact, branches}
use Rattle.sc_rules.specs.Needs.{places_from, PremisesHavePlaces, given, both, otherwise, is_before, earlier, listed, either, signs, earliest, all_given, some_given, signed, denied, signed_pair, own_premises, all_but, part_premises, parts_premises, placed_in, term_premises, no_premises, with_placed, on_both_sides, chain_premises, premises, AllStand, PremisesKeepSteps, PremisesStand, PremisesWhereStepsApply}

by_bool : {A : Type 0} (b : Bool) → (b ≡ true → A) → (b ≡ false → A) → A
by_bool true f g = f refl
by_bool false f g = g refl

and_both : (a b : Bool) → a ≡ true → b ≡ true → (a && b) ≡ true
and_both true b e f = f
and_both false b e f = absurd (false≢true e)

or_left : (a b : Bool) → a ≡ true → (a || b) ≡ true
or_left true b e = refl
or_left false b e = absurd (false≢true e)

or_assoc : (a b c : Bool) → ((a || b) || c) ≡ (a || (b || c))
or_assoc true b c = refl
or_assoc false b c = refl

neither : (a b : Bool) → a ≡ false → b ≡ false → (a || b) ≡ false
neither a b e f = rw (e, f) refl

-- where each test is false if the one before is, so is their conjunction
and_back : (a b c d : Bool) → (a ≡ false → c ≡ false) → (b ≡ false → d ≡ false) → (a && b) ≡ false → (c && d) ≡ false
and_back true b c d f g e = and_right c d (g e)
and_back false b c d f g e = rw (f refl) refl

-- a number that is not the other
other_than : (m n : ℕ) → (m ≡ n → ⊥) → nat_eq m n ≡ false
other_than m n f = by_bool (nat_eq m n) (λ t. absurd (f (eqb-true m n t))) (λ t. t)

placed-any : (p : Fact → Bool) (n : ℕ) (xs : List Fact) → is_some (position_from p n xs) ≡ list_any p xs
placed-any p n [] = refl
placed-any p n (x ∷ xs) = by (p x) (placed-any p (n + 1) xs)
  where
    by : (b : Bool) → is_some (position_from p (n + 1) xs) ≡ list_any p xs → is_some (cond b (Some n) (position_from p (n + 1) xs)) ≡ (b || list_any p xs)
    by true rest = refl
    by false rest = rest

placed-has : (path : List Fact) (fact : Fact) → is_some (first_place path fact) ≡ has path fact
placed-has path fact = ap is_some (position_from-zero (same_fact fact) path) ∙ placed-any (same_fact fact) 0 path

before-some : (place other : Option ℕ) → is_before place other ≡ true → is_some place ≡ true
before-some (Some m) other e = refl
before-some None other e = absurd (false≢true e)

module _ (path part : List Fact) (inside : (fact : Fact) → has part fact ≡ true → has path fact ≡ true) where
  outside : (fact : Fact) → has path fact ≡ false → has part fact ≡ false
  outside fact e = by_bool (has part fact) (λ t. absurd (false≢true (sym e ∙ inside fact t))) (λ t. t)

  -- the facts bear out a test of the path, and of the part
  record Bears (before after : Bool) (evidence : Option (List Fact)) : Type 0 where
    shown : is_some evidence ≡ before
    kept : (fs : List Fact) → evidence ≡ Some fs → AllStand part fs → after ≡ true
    back : before ≡ false → after ≡ false
    stands : (fs : List Fact) → evidence ≡ Some fs → AllStand path fs

  -- the facts bear out what follows from the path, and follows from the part too
  record Keeps {X : Type 0} (before after : Option X) (evidence : Option (List Fact)) : Type 0 where
    appears : is_some evidence ≡ is_some before
    stays : (fs : List Fact) → evidence ≡ Some fs → AllStand part fs → after ≡ before
    stood : (fs : List Fact) → evidence ≡ Some fs → AllStand path fs

  tested : (before after : Bool) (fs : List Fact) → (AllStand part fs → after ≡ true) → (before ≡ false → after ≡ false) → (before ≡ true → AllStand path fs) → Bears before after (cond before (Some fs) None)
  tested true after fs k b s =
      record {
        shown = refl;
        kept = λ gs i h. let same : gs ≡ fs = cc in k (subst (AllStand part) same h);
        back = b;
        stands = λ gs i. let same : fs ≡ gs = cc in subst (AllStand path) same (s refl);
      }
  tested false after fs k b s = record { shown = refl; kept = λ gs i h. absurd cc; back = b; stands = λ gs i. absurd cc }

  given-bears : (fact : Fact) → Bears (has path fact) (has part fact) (given path fact)
  given-bears fact = tested (has path fact) (has part fact) (fact ∷ []) (λ h. h.0) (outside fact) (λ e. (e, tt))

  both-bears : (f g : Fact) → Bears (has path f && has path g) (has part f && has part g) (both path f g)
  both-bears f g =
      tested (has path f && has path g) (has part f && has part g) (f ∷ g ∷ []) (λ h. and_both _ _ h.0 h.1.0) (and_back _ _ _ _ (outside f) (outside g)) (λ e. let p = and_true (has path f) (has path g) e in (p.0, (p.1, tt)))

  otherwise-bears : {a b c d : Bool} {e e' : Option (List Fact)} → Bears a b e → Bears c d e' → Bears (a || c) (b || d) (otherwise e e')
  otherwise-bears {a} {b} {c} {d} {e} {e'} p q = by e refl
    where
      by : (o : Option (List Fact)) → e ≡ o → Bears (a || c) (b || d) (otherwise e e')
      by (Some fs) i =
          rw i
          record {
            shown = sym (or_left a c (sym p.shown ∙ ap is_some i));
            kept = λ gs j h. or_left b d (p.kept gs (i ∙ j) h);
            back = λ f. absurd (false≢true (sym f ∙ or_left a c (sym p.shown ∙ ap is_some i)));
            stands = λ gs j. p.stands gs (i ∙ j);
          }
      by None i =
          let none : a ≡ false = sym p.shown ∙ ap is_some i in
          rw i
          record {
            shown = q.shown ∙ sym (ap (λ k. k || c) none);
            kept = λ gs j h. or_right b d (q.kept gs j h);
            back = λ f. let n = or_false a c f in neither b d (p.back n.0) (q.back n.1);
            stands = q.stands;
          }

  nothing-bears : Bears false false None
  nothing-bears = record { shown = refl; kept = λ fs i h. absurd cc; back = λ e. e; stands = λ fs i. absurd cc }

  earlier-bears : {a b : Bool} (best : Option Fact) (fact : Fact) → Bears a b (listed best) → Bears (a || has path fact) (b || has part fact) (listed (earlier path best fact))
  earlier-bears {a} {b} None fact p = by (has path fact) refl
    where
      none : a ≡ false
      none = sym p.shown

      after : b ≡ false
      after = p.back none

      by : (t : Bool) → has path fact ≡ t → Bears (a || has path fact) (b || has part fact) (listed (cond (has path fact) (Some fact) None))
      by true e =
          rw (none, after, e)
          record { shown = refl; kept = λ fs i h. let same : fs ≡ fact ∷ [] = cc in (subst (AllStand part) same h).0; back = λ f. absurd (false≢true (sym f)); stands = λ fs i. let same : fact ∷ [] ≡ fs = cc in subst (AllStand path) same (e, tt) }
      by false e = rw (none, after, e) record { shown = refl; kept = λ fs i h. absurd cc; back = λ f. outside fact e; stands = λ fs i. absurd cc }
  earlier-bears {a} {b} (Some best) fact p = by (is_before (first_place path fact) (first_place path best)) refl
    where
      some : a ≡ true
      some = sym p.shown

      by : (t : Bool) → is_before (first_place path fact) (first_place path best) ≡ t → Bears (a || has path fact) (b || has part fact) (listed (cond (is_before (first_place path fact) (first_place path best)) (Some fact) (Some best)))
      by true e =
          let on : has path fact ≡ true = sym (placed-has path fact) ∙ before-some (first_place path fact) (first_place path best) e in
          rw e
          record {
            shown = sym (or_left a (has path fact) some);
            kept = λ fs i h. let same : fs ≡ fact ∷ [] = cc in or_right b (has part fact) (subst (AllStand part) same h).0;
            back = λ f. absurd (false≢true (sym f ∙ or_left a (has path fact) some));
            stands = λ fs i. let same : fact ∷ [] ≡ fs = cc in subst (AllStand path) same (on, tt);
          }
      by false e =
          rw e
          record {
            shown = sym (or_left a (has path fact) some);
            kept = λ fs i h. or_left b (has part fact) (p.kept fs i h);
            back = λ f. absurd (false≢true (sym f ∙ or_left a (has path fact) some));
            stands = p.stands;
          }

  either-bears : (f g : Fact) → Bears (has path f || has path g) (has part f || has part g) (either path f g)
  either-bears f g = earlier-bears (earlier path None f) g (earlier-bears None f nothing-bears)

  signs-all : (list : List Fact) (s : Bool) (fs : List ℕ) → AllStand list (signs fs s) → all_have list fs s ≡ true
  signs-all list s [] h = refl
  signs-all list s (f ∷ fs) h = and_both _ _ h.0 (signs-all list s fs h.1)

  all-signs : (list : List Fact) (s : Bool) (fs : List ℕ) → all_have list fs s ≡ true → AllStand list (signs fs s)
  all-signs list s [] e = tt
  all-signs list s (f ∷ fs) e = let p = and_true (sign list f s) (all_have list fs s) e in (p.0, all-signs list s fs p.1)

  all-back : (s : Bool) (fs : List ℕ) → all_have path fs s ≡ false → all_have part fs s ≡ false
  all-back s [] e = e
  all-back s (f ∷ fs) e = and_back (sign path f s) (all_have path fs s) (sign part f s) (all_have part fs s) (outside (facts.Sign f s)) (all-back s fs) e

  all-bears : (fs : List ℕ) (s : Bool) → Bears (all_have path fs s) (all_have part fs s) (all_given path fs s)
  all-bears fs s = tested (all_have path fs s) (all_have part fs s) (signs fs s) (signs-all part s fs) (all-back s fs) (all-signs path s fs)

  earliest-bears : (s : Bool) (fs : List ℕ) (a b : Bool) (best : Option Fact) → Bears a b (listed best) → Bears (a || some_has path fs s) (b || some_has part fs s) (listed (earliest path best (signs fs s)))
  earliest-bears s [] a b best p = rw (or_none a, or_none b) p
  earliest-bears s (f ∷ fs) a b best p =
      let rest = earliest-bears s fs (a || sign path f s) (b || sign part f s) (earlier path best (facts.Sign f s)) (earlier-bears best (facts.Sign f s) p) in
      subst (λ c. Bears c (b || some_has part (f ∷ fs) s) (listed (earliest path best (signs (f ∷ fs) s)))) (or_assoc a (sign path f s) (some_has path fs s))
      (subst (λ c. Bears ((a || sign path f s) || some_has path fs s) c (listed (earliest path best (signs (f ∷ fs) s)))) (or_assoc b (sign part f s) (some_has part fs s)) rest)

  some-bears : (fs : List ℕ) (s : Bool) → Bears (some_has path fs s) (some_has part fs s) (some_given path fs s)
  some-bears fs s = earliest-bears s fs false false None nothing-bears

  AllStand-left : (list xs ys : List Fact) → AllStand list (xs ++ ys) → AllStand list xs
  AllStand-left list [] ys h = tt
  AllStand-left list (x ∷ xs) ys h = (h.0, AllStand-left list xs ys h.1)

  AllStand-right : (list xs ys : List Fact) → AllStand list (xs ++ ys) → AllStand list ys
  AllStand-right list [] ys h = h
  AllStand-right list (x ∷ xs) ys h = AllStand-right list xs ys h.1

  AllStand-append : (list xs ys : List Fact) → AllStand list xs → AllStand list ys → AllStand list (xs ++ ys)
  AllStand-append list [] ys h k = k
  AllStand-append list (x ∷ xs) ys h k = (h.0, AllStand-append list xs ys h.1 k)

  all_but-bears : (n : ℕ) (fs : List ℕ) (p : ℕ) (s : Bool) → Bears (sign path n s && others_have path fs p (not s)) (sign part n s && others_have part fs p (not s)) (all_but path n fs p s)
  all_but-bears n fs p s =
      tested (sign path n s && others_have path fs p (not s)) (sign part n s && others_have part fs p (not s)) (facts.Sign n s ∷ signs (take (p - 1) fs) (not s) ++ signs (drop p fs) (not s))
      (λ h. and_both _ _ h.0 (and_both _ _ (signs-all part (not s) (take (p - 1) fs) (AllStand-left part (signs (take (p - 1) fs) (not s)) (signs (drop p fs) (not s)) h.1)) (signs-all part (not s) (drop p fs) (AllStand-right part (signs (take (p - 1) fs) (not s)) (signs (drop p fs) (not s)) h.1))))
      (and_back _ _ _ _ (outside (facts.Sign n s)) (and_back _ _ _ _ (all-back (not s) (take (p - 1) fs)) (all-back (not s) (drop p fs))))
      (λ e.
      let a = and_true (sign path n s) (others_have path fs p (not s)) e in
      let b = and_true (all_have path (take (p - 1) fs) (not s)) (all_have path (drop p fs) (not s)) a.1 in
      (a.0, AllStand-append path (signs (take (p - 1) fs) (not s)) (signs (drop p fs) (not s)) (all-signs path (not s) (take (p - 1) fs) b.0) (all-signs path (not s) (drop p fs) b.1)))

  sign-keeps : {a b c d : Bool} {e e' : Option (List Fact)} → Bears a b e → Bears c d e' → Keeps (first_sign a c) (first_sign b d) (otherwise e e')
  sign-keeps {a} {b} {c} {d} {e} {e'} p q = by e refl
    where
      by : (o : Option (List Fact)) → e ≡ o → Keeps (first_sign a c) (first_sign b d) (otherwise e e')
      by (Some fs) i =
          let is : a ≡ true = sym p.shown ∙ ap is_some i in
          rw i
          record {
            appears = rw is refl;
            stays = λ gs j h. let after : b ≡ true = p.kept gs (i ∙ j) h in rw (is, after) refl;
            stood = λ gs j. p.stands gs (i ∙ j);
          }
      by None i =
          let not_plus : a ≡ false = sym p.shown ∙ ap is_some i in
          let not_after : b ≡ false = p.back not_plus in
          rw i
          record {
            appears = rw not_plus (q.shown ∙ minus_some c);
            stays = λ gs j h. let after : d ≡ true = q.kept gs j h in let is : c ≡ true = sym q.shown ∙ ap is_some j in rw (not_plus, not_after, is, after) refl;
            stood = q.stands;
          }
        where
          minus_some : (k : Bool) → k ≡ is_some (first_sign false k)
          minus_some true = refl
          minus_some false = refl

  cond-keeps : {X : Type 0} {a b : Bool} {e : Option (List Fact)} (x : X) → Bears a b e → Keeps (cond a (Some x) None) (cond b (Some x) None) e
  cond-keeps {X} {a} {b} {e} x p =
      record {
        appears = p.shown ∙ itself a;
        stays = λ fs i h. let is : a ≡ true = sym p.shown ∙ ap is_some i in let after : b ≡ true = p.kept fs i h in rw (is, after) refl;
        stood = p.stands;
      }
    where
      itself : (k : Bool) → k ≡ is_some (cond k (Some x) None)
      itself true = refl
      itself false = refl

  never : {X : Type 0} → Keeps {X = X} None None None
  never = record { appears = refl; stays = λ fs i h. refl; stood = λ fs i. absurd cc }

  always : {X : Type 0} (x : X) → Keeps (Some x) (Some x) (Some [])
  always x = record { appears = refl; stays = λ fs i h. refl; stood = λ fs i. let same : [] ≡ fs = cc in subst (AllStand path) same tt }

  if-keeps : {X : Type 0} (k : Bool) (x : X) → Keeps (cond k (Some x) None) (cond k (Some x) None) (no_premises k)
  if-keeps true x = always x
  if-keeps false x = never

  -- what is made of a conclusion
  made-keeps : {X Y : Type 0} (make : X → Y) (o o' : Option X) (e : Option (List Fact)) → Keeps o o' e → Keeps (o >>= λ x. Some (make x)) (o' >>= λ x. Some (make x)) e
  made-keeps make o o' e p =
      record {
        appears = p.appears ∙ made o;
        stays = λ fs i h. ap (λ q. q >>= λ x. Some (make x)) (p.stays fs i h);
        stood = p.stood;
      }
    where
      made : (q : Option _) → is_some q ≡ is_some (q >>= λ x. Some (make x))
      made None = refl
      made (Some x) = refl

  none-follows : {X Y : Type 0} (o : Option X) → ◌≡◌ {A = Option Y} (o >>= λ x. None) None
  none-follows None = refl
  none-follows (Some x) = refl

  nothing-keeps : {X Y : Type 0} (o o' : Option X) → Keeps {X = Y} (o >>= λ x. None) (o' >>= λ x. None) None
  nothing-keeps o o' = rw (none-follows o, none-follows o') never

  -- what is looked up in the problem
  looked-keeps : {X Y : Type 0} (o : Option X) (f g : X → Option Y) (e : X → Option (List Fact)) → ((x : X) → Keeps (f x) (g x) (e x)) → Keeps (o >>= f) (o >>= g) (o >>= e)
  looked-keeps None f g e k = never
  looked-keeps (Some x) f g e k = k x

  choice-keeps : {X : Type 0} (k : Bool) (x y x' y' : Option X) (e e' : Option (List Fact)) → Keeps x x' e → Keeps y y' e' → Keeps (cond k x y) (cond k x' y') (cond k e e')
  choice-keeps true x y x' y' e e' p q = p
  choice-keeps false x y x' y' e e' p q = q

  one-keeps : (o o' : Option Fact) (e : Option (List Fact)) → Keeps o o' e → Keeps (one o) (one o') e
  one-keeps o o' e p = made-keeps (λ f. (f ∷ []) ∷ []) o o' e p

  signed-keeps : (f : ℕ) → Keeps (sign_of path f) (sign_of part f) (signed path f)
  signed-keeps f = sign-keeps (given-bears (facts.Sign f true)) (given-bears (facts.Sign f false))

  denied-keeps : (f : ℕ) → Keeps (first_sign (sign path f false) (sign path f true)) (first_sign (sign part f false) (sign part f true)) (denied path f)
  denied-keeps f = sign-keeps (given-bears (facts.Sign f false)) (given-bears (facts.Sign f true))

  pair-keeps : (f g : ℕ) → Keeps (first_sign (agree path f g) (differ path f g)) (first_sign (agree part f g) (differ part f g)) (signed_pair path f g)
  pair-keeps f g =
      sign-keeps
      (otherwise-bears (both-bears (facts.Sign f true) (facts.Sign g true)) (both-bears (facts.Sign f false) (facts.Sign g false)))
      (otherwise-bears (both-bears (facts.Sign f true) (facts.Sign g false)) (both-bears (facts.Sign f false) (facts.Sign g true)))

  own-keeps : (node : Formula) → Keeps (own_sign path node) (own_sign part node) (own_premises path node)
  own-keeps formulas.True = always true
  own-keeps formulas.False = always false
  own-keeps (formulas.Not f) = denied-keeps f
  own-keeps (formulas.And fs) = sign-keeps (all-bears fs true) (some-bears fs false)
  own-keeps (formulas.Or fs) = sign-keeps (some-bears fs true) (all-bears fs false)
  own-keeps (formulas.Iff f g) = pair-keeps f g
  own-keeps _ = never

  part-keeps : (n : ℕ) (node : Formula) (p : ℕ) → Keeps (part_sign path n node p) (part_sign part n node p) (part_premises path n node p)
  part-keeps n (formulas.Not f) p = denied-keeps n
  part-keeps n (formulas.And fs) p = cond-keeps false (all_but-bears n fs p false)
  part-keeps n (formulas.Or fs) p = cond-keeps true (all_but-bears n fs p true)
  part-keeps n (formulas.Iff f g) p = choice-keeps (nat_eq p 1) _ _ _ _ _ _ (pair-keeps n g) (pair-keeps n f)
  part-keeps n _ p = never

  parts-keeps : (n : ℕ) (node : Formula) → Keeps (parts_sign path n node) (parts_sign part n node) (parts_premises path n node)
  parts-keeps n (formulas.And fs) = cond-keeps true (given-bears (facts.Sign n true))
  parts-keeps n (formulas.Or fs) = cond-keeps false (given-bears (facts.Sign n false))
  parts-keeps n _ = never

  atom-keeps : (n : ℕ) (node : Formula) → Keeps (sign_of path n >>= λ s. atom_with node s) (sign_of part n >>= λ s. atom_with node s) (atom_with node true >>= λ f. signed path n)
  atom-keeps n (formulas.Member e s) = made-keeps (λ b. facts.Member e s b) _ _ _ (signed-keeps n)
  atom-keeps n (formulas.Eq e f) = made-keeps (λ b. equal_fact e f b) _ _ _ (signed-keeps n)
  atom-keeps n (formulas.EqSet s t) = made-keeps (λ b. same_set_fact s t b) _ _ _ (signed-keeps n)
  atom-keeps n _ = nothing-keeps (sign_of path n) (sign_of part n)

  -- where what is looked up second in the step is looked up first for the premises
  swapped-keeps : {X Y Z : Type 0} (make : X → Y → Z) (o o' : Option X) (q : Option Y) (e : Option (List Fact)) → Keeps o o' e → Keeps (o >>= λ x. q >>= λ y. Some (make x y)) (o' >>= λ x. q >>= λ y. Some (make x y)) (q >>= λ y. e)
  swapped-keeps make o o' None e p = nothing-keeps o o'
  swapped-keeps make o o' (Some y) e p = made-keeps (λ x. make x y) o o' e p

  placed-keeps : (e s : ℕ) → Keeps (within_of path e s) (within_of part e s) (placed_in path e s)
  placed-keeps e s = sign-keeps (given-bears (facts.Member e s true)) (given-bears (facts.Member e s false))

  -- a further test before a sign is one in both of its tests
  tested_first : {X : Type 0} (k plus minus : Bool) (make : Bool → X) → cond k (first_sign plus minus >>= λ s. Some (make s)) None ≡ (first_sign (k && plus) (k && minus) >>= λ s. Some (make s))
  tested_first true plus minus make = refl
  tested_first false plus minus make = refl

  with-keeps : {X : Type 0} (make : Bool → X) (fact : Fact) (e s : ℕ) → Keeps (cond (has path fact) (within_of path e s >>= λ b. Some (make b)) None) (cond (has part fact) (within_of part e s >>= λ b. Some (make b)) None) (with_placed path fact e s)
  with-keeps make fact e s =
      rw (tested_first (has path fact) (within path e s true) (within path e s false) make, tested_first (has part fact) (within part e s true) (within part e s false) make)
      (made-keeps make _ _ _ (sign-keeps (both-bears fact (facts.Member e s true)) (both-bears fact (facts.Member e s false))))

  sides-keeps : {X : Type 0} (x : X) (e s f t : ℕ) → Keeps (cond ((within path e s true && within path f t false) || (within path e s false && within path f t true)) (Some x) None) (cond ((within part e s true && within part f t false) || (within part e s false && within part f t true)) (Some x) None) (on_both_sides path e s f t)
  sides-keeps x e s f t =
      cond-keeps x (otherwise-bears (both-bears (facts.Member e s true) (facts.Member f t false)) (both-bears (facts.Member e s false) (facts.Member f t true)))

  chain-keeps : (first second : Bool → Fact) → Keeps (first_sign (has path (first true) && has path (second true)) ((has path (first true) && has path (second false)) || (has path (first false) && has path (second true)))) (first_sign (has part (first true) && has part (second true)) ((has part (first true) && has part (second false)) || (has part (first false) && has part (second true)))) (chain_premises path first second)
  chain-keeps first second =
      sign-keeps (both-bears (first true) (second true)) (otherwise-bears (both-bears (first true) (second false)) (both-bears (first false) (second true)))

  -- the places of a term and its arguments
  place-keeps : (e n a b p : ℕ) (x y z x' y' z' : Option Bool) (u v w : Option (List Fact)) → Keeps x x' u → Keeps y y' v → Keeps z z' w → Keeps (slice_get (n ∷ a ∷ b ∷ []) p >>= λ s. cond (nat_eq p 0) x (cond (nat_eq p 1) y (cond (nat_eq p 2) z None)) >>= λ c. Some (facts.Member e s c)) (slice_get (n ∷ a ∷ b ∷ []) p >>= λ s. cond (nat_eq p 0) x' (cond (nat_eq p 1) y' (cond (nat_eq p 2) z' None)) >>= λ c. Some (facts.Member e s c)) (cond (nat_eq p 0) u (cond (nat_eq p 1) v (cond (nat_eq p 2) w None)))
  place-keeps e n a b zero x y z x' y' z' u v w i j k = made-keeps (λ c. facts.Member e n c) x x' u i
  place-keeps e n a b (suc zero) x y z x' y' z' u v w i j k = made-keeps (λ c. facts.Member e a c) y y' v j
  place-keeps e n a b (suc (suc zero)) x y z x' y' z' u v w i j k = made-keeps (λ c. facts.Member e b c) z z' w k
  place-keeps e n a b (suc (suc (suc p))) x y z x' y' z' u v w i j k =
      rw (other_than (suc (suc (suc p))) 0 (λ e. absurd cc), other_than (suc (suc (suc p))) 1 (λ e. absurd cc), other_than (suc (suc (suc p))) 2 (λ e. absurd cc)) never

  within-bears : (e s : ℕ) (c : Bool) → Bears (within path e s c) (within part e s c) (given path (facts.Member e s c))
  within-bears e s c = given-bears (facts.Member e s c)

  two-bears : (e s t : ℕ) (c d : Bool) → Bears (within path e s c && within path e t d) (within part e s c && within part e t d) (both path (facts.Member e s c) (facts.Member e t d))
  two-bears e s t c d = both-bears (facts.Member e s c) (facts.Member e t d)

  one-bears : (e s t : ℕ) (c d : Bool) → Bears (within path e s c || within path e t d) (within part e s c || within part e t d) (either path (facts.Member e s c) (facts.Member e t d))
  one-bears e s t c d = either-bears (facts.Member e s c) (facts.Member e t d)

  module _ (problem : Parts) where
    empty-keeps : (e n p : ℕ) (k : Bool) → Keeps (slice_get (n ∷ []) p >>= λ s. cond (nat_eq p 0 && k) (Some false) None >>= λ c. Some (facts.Member e s c)) (slice_get (n ∷ []) p >>= λ s. cond (nat_eq p 0 && k) (Some false) None >>= λ c. Some (facts.Member e s c)) (no_premises (nat_eq p 0 && k))
    empty-keeps e n zero true = always (facts.Member e n false)
    empty-keeps e n zero false = never
    empty-keeps e n (suc p) k = rw (other_than (suc p) 0 (λ e. absurd cc)) never

    term-keeps : (e n : ℕ) (node : SetTerm) (p : ℕ) → Keeps (argument n node p >>= λ s. op_sign problem path e n node p >>= λ c. Some (facts.Member e s c)) (argument n node p >>= λ s. op_sign problem part e n node p >>= λ c. Some (facts.Member e s c)) (term_premises problem path e n node p)
    term-keeps e n (sets.Empty sort) p = empty-keeps e n p (may_hold problem n e)
    term-keeps e n (sets.Union a b) p =
        place-keeps e n a b p _ _ _ _ _ _ _ _ _
        (sign-keeps (one-bears e a b true true) (two-bears e a b false false))
        (sign-keeps (two-bears e n b true false) (within-bears e n false))
        (sign-keeps (two-bears e n a true false) (within-bears e n false))
    term-keeps e n (sets.Inter a b) p =
        place-keeps e n a b p _ _ _ _ _ _ _ _ _
        (sign-keeps (two-bears e a b true true) (one-bears e a b false false))
        (sign-keeps (within-bears e n true) (two-bears e n b false true))
        (sign-keeps (within-bears e n true) (two-bears e n a false true))
    term-keeps e n (sets.Minus a b) p =
        place-keeps e n a b p _ _ _ _ _ _ _ _ _
        (sign-keeps (two-bears e a b true false) (one-bears e a b false true))
        (sign-keeps (within-bears e n true) (two-bears e n b false false))
        (sign-keeps (two-bears e n a false true) (within-bears e n true))
    term-keeps e n node p = nothing-keeps (argument n node p) (argument n node p)

    differ-keeps : {Y : Type 0} (make : ℕ → Y) (o : Option ℕ) (fact : Fact) → Keeps (cond (has path fact) o None >>= λ d. Some (make d)) (cond (has part fact) o None >>= λ d. Some (make d)) (o >>= λ d. given path fact)
    differ-keeps make (Some d) fact = made-keeps make _ _ _ (cond-keeps d (given-bears fact))
    differ-keeps make None fact = rw (no_choice (has path fact), no_choice (has part fact)) never
      where
        no_choice : (k : Bool) → ◌≡◌ {A = Option ℕ} (cond k None None) None
        no_choice true = refl
        no_choice false = refl

    there-keeps : {X Y : Type 0} (o : Option X) (y : Y) → Keeps (o >>= λ x. Some y) (o >>= λ x. Some y) (no_premises (is_some o))
    there-keeps None y = never
    there-keeps (Some x) y = always y

    unit-keeps : (n p : ℕ) → Keeps (unit_of problem path n p) (unit_of problem part n p) (premises problem path (steps.Unit n p))
    unit-keeps n p =
        looked-keeps (formula_at problem n) _ _ _
        (λ node. choice-keeps (nat_eq p 0) _ _ _ _ _ _ (made-keeps (facts.Sign n) _ _ _ (own-keeps node)) (looked-keeps (part_at node p) _ _ _ (λ f. made-keeps (facts.Sign f) _ _ _ (part-keeps n node p))))

    keeps : (step : PlainStep) → Keeps (branches problem path step) (branches problem part step) (premises problem path step)
    keeps (steps.Atom n) = one-keeps _ _ _ (looked-keeps (formula_at problem n) _ _ _ (atom-keeps n))
    keeps (steps.All n p) =
        one-keeps _ _ _ (looked-keeps (formula_at problem n) _ _ _ (λ node. swapped-keeps (λ s f. facts.Sign f s) _ _ (part_at node p) _ (parts-keeps n node)))
    keeps (steps.Unit n p) = one-keeps _ _ _ (unit-keeps n p)
    keeps (steps.Cut name) = if-keeps (names_fact problem name) _
    keeps (steps.Op e n p) = one-keeps _ _ _ (looked-keeps (set_at problem n) _ _ _ (λ node. term-keeps e n node p))
    keeps (steps.Single e s) =
        one-keeps _ _ _ (looked-keeps (single_of (set_at problem s)) _ _ _ (λ f. made-keeps (facts.Member e s) _ _ _ (sign-keeps (given-bears (equal_fact e f true)) (given-bears (equal_fact e f false)))))
    keeps (steps.Unsingle e s) =
        one-keeps _ _ _ (looked-keeps (single_of (set_at problem s)) _ _ _ (λ f. made-keeps (equal_fact e f) _ _ _ (placed-keeps e s)))
    keeps (steps.Carry e f s) = one-keeps _ _ _ (with-keeps (facts.Member f s) (equal_fact e f true) e s)
    keeps (steps.Apart e f s) = one-keeps _ _ _ (sides-keeps (equal_fact e f false) e s f s)
    keeps (steps.Move e s t) = one-keeps _ _ _ (with-keeps (facts.Member e t) (same_set_fact s t true) e s)
    keeps (steps.SetApart e s t) = one-keeps _ _ _ (sides-keeps (same_set_fact s t false) e s e t)
    keeps (steps.EqRefl e) = one-keeps _ _ _ (there-keeps (element_at problem e) (facts.Eq e e true))
    keeps (steps.EqStep e f g) = one-keeps _ _ _ (made-keeps (equal_fact e g) _ _ _ (chain-keeps (equal_fact e f) (equal_fact f g)))
    keeps (steps.SeqRefl s) = one-keeps _ _ _ (there-keeps (set_at problem s) (facts.EqSet s s true))
    keeps (steps.SeqStep s t u) = one-keeps _ _ _ (made-keeps (same_set_fact s u) _ _ _ (chain-keeps (same_set_fact s t) (same_set_fact t u)))
    keeps (steps.Differ s t) = differ-keeps _ (diff_of problem s t) (same_set_fact s t false)

pub premises_keep_steps : PremisesKeepSteps
premises_keep_steps problem path part inside step needed e h = (keeps path part inside problem step).stays needed e h

pub premises_stand : PremisesStand
premises_stand problem path step needed e = (keeps path path (λ f i. i) problem step).stood needed e

pub premises_where_steps_apply : PremisesWhereStepsApply
premises_where_steps_apply problem path step = (keeps path path (λ f i. i) problem step).appears

-- facts that stand on a path have places there
places-found : (path fs : List Fact) (before : List ℕ) → AllStand path fs → (places : List ℕ) × (places_from path before fs ≡ Some (before ++ places)) × (map (first_place path) fs ≡ map Some places)
places-found path [] before h = ([], ap Some (sym (append-nil before)), refl)
places-found path (f ∷ fs) before h = by (first_place path f) refl (λ place. places-found path fs (before ++ place ∷ []) h.1)
  where
    by : (o : Option ℕ) → first_place path f ≡ o → ((place : ℕ) → (places : List ℕ) × (places_from path (before ++ place ∷ []) fs ≡ Some ((before ++ place ∷ []) ++ places)) × (map (first_place path) fs ≡ map Some places)) → (places : List ℕ) × (places_from path before (f ∷ fs) ≡ Some (before ++ places)) × (map (first_place path) (f ∷ fs) ≡ map Some places)
    by None i rest = absurd (false≢true (sym (ap is_some i) ∙ placed-has path f ∙ h.0))
    by (Some place) i rest =
        let others = rest place in
        (place ∷ others.0, ap (λ (o : Option ℕ). o >>= λ p. places_from path (before ++ p ∷ []) fs) i ∙ others.1 ∙ ap Some (append_assoc before (place ∷ []) others.0), rw (i, others.2) refl)

pub premises_have_places : PremisesHavePlaces
premises_have_places problem path step needed e =
    let found = places-found path needed [] (premises_stand problem path step needed e) in
    (found.0, ap (λ (o : Option (List Fact)). o >>= places_from path []) e ∙ found.1, found.2)
