-- Where the steps that all facts and set terms lead to are idle, nothing is forced.
use Rattle.std.proofs.Common.{◌≡◌, ℕ, zero, suc, ◌<◌, ◌≤◌, Bool, true, false, ◌&&◌, ◌||◌, cond, List, [], ◌∷◌, ◌++◌, length, Option, Some, None, ◌⊎◌, inl, inr, refl, sym, ap, subst, ◌∙◌, arith}
use Rattle.std.specs.Prelude.{nat_eq, nat_lt, if◌then◌else◌, slice_get}
use Rattle.std.specs.List.{AllByRecursion, list_any}
use Rattle.std.specs.Cmp.{unsigned_Decides}
use Rattle.std.proofs.lemmas.Bool.{false≢true}
use Rattle.std.proofs.lemmas.List.Folds.{list_any-append}
use Rattle.sc_base.specs.Options.{◌>>=◌}
use Rattle.sc_base.proofs.Bools.{and_true, or_true, or_right, cond_cases}
use Rattle.sc_base.proofs.Options.{bind_some}
use Rattle.sc_terms.specs.declared.nodes.SetTerm.{SetTerm}
use Rattle.sc_terms.specs.declared.nodes.SetTerm.TheVariants as sets
use Rattle.sc_terms.specs.declared.nodes.Sort.{Sort}
use Rattle.sc_terms.specs.declared.problem.Parts.{Parts}
use Rattle.sc_terms.specs.Lookup.{set_at, element_at, is_listed}
use Rattle.sc_terms.specs.Conditions.{IsIn}
use Rattle.sc_terms.specs.Values.{node_count}
use Rattle.sc_terms.proofs.Ranges.{item_in}
use Rattle.sc_sorts.specs.Sorts.{sorts_within, element_sort_of, members_sort, element_sort, are_same, may_hold}
use Rattle.sc_facts.specs.declared.fact.Fact.{Fact}
use Rattle.sc_facts.specs.declared.fact.Fact.TheVariants as facts
use Rattle.sc_facts.specs.Same.{same_fact, same_fact-Decides}
use Rattle.sc_facts.specs.Facts.{has, root_facts}
use Rattle.sc_rules.specs.declared.step.PlainStep.{PlainStep}
use Rattle.sc_rules.specs.declared.step.PlainStep.TheVariants as steps
use Rattle.sc_rules.specs.Pairs.{first_sign, ordered, equal_fact, equal, equal_of, same_set}
use Rattle.sc_rules.specs.Members.{within, within_of, union_sign, inter_sign, minus_sign, op_sign, argument, op_of, single_of, into_single, carry_of, move_of}
use Rattle.sc_rules.specs.Steps.{one}
use Rattle.sc_classes.specs.Classes.{other_of, neighbours_of}
use Rattle.sc_member.specs.Memberships.{equations, IsIdle, NothingForced}
use Rattle.sc_member.specs.Notes.{noted, is_noted, is_either, is_argument, AreNoted, HasPartners}
use Rattle.sc_member.specs.Candidates.{Around, operation_steps, operations_steps, carry_steps, move_steps, single_steps, outside_steps, fact_steps, set_steps, AllIdle, FactsIdle, SetIdle, SetsIdle, NothingAfter}
use Rattle.sc_member.proofs.Lists.{all_left, all_right, mapped_at, flat_at, fact_at}

-- ---- Booleans and options
itself : (n : ℕ) → nat_eq n n ≡ true
itself n = (unsigned_Decides n n).1 refl

or_left : (a b : Bool) → a ≡ true → (a || b) ≡ true
or_left a b e = rw e refl

either_sign : (p m : Bool) (b : Bool) → first_sign p m ≡ Some b → (p ≡ true) ⊎ (m ≡ true)
either_sign true m b e = inl refl
either_sign false true b e = inr refl
either_sign false false b e = absurd cc

-- what a step concludes, it concludes from something
one_from : (o : Option Fact) (fact : Fact) → one o ≡ Some ((fact ∷ []) ∷ []) → (f : Fact) × (o ≡ Some f)
one_from None fact e = absurd cc
one_from (Some f) fact e = (f, refl)

-- ---- pairs
-- a pair in order is the pair, or the pair turned
ordered_either : (m n : ℕ) → (ordered m n ≡ (m, n)) ⊎ (ordered m n ≡ (n, m))
ordered_either m n = by (nat_lt n m) refl
  where
    by : (b : Bool) → nat_lt n m ≡ b → (ordered m n ≡ (m, n)) ⊎ (ordered m n ≡ (n, m))
    by true e = inr (ap (λ b. cond {A = ℕ × ℕ} b (n, m) (m, n)) e)
    by false e = inl (ap (λ b. cond {A = ℕ × ℕ} b (n, m) (m, n)) e)

-- ---- neighbours
more_listed : (v : ℕ) (xs ys : List ℕ) → is_listed v ys ≡ true → is_listed v (xs ++ ys) ≡ true
more_listed v xs ys e = list_any-append (nat_eq v) xs ys ∙ or_right (list_any (nat_eq v) xs) (list_any (nat_eq v) ys) e

first_listed : (v : ℕ) (xs ys : List ℕ) → is_listed v xs ≡ true → is_listed v (xs ++ ys) ≡ true
first_listed v xs ys e = list_any-append (nat_eq v) xs ys ∙ or_left (list_any (nat_eq v) xs) (list_any (nat_eq v) ys) e

other_second : (x y : ℕ) → is_listed y (other_of x (x, y)) ≡ true
other_second x y = first_listed y (cond (nat_eq x x) (y ∷ []) []) (cond (nat_eq y x) (x ∷ []) []) (rw (itself x) (or_left (nat_eq y y) false (itself y)))

other_first : (x y : ℕ) → is_listed x (other_of y (x, y)) ≡ true
other_first x y = more_listed x (cond (nat_eq x y) (y ∷ []) []) (cond (nat_eq y y) (x ∷ []) []) (rw (itself y) (or_left (nat_eq x x) false (itself x)))

-- a pair stands behind more facts too
pair_more : (n v : ℕ) (fact : Fact) (path : List Fact) → is_listed v (neighbours_of (equations path) n) ≡ true → is_listed v (neighbours_of (equations (fact ∷ path)) n) ≡ true
pair_more n v (facts.Eq x y true) path e = more_listed v (other_of n (x, y)) (neighbours_of (equations path) n) e
pair_more n v (facts.Eq x y false) path e = e
pair_more n v (facts.Sign f b) path e = e
pair_more n v (facts.Member x s b) path e = e
pair_more n v (facts.EqSet s t b) path e = e
pair_more n v (facts.Row row) path e = e
pair_more n v (facts.Empty cube b) path e = e

record AreNear (path : List Fact) (x y : ℕ) : Type 0 where
  forth : is_listed y (neighbours_of (equations path) x) ≡ true
  back : is_listed x (neighbours_of (equations path) y) ≡ true

near_at : (path : List Fact) (x y : ℕ) → has path (facts.Eq x y true) ≡ true → AreNear path x y
near_at [] x y e = absurd (false≢true e)
near_at (fact ∷ path) x y e = elim (or_true (same_fact (facts.Eq x y true) fact) (has path (facts.Eq x y true)) e) [
  | inl a ↦ subst (λ f. AreNear (f ∷ path) x y) ((same_fact-Decides (facts.Eq x y true) fact).0 a) (record {
    forth = first_listed y (other_of x (x, y)) (neighbours_of (equations path) x) (other_second x y);
    back = first_listed x (other_of y (x, y)) (neighbours_of (equations path) y) (other_first x y);
  })
  | inr b ↦ let before = near_at path x y b in record { forth = pair_more x y fact path before.forth; back = pair_more y x fact path before.back }
]

neighbour_listed : (path : List Fact) (e f : ℕ) → equal path e f true ≡ true → is_listed f (neighbours_of (equations path) e) ≡ true
neighbour_listed path e f h = elim (ordered_either e f) [
  | inl same ↦ (near_at path e f (subst (λ (p : ℕ × ℕ). has path (facts.Eq p.0 p.1 true) ≡ true) same h)).forth
  | inr turned ↦ (near_at path f e (subst (λ (p : ℕ × ℕ). has path (facts.Eq p.0 p.1 true) ≡ true) turned h)).back
]

-- ---- elements of an empty set
element_there : (problem : Parts) (depth e : ℕ) (sort : Sort) → (sorts_within problem depth).element e ≡ Some sort → IsIn (length problem.elements) e
element_there problem zero e sort h = absurd cc
element_there problem (suc depth) e sort h = let found = bind_some (element_at problem e) (element_sort_of (sorts_within problem depth)) sort h in item_in problem.elements e found.0 found.1

same_second : (a b : Option Sort) → are_same a b ≡ true → (sort : Sort) × (b ≡ Some sort)
same_second None b e = absurd (false≢true e)
same_second (Some a) None e = absurd (false≢true e)
same_second (Some a) (Some b) e = (b, refl)

element_held : (problem : Parts) (n e : ℕ) → may_hold problem n e ≡ true → IsIn (length problem.elements) e
element_held problem n e h = let found = same_second (members_sort problem n) (element_sort problem e) h in element_there problem (node_count problem) e found.0 found.1

outside_at : (P : PlainStep → Type 0) (n k e : ℕ) → 0 < e → e ≤ k → AllByRecursion P (outside_steps n k) → P (steps.Op e n 0)
unfolding outside_steps
outside_at P n zero e first le h = absurd (omega (arith, first, le))
outside_at P n (suc k) e first le h = elim (split e k le) [
  | inl before ↦ outside_at P n k e first before (all_left P (outside_steps n k) (steps.Op (suc k) n 0 ∷ []) h)
  | inr last ↦ subst (λ m. P (steps.Op m n 0)) (sym last) (all_right P (outside_steps n k) (steps.Op (suc k) n 0 ∷ []) h).0
]
  where
    split : (m j : ℕ) → m ≤ suc j → (m ≤ j) ⊎ (m ≡ suc j)
    split m j le = grind arith

-- ---- signs
-- the path has a sign of e in s
abbrev Signed : List Fact → ℕ → ℕ → Type 0
Signed path e s = (within path e s true ≡ true) ⊎ (within path e s false ≡ true)

-- or in none of three
record Unsigned (path : List Fact) (e s : ℕ) : Type 0 where
  plus : within path e s true ≡ false
  minus : within path e s false ≡ false

signed_or : (path : List Fact) (e s : ℕ) → Signed path e s ⊎ Unsigned path e s
signed_or path e s = by (within path e s true) (within path e s false) refl refl
  where
    by : (p m : Bool) → within path e s true ≡ p → within path e s false ≡ m → Signed path e s ⊎ Unsigned path e s
    by true m p q = inl (inl p)
    by false true p q = inl (inr q)
    by false false p q = inr (record { plus = p; minus = q })

data Touched (path : List Fact) (e n a b : ℕ) : Type 0 where
  own : Signed path e n → Touched path e n a b
  first : Signed path e a → Touched path e n a b
  second : Signed path e b → Touched path e n a b

touched_or : (path : List Fact) (e n a b : ℕ) → Touched path e n a b ⊎ (Unsigned path e n × Unsigned path e a × Unsigned path e b)
touched_or path e n a b = by (signed_or path e n) (signed_or path e a) (signed_or path e b)
  where
    by : Signed path e n ⊎ Unsigned path e n → Signed path e a ⊎ Unsigned path e a → Signed path e b ⊎ Unsigned path e b → Touched path e n a b ⊎ (Unsigned path e n × Unsigned path e a × Unsigned path e b)
    by (inl h) q r = inl (own h)
    by (inr g) (inl h) r = inl (first h)
    by (inr g) (inr k) (inl h) = inl (second h)
    by (inr g) (inr k) (inr l) = inr (g, k, l)

-- the signs by what the path says of n, a and b
abbrev nothing : Option Bool
nothing = None

no_place : (p : ℕ) → (if nat_eq p 0 then nothing else if nat_eq p 1 then nothing else if nat_eq p 2 then nothing else nothing) ≡ None
no_place p = by (nat_eq p 0) (nat_eq p 1) (nat_eq p 2)
  where
    by : (x y z : Bool) → (if x then nothing else if y then nothing else if z then nothing else nothing) ≡ None
    by true y z = refl
    by false true z = refl
    by false false true = refl
    by false false false = refl

abbrev union_by : Bool → Bool → Bool → Bool → Bool → Bool → ℕ → Option Bool
union_by np nm xp xm yp ym p =
    if nat_eq p 0 then first_sign (xp || yp) (xm && ym)
    else if nat_eq p 1 then first_sign (np && ym) nm
    else if nat_eq p 2 then first_sign (np && xm) nm
    else None

abbrev inter_by : Bool → Bool → Bool → Bool → Bool → Bool → ℕ → Option Bool
inter_by np nm xp xm yp ym p =
    if nat_eq p 0 then first_sign (xp && yp) (xm || ym)
    else if nat_eq p 1 then first_sign np (nm && yp)
    else if nat_eq p 2 then first_sign np (nm && xp)
    else None

abbrev minus_by : Bool → Bool → Bool → Bool → Bool → Bool → ℕ → Option Bool
minus_by np nm xp xm yp ym p =
    if nat_eq p 0 then first_sign (xp && ym) (xm || yp)
    else if nat_eq p 1 then first_sign np (nm && ym)
    else if nat_eq p 2 then first_sign (nm && xp) np
    else None

module _ (path : List Fact) (e n a b p : ℕ) (un : Unsigned path e n × Unsigned path e a × Unsigned path e b) where
  union_none : union_sign path e n a b p ≡ None
  union_none = (λ i. union_by (un.0.plus i) (un.0.minus i) (un.1.plus i) (un.1.minus i) (un.2.plus i) (un.2.minus i) p) ∙ no_place p

  inter_none : inter_sign path e n a b p ≡ None
  inter_none = (λ i. inter_by (un.0.plus i) (un.0.minus i) (un.1.plus i) (un.1.minus i) (un.2.plus i) (un.2.minus i) p) ∙ no_place p

  minus_none : minus_sign path e n a b p ≡ None
  minus_none = (λ i. minus_by (un.0.plus i) (un.0.minus i) (un.1.plus i) (un.1.minus i) (un.2.plus i) (un.2.minus i) p) ∙ no_place p

none_some : {X : Type 0} (x : X) → None ≡ Some x → ⊥
none_some x e = cc

-- one of three places
three : (P : ℕ → Type 0) (x y z : ℕ) (p s : ℕ) → slice_get (x ∷ y ∷ z ∷ []) p ≡ Some s → P 0 → P 1 → P 2 → P p
three P x y z zero s e q0 q1 q2 = q0
three P x y z (suc zero) s e q0 q1 q2 = q1
three P x y z (suc (suc zero)) s e q0 q1 q2 = q2
three P x y z (suc (suc (suc p))) s e q0 q1 q2 = absurd cc

first_of : (a b : ℕ) → is_either a a b ≡ true
first_of a b = or_left (nat_eq a a) (nat_eq a b) (itself a)

second_of : (a b : ℕ) → is_either b a b ≡ true
second_of a b = or_right (nat_eq b a) (nat_eq b b) (itself b)

module _ (problem : Parts) (path : List Fact) (around : Around) (indexed : AreNoted problem around.parents around.singles) (partnered : HasPartners path around.partners) (paired : around.pairs ≡ equations path) (idle : NothingAfter problem path around 0 0) where
  at_fact : (fact : Fact) → has path fact ≡ true → AllIdle problem path (fact_steps around fact)
  unfolding FactsIdle
  at_fact fact h = fact_at (λ f. AllIdle problem path (fact_steps around f)) path fact h idle.facts_idle

  at_set : (n : ℕ) → 0 < n → SetIdle problem path n
  unfolding SetsIdle
  at_set n h = idle.sets_idle n h

  -- ---- a membership
  record MemberIdle (e s : ℕ) : Type 0 where
    here : AllIdle problem path (operation_steps e s)
    above : AllIdle problem path (operations_steps e (noted around.parents s))
    across : AllIdle problem path (carry_steps e s (neighbours_of around.pairs e))
    beside : AllIdle problem path (move_steps e s (noted around.partners s))

  parts_idle : (e s : ℕ) → AllIdle problem path (operation_steps e s ++ operations_steps e (noted around.parents s) ++ carry_steps e s (neighbours_of around.pairs e) ++ move_steps e s (noted around.partners s)) → MemberIdle e s
  parts_idle e s h =
      let three_left = all_left (IsIdle problem path) (operation_steps e s ++ operations_steps e (noted around.parents s) ++ carry_steps e s (neighbours_of around.pairs e)) (move_steps e s (noted around.partners s)) h in
      let two_left = all_left (IsIdle problem path) (operation_steps e s ++ operations_steps e (noted around.parents s)) (carry_steps e s (neighbours_of around.pairs e)) three_left in
      record {
        here = all_left (IsIdle problem path) (operation_steps e s) (operations_steps e (noted around.parents s)) two_left;
        above = all_right (IsIdle problem path) (operation_steps e s) (operations_steps e (noted around.parents s)) two_left;
        across = all_right (IsIdle problem path) (operation_steps e s ++ operations_steps e (noted around.parents s)) (carry_steps e s (neighbours_of around.pairs e)) three_left;
        beside = all_right (IsIdle problem path) (operation_steps e s ++ operations_steps e (noted around.parents s) ++ carry_steps e s (neighbours_of around.pairs e)) (move_steps e s (noted around.partners s)) h;
      }

  member_at : (e s : ℕ) → Signed path e s → MemberIdle e s
  member_at e s (inl h) = parts_idle e s (at_fact (facts.Member e s true) h)
  member_at e s (inr h) = parts_idle e s (at_fact (facts.Member e s false) h)

  -- ---- operations
  module _ (e n a b : ℕ) (arguments : (s : ℕ) → is_either s a b ≡ true → is_noted around.parents s n ≡ true) where
    touched_idle : Touched path e n a b → AllIdle problem path (operation_steps e n)
    unfolding operations_steps
    touched_idle (own h) = (member_at e n h).here
    touched_idle (first h) = flat_at (IsIdle problem path) (operation_steps e) n (noted around.parents a) (arguments a (first_of a b)) (member_at e a h).above
    touched_idle (second h) = flat_at (IsIdle problem path) (operation_steps e) n (noted around.parents b) (arguments b (second_of a b)) (member_at e b h).above

    placed_idle : (p s : ℕ) → slice_get (n ∷ a ∷ b ∷ []) p ≡ Some s → Touched path e n a b → IsIdle problem path (steps.Op e n p)
    placed_idle p s is h = let all = touched_idle h in three (λ q. IsIdle problem path (steps.Op e n q)) n a b p s is all.0 all.1.0 all.1.1.0

  arguments_at : (n : ℕ) (node : SetTerm) → set_at problem n ≡ Some node → (s : ℕ) → is_argument s (Some node) ≡ true → is_noted around.parents s n ≡ true
  arguments_at n node at s h = (indexed n).by_argument s (subst (λ o. is_argument s o ≡ true) (sym at) h)

  op_at : (e n p : ℕ) (node : SetTerm) → set_at problem n ≡ Some node → (s : ℕ) → argument n node p ≡ Some s → (b : Bool) → op_sign problem path e n node p ≡ Some b → IsIdle problem path (steps.Op e n p)
  op_at e n p (sets.Const c sort) at s is b forced = absurd cc
  op_at e n p (sets.Single f) at s is b forced = absurd cc
  op_at e n p (sets.Empty sort) at s is b forced = elim (cond_cases (nat_eq p 0 && may_hold problem n e) (Some false) None (Some b) forced) [
    | inl h ↦
        let both = and_true (nat_eq p 0) (may_hold problem n e) h.0 in
        let inside = element_held problem n e both.1 in
        subst (λ q. IsIdle problem path (steps.Op e n q)) (sym ((unsigned_Decides p 0).0 both.0))
        (outside_at (IsIdle problem path) n (length problem.elements) e inside.0 inside.1
        (subst (λ o. AllIdle problem path (set_steps problem n o)) at (at_set n (item_in problem.sets n (sets.Empty sort) at).0)))
    | inr h ↦ absurd (none_some b h.1)
  ]
  op_at e n p (sets.Union x y) at s is b forced = elim (touched_or path e n x y) [
    | inl h ↦ placed_idle e n x y (arguments_at n (sets.Union x y) at) p s is h
    | inr un ↦ absurd (none_some b (sym (union_none path e n x y p un) ∙ forced))
  ]
  op_at e n p (sets.Inter x y) at s is b forced = elim (touched_or path e n x y) [
    | inl h ↦ placed_idle e n x y (arguments_at n (sets.Inter x y) at) p s is h
    | inr un ↦ absurd (none_some b (sym (inter_none path e n x y p un) ∙ forced))
  ]
  op_at e n p (sets.Minus x y) at s is b forced = elim (touched_or path e n x y) [
    | inl h ↦ placed_idle e n x y (arguments_at n (sets.Minus x y) at) p s is h
    | inr un ↦ absurd (none_some b (sym (minus_none path e n x y p un) ∙ forced))
  ]

  op_idle : (e n p : ℕ) → IsIdle problem path (steps.Op e n p)
  op_idle e n p fact h =
      let due = one_from (op_of problem path e n p) fact h in
      let node = bind_some (set_at problem n) (λ x. argument n x p >>= λ s. op_sign problem path e n x p >>= λ b. Some (facts.Member e s b)) due.0 due.1 in
      let place = bind_some (argument n node.0 p) (λ s. op_sign problem path e n node.0 p >>= λ b. Some (facts.Member e s b)) due.0 node.2 in
      let forced = bind_some (op_sign problem path e n node.0 p) (λ b. Some (facts.Member e place.0 b)) due.0 place.2 in
      op_at e n p node.0 node.1 place.0 place.1 forced.0 forced.1 fact h

  -- ---- sets of one element
  pair_idle : (e f s : ℕ) (b : Bool) → single_of (set_at problem s) ≡ Some f → equal path e f b ≡ true → IsIdle problem path (steps.Single e s)
  unfolding single_steps
  pair_idle e f s b is h = elim (ordered_either e f) [
    | inl same ↦ mapped_at (IsIdle problem path) (λ t. steps.Single e t) s (noted around.singles f) ((indexed s).by_element f is)
        (all_left (IsIdle problem path) (single_steps e (noted around.singles f)) (single_steps f (noted around.singles e)) (subst (λ (p : ℕ × ℕ). AllIdle problem path (fact_steps around (facts.Eq p.0 p.1 b))) same (at_fact (equal_fact e f b) h)))
    | inr turned ↦ mapped_at (IsIdle problem path) (λ t. steps.Single e t) s (noted around.singles f) ((indexed s).by_element f is)
        (all_right (IsIdle problem path) (single_steps f (noted around.singles e)) (single_steps e (noted around.singles f)) (subst (λ (p : ℕ × ℕ). AllIdle problem path (fact_steps around (facts.Eq p.0 p.1 b))) turned (at_fact (equal_fact e f b) h)))
  ]

  single_idle : (e s : ℕ) → IsIdle problem path (steps.Single e s)
  single_idle e s fact h =
      let due = one_from (into_single problem path e s) fact h in
      let held = bind_some (single_of (set_at problem s)) (λ f. equal_of path e f >>= λ b. Some (facts.Member e s b)) due.0 due.1 in
      let signed = bind_some (equal_of path e held.0) (λ b. Some (facts.Member e s b)) due.0 held.2 in
      elim (either_sign (equal path e held.0 true) (equal path e held.0 false) signed.0 signed.1) [
        | inl p ↦ pair_idle e held.0 s true held.1 p fact h
        | inr m ↦ pair_idle e held.0 s false held.1 m fact h
      ]

  -- ---- equal elements and equal sets
  carry_idle : (e f s : ℕ) → IsIdle problem path (steps.Carry e f s)
  unfolding carry_steps
  carry_idle e f s fact h =
      let due = one_from (carry_of path e f s) fact h in
      elim (cond_cases (equal path e f true) (within_of path e s >>= λ b. Some (facts.Member f s b)) None (Some due.0) due.1) [
        | inl both ↦
            let signed = bind_some (within_of path e s) (λ b. Some (facts.Member f s b)) due.0 both.1 in
            mapped_at (IsIdle problem path) (λ g. steps.Carry e g s) f (neighbours_of around.pairs e)
            (subst (λ ps. is_listed f (neighbours_of ps e) ≡ true) (sym paired) (neighbour_listed path e f both.0))
            (member_at e s (either_sign (within path e s true) (within path e s false) signed.0 signed.1)).across fact h
        | inr neither ↦ absurd (none_some due.0 neither.1)
      ]

  move_idle : (e s t : ℕ) → IsIdle problem path (steps.Move e s t)
  unfolding move_steps
  move_idle e s t fact h =
      let due = one_from (move_of path e s t) fact h in
      elim (cond_cases (same_set path s t true) (within_of path e s >>= λ b. Some (facts.Member e t b)) None (Some due.0) due.1) [
        | inl both ↦
            let signed = bind_some (within_of path e s) (λ b. Some (facts.Member e t b)) due.0 both.1 in
            mapped_at (IsIdle problem path) (λ u. steps.Move e s u) t (noted around.partners s) (partnered s t both.0)
            (member_at e s (either_sign (within path e s true) (within path e s false) signed.0 signed.1)).beside fact h
        | inr neither ↦ absurd (none_some due.0 neither.1)
      ]

  pub nothing_forced : NothingForced problem path
  nothing_forced (steps.Op e n p) kind = op_idle e n p
  nothing_forced (steps.Single e s) kind = single_idle e s
  nothing_forced (steps.Carry e f s) kind = carry_idle e f s
  nothing_forced (steps.Move e s t) kind = move_idle e s t
  nothing_forced _ kind = absurd kind

-- ---- the roots
pub roots_alone : (roots : List ℕ) (partners : List (List ℕ)) → HasPartners (root_facts roots) partners
roots_alone roots partners s t e = absurd (none roots e)
  where
    none : (rs : List ℕ) → same_set (root_facts rs) s t true ≡ true → ⊥
    none [] h = false≢true h
    none (r ∷ rs) h = none rs h
