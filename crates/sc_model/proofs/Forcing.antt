-- What is due where a path does not bear out a sign.
use Rattle.std.proofs.Common.{◌≡◌, ◌≢◌, ℕ, ◌+◌, ◌≤◌, Bool, true, false, not, ◌&&◌, ◌||◌, List, [], ◌∷◌, length, Option, Some, None, ◌⊎◌, inl, inr, refl, sym, ap, subst, ◌∙◌, arith}
use Rattle.std.specs.Prelude.{if◌then◌else◌, is_some, is_none, nat_eq, ◌<◌, MatchOption}
use Rattle.std.specs.List.{list_any, AllByRecursion}
use Rattle.std.specs.Cmp.{unsigned_Decides}
use Rattle.std.proofs.lemmas.Bool.{false≢true}
use Rattle.sc_base.specs.Options.{◌>>=◌}
use Rattle.sc_base.proofs.Bools.{or_true, or_false}
use Rattle.sc_terms.specs.declared.nodes.Formula.{Formula}
use Rattle.sc_terms.specs.declared.nodes.Formula.TheVariants as formulas
use Rattle.sc_terms.specs.declared.problem.Parts.{Parts}
use Rattle.sc_terms.specs.Lookup.{formula_at, is_listed}
use Rattle.sc_terms.specs.Conditions.{IsIn, FormulaIn}
use Rattle.sc_facts.specs.declared.fact.Fact.{Fact}
use Rattle.sc_facts.specs.declared.fact.Fact.TheVariants as facts
use Rattle.sc_facts.specs.declared.name.FactName.TheVariants as names
use Rattle.sc_facts.specs.Facts.{has}
use Rattle.sc_rules.specs.declared.step.PlainStep.TheVariants.{Atom, Unit, Cut}
use Rattle.sc_rules.specs.Pairs.{first_sign, equal_fact, same_set_fact}
use Rattle.sc_rules.specs.Boolean.{sign, sign_of, all_have, some_has, agree, differ, own_sign, atom_with}
use Rattle.sc_rules.specs.Steps.{one}
use Rattle.sc_tree.specs.Events.{HasNoClash}
use Rattle.sc_sorts.specs.Posed.{IsIntlessFormula}
use Rattle.sc_model.specs.Settled.{BearsOut, IsBorneOut}
use Rattle.sc_model.specs.declared.steps.Due.{Due}
use Rattle.sc_model.specs.declared.steps.Due.TheVariants.{Take, Split}
use Rattle.sc_model.specs.Deciding.{sole, Concludes, Divides, parts_of, is_unsigned, IsUnsignedOf, IsDue, HasSign}
use Rattle.sc_model.proofs.Paths.{item_there, and_false}

-- ---- signs on a path without clashes
-- a formula that has one sign doesn't have the other
one_sign : (path : List Fact) (n : ℕ) (s : Bool) → HasNoClash path → sign path n s ≡ true → sign path n (not s) ≡ false
one_sign path n false none e = and_false (sign path n true) (sign path n false) (none (names.Sign n)) e
one_sign path n true none e = other (sign path n true) (sign path n false) (none (names.Sign n)) e
  where
    other : (a b : Bool) → (a && b) ≡ false → a ≡ true → b ≡ false
    other true b h g = h
    other false b h g = absurd (false≢true g)

pub sign_is : (path : List Fact) (n : ℕ) (s : Bool) → HasNoClash path → sign path n s ≡ true → sign_of path n ≡ Some s
sign_is path n true none e = rw e refl
sign_is path n false none e = rw (one_sign path n false none e, e) refl

pub sign_of-signed : (path : List Fact) (n : ℕ) (s : Bool) → sign_of path n ≡ Some s → sign path n s ≡ true
sign_of-signed path n s e = by (sign path n true) (sign path n false) refl refl e
  where
    by : (a b : Bool) → sign path n true ≡ a → sign path n false ≡ b → first_sign a b ≡ Some s → sign path n s ≡ true
    by true b p q h = let same : true ≡ s = cc in subst (λ t. sign path n t ≡ true) same p
    by false true p q h = let same : false ≡ s = cc in subst (λ t. sign path n t ≡ true) same q
    by false false p q h = absurd cc

-- ---- the two steps
-- a fact that an atomic formula states is no row
stated_plain : (node : Formula) (b : Bool) (fact : Fact) → atom_with node b ≡ Some fact → sole (one (Some fact)) ≡ Some fact
stated_plain (formulas.Member e s) b fact is = let same : facts.Member e s b ≡ fact = cc in subst (λ f. sole (one (Some f)) ≡ Some f) same refl
stated_plain (formulas.Eq e f) b fact is = let same : equal_fact e f b ≡ fact = cc in subst (λ f. sole (one (Some f)) ≡ Some f) same refl
stated_plain (formulas.EqSet s t) b fact is = let same : same_set_fact s t b ≡ fact = cc in subst (λ f. sole (one (Some f)) ≡ Some f) same refl
stated_plain _ b fact is = absurd cc

pub due_atom : (problem : Parts) (path : List Fact) (n : ℕ) (node : Formula) (s : Bool) (fact : Fact) → HasSign problem path n node s → Some fact ≡ atom_with node s → has path fact ≡ false → Concludes problem path (Atom n)
due_atom problem path n node s fact h states fresh =
    (fact, ap (λ o. sole (one (o >>= λ x. sign_of path n >>= λ b. atom_with x b))) h.at ∙ (ap (λ o. sole (one (o >>= λ b. atom_with node b))) (sign_is path n s h.consistent h.signed) ∙ (ap (λ o. sole (one o)) (sym states) ∙ stated_plain node s fact (sym states))), fresh)

pub borne_by_fact : (path : List Fact) (node : Formula) (s : Bool) (fact : Fact) → Some fact ≡ atom_with node s → has path fact ≡ true → BearsOut path node s
borne_by_fact path (formulas.Member e t) s fact is h = let same : fact ≡ facts.Member e t s = cc in subst (λ f. has path f ≡ true) same h
borne_by_fact path (formulas.Eq e f) s fact is h = let same : fact ≡ equal_fact e f s = cc in subst (λ f. has path f ≡ true) same h
borne_by_fact path (formulas.EqSet t u) s fact is h = let same : fact ≡ same_set_fact t u s = cc in subst (λ f. has path f ≡ true) same h
borne_by_fact path _ s fact is h = absurd cc

other_sign : (s t : Bool) → t ≢ s → t ≡ not s
other_sign true true h = absurd (h refl)
other_sign true false h = refl
other_sign false true h = refl
other_sign false false h = absurd (h refl)

pub due_unit : (problem : Parts) (path : List Fact) (n : ℕ) (node : Formula) (s : Bool) → HasSign problem path n node s → own_sign path node ≢ Some s → is_some (own_sign path node) ≡ true → Concludes problem path (Unit n 0)
due_unit problem path n node s h unforced forced = by (own_sign path node) refl forced
  where
    by : (o : Option Bool) → own_sign path node ≡ o → is_some o ≡ true → Concludes problem path (Unit n 0)
    by None e g = absurd (false≢true g)
    by (Some t) e g =
        let is : t ≡ not s = other_sign s t (λ same. unforced (e ∙ ap Some same)) in
        (facts.Sign n t, ap (λ o. sole (one (o >>= λ x. own_sign path x >>= λ b. Some (facts.Sign n b)))) h.at ∙ ap (λ o. sole (one (o >>= λ b. Some (facts.Sign n b)))) e, ap (sign path n) is ∙ one_sign path n s h.consistent h.signed)

-- ---- a cut
none_there : {X : Type 0} (o : Option X) → is_none o ≡ true → o ≡ None
none_there None e = refl
none_there (Some x) e = absurd (false≢true e)

in_list : (P : ℕ → Type 0) (fs : List ℕ) → AllByRecursion P fs → (f : ℕ) → is_listed f fs ≡ true → P f
in_list P [] h f e = absurd (false≢true e)
in_list P (g ∷ fs) h f e =
    elim (or_true (nat_eq f g) (is_listed f fs) e) [
      | inl a ↦ subst P (sym ((unsigned_Decides f g).0 a)) h.0
      | inr b ↦ in_list P fs h.1 f b
    ]

pub parts_inside : (problem : Parts) (node : Formula) → FormulaIn problem node → AllByRecursion (IsIn (length problem.formulas)) (parts_of node)
parts_inside problem formulas.True h = tt
parts_inside problem formulas.False h = tt
parts_inside problem (formulas.Flag c) h = tt
parts_inside problem (formulas.Not f) h = (h, tt)
parts_inside problem (formulas.And fs) h = h
parts_inside problem (formulas.Or fs) h = h
parts_inside problem (formulas.Iff f g) h = (h.0, (h.1, tt))
parts_inside problem (formulas.Eq e f) h = tt
parts_inside problem (formulas.EqSet s t) h = tt
parts_inside problem (formulas.Member e s) h = tt
parts_inside problem (formulas.Le row) h = tt

no_plus : (p m : Bool) → first_sign p m ≡ None → (p ≡ false) × (m ≡ false)
no_plus true m e = absurd cc
no_plus false true e = absurd cc
no_plus false false e = (refl, refl)

pub due_cut : (problem : Parts) (path : List Fact) (n : ℕ) (node : Formula) (s : Bool) (f : ℕ) → HasSign problem path n node s → IsUnsignedOf path (parts_of node) (Some f) → Divides problem path (Cut (names.Sign f))
due_cut problem path n node s f h un =
    let there = item_there problem.formulas f (in_list (IsIn (length problem.formulas)) (parts_of node) (parts_inside problem node h.inside) f un.1) in
    let absent = no_plus (sign path f true) (sign path f false) (none_there (sign_of path f) un.0) in
    ((facts.Sign f true ∷ [], facts.Sign f false ∷ []), ap (λ o. if is_some o then Some ((facts.Sign f true ∷ []) ∷ (facts.Sign f false ∷ []) ∷ []) else None) there.1, rw (absent.0) refl, rw (absent.1) refl)

-- ---- where all parts have signs
-- the path gives f one of the signs
abbrev IsSigned : List Fact → ℕ → Type 0
IsSigned path f = (sign path f true ≡ true) ⊎ (sign path f false ≡ true)

signed_by : (path : List Fact) (f : ℕ) → is_unsigned path f ≡ false → IsSigned path f
signed_by path f e = by (sign path f true) (sign path f false) refl refl e
  where
    by : (a b : Bool) → sign path f true ≡ a → sign path f false ≡ b → is_none (first_sign a b) ≡ false → IsSigned path f
    by true b p q h = inl p
    by false true p q h = inr q
    by false false p q h = absurd (false≢true (sym h))

is_some-first : (a b : Bool) → (a ≡ true) ⊎ (b ≡ true) → is_some (first_sign a b) ≡ true
is_some-first true b h = refl
is_some-first false true h = refl
is_some-first false false (inl e) = absurd (false≢true e)
is_some-first false false (inr e) = absurd (false≢true e)

-- each has the sign, or one has the other
all_or_one : (path : List Fact) (s : Bool) (fs : List ℕ) → list_any (is_unsigned path) fs ≡ false → (all_have path fs s ≡ true) ⊎ (some_has path fs (not s) ≡ true)
all_or_one path s [] e = inl refl
all_or_one path s (f ∷ fs) e =
    let parts = or_false (is_unsigned path f) (list_any (is_unsigned path) fs) e in
    by (sign path f s) (sign path f (not s)) (has_one s (signed_by path f parts.0)) (all_or_one path s fs parts.1) refl refl
  where
    has_one : (t : Bool) → IsSigned path f → (sign path f t ≡ true) ⊎ (sign path f (not t) ≡ true)
    has_one true h = h
    has_one false (inl a) = inr a
    has_one false (inr b) = inl b

    by : (a b : Bool) → (a ≡ true) ⊎ (b ≡ true) → (all_have path fs s ≡ true) ⊎ (some_has path fs (not s) ≡ true) → sign path f s ≡ a → sign path f (not s) ≡ b → ((sign path f s && all_have path fs s) ≡ true) ⊎ ((sign path f (not s) || some_has path fs (not s)) ≡ true)
    by a true h g p q = inr (rw q refl)
    by true false h (inl all) p q = inl (rw (p, all) refl)
    by true false h (inr some) p q = inr (rw (q, some) refl)
    by false false (inl e') g p q = absurd (false≢true e')
    by false false (inr e') g p q = absurd (false≢true e')

swap : {A B : Type 0} → A ⊎ B → B ⊎ A
swap (inl a) = inr a
swap (inr b) = inl b

same_or_not : (path : List Fact) (f g : ℕ) → IsSigned path f → IsSigned path g → (agree path f g ≡ true) ⊎ (differ path f g ≡ true)
same_or_not path f g (inl a) (inl b) = inl (rw (a, b) refl)
same_or_not path f g (inr a) (inr b) = inl (second (sign path f true && sign path g true) (sign path f false) (sign path g false) a b)
  where
    second : (x y z : Bool) → y ≡ true → z ≡ true → (x || (y && z)) ≡ true
    second true y z p q = refl
    second false true z p q = q
    second false false z p q = absurd (false≢true p)
same_or_not path f g (inl a) (inr b) = inr (rw (a, b) refl)
same_or_not path f g (inr a) (inl b) = inr (second (sign path f true && sign path g false) (sign path f false) (sign path g true) a b)
  where
    second : (x y z : Bool) → y ≡ true → z ≡ true → (x || (y && z)) ≡ true
    second true y z p q = refl
    second false true z p q = q
    second false false z p q = absurd (false≢true p)

-- a formula whose parts all have signs is a constant or a membership, or its own sign is forced
pub forced_by : (path : List Fact) (node : Formula) (s : Bool) → IsIntlessFormula node → atom_with node s ≡ None → list_any (is_unsigned path) (parts_of node) ≡ false → ((c : ℕ) × (node ≡ formulas.Flag c)) ⊎ (is_some (own_sign path node) ≡ true)
forced_by path formulas.True s b m e = inr refl
forced_by path formulas.False s b m e = inr refl
forced_by path (formulas.Flag c) s b m e = inl (c, refl)
forced_by path (formulas.Not f) s b m e = inr (is_some-first _ _ (swap (signed_by path f ((or_false (is_unsigned path f) false e).0))))
forced_by path (formulas.And fs) s b m e = inr (is_some-first _ _ (all_or_one path true fs e))
forced_by path (formulas.Or fs) s b m e = inr (is_some-first _ _ (swap (all_or_one path false fs e)))
forced_by path (formulas.Iff f g) s b m e =
    let parts = or_false (is_unsigned path f) (is_unsigned path g || false) e in
    inr (is_some-first _ _ (same_or_not path f g (signed_by path f parts.0) (signed_by path g ((or_false (is_unsigned path g) false parts.1).0))))
forced_by path (formulas.Member x t) s b m e = absurd cc
forced_by path (formulas.Eq x y) s b m e = absurd cc
forced_by path (formulas.EqSet t u) s b m e = absurd cc
forced_by path (formulas.Le row) s b m e = absurd b

pub borne_by_none : (path : List Fact) (node : Formula) (s : Bool) → IsIntlessFormula node → atom_with node s ≡ None → IsUnsignedOf path (parts_of node) None → is_some (own_sign path node) ≡ false → BearsOut path node s
borne_by_none path node s b m un none =
    elim (forced_by path node s b m un) [
      | inl flag ↦ subst (λ x. BearsOut path x s) (sym flag.1) tt
      | inr some ↦ absurd (false≢true (sym none ∙ some))
    ]

pub borne_by_parts : (path : List Fact) (node : Formula) (s : Bool) → own_sign path node ≡ Some s → BearsOut path node s
borne_by_parts path (formulas.Flag c) s e = tt
borne_by_parts path (formulas.Member x t) s e = absurd cc
borne_by_parts path formulas.True s e = e
borne_by_parts path formulas.False s e = e
borne_by_parts path (formulas.Not f) s e = e
borne_by_parts path (formulas.And fs) s e = e
borne_by_parts path (formulas.Or fs) s e = e
borne_by_parts path (formulas.Iff f g) s e = e
borne_by_parts path (formulas.Eq x y) s e = absurd cc
borne_by_parts path (formulas.EqSet t u) s e = absurd cc
borne_by_parts path (formulas.Le row) s e = e

-- ---- at a number
pub borne_out : (problem : Parts) (path : List Fact) (n : ℕ) (node : Formula) (s : Bool) → HasNoClash path → formula_at problem n ≡ Some node → sign_of path n ≡ Some s → BearsOut path node s → IsBorneOut problem path n
borne_out problem path n node s apart at is bears = λ other t there signed.
    let same : node ≡ other = let e : Some node ≡ Some other = sym at ∙ there in cc in
    let alike : s ≡ t = let e : Some s ≡ Some t = sym is ∙ sign_is path n t apart signed in cc in
    subst (λ x. BearsOut path x t) same (subst (BearsOut path node) alike bears)

pub due_is : {A B : Type 0} (P : Due → Type 0) (o : Option Due) → (A → B) → MatchOption o A P → MatchOption o B P
due_is P None f h = f h
due_is P (Some due) f h = h

pub borne_next : (problem : Parts) (path : List Fact) (p : ℕ) → ((n : ℕ) → 0 < n → n ≤ p → IsBorneOut problem path n) → IsBorneOut problem path (p + 1) → (n : ℕ) → 0 < n → n ≤ p + 1 → IsBorneOut problem path n
borne_next problem path p before next n first low = by (split n p low)
  where
    split : (m q : ℕ) → m ≤ q + 1 → (m ≤ q) ⊎ (m ≡ q + 1)
    split m q h = grind arith

    by : (n ≤ p) ⊎ (n ≡ p + 1) → IsBorneOut problem path n
    by (inl h) = before n first h
    by (inr e) = subst (IsBorneOut problem path) (sym e) next

pub none_due : {A : Type 0} (P : Due → Type 0) (o : Option Due) → MatchOption o A P → is_some o ≡ false → A
none_due P None h e = h
none_due P (Some due) h e = absurd (false≢true (sym e))
