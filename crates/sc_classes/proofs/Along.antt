-- Steps along a chain of merged pairs.
use Rattle.std.proofs.Common.{◌≡◌, ◌≢◌, ℕ, zero, suc, ◌<◌, ◌≤◌, Bool, true, false, cond, ◌&&◌, ◌||◌, List, [], ◌∷◌, ◌++◌, length, Option, Some, None, inl, inr, refl, sym, ap, subst, ◌∙◌, arith}
use Rattle.std.specs.Prelude.{nat_eq, nat_lt, slice_get, IfOk, Result, Ok, Err}
use Rattle.std.specs.Cmp.{unsigned_Decides}
use Rattle.std.proofs.lemmas.Bool.{false≢true}
use Rattle.std.proofs.lemmas.List.Folds.{list_any-append}
use Rattle.sc_base.specs.Options.{◌>>=◌}
use Rattle.sc_base.specs.Numbered.{item_at}
use Rattle.sc_base.proofs.Integers.{all_weaker}
use Rattle.sc_terms.specs.declared.nodes.Element.{Element}
use Rattle.sc_terms.specs.declared.problem.Parts.{Parts}
use Rattle.sc_terms.specs.Conditions.{IsIn}
use Rattle.sc_terms.specs.Lookup.{is_listed, element_at}
use Rattle.sc_facts.specs.declared.fact.Fact.{Fact}
use Rattle.sc_facts.specs.declared.fact.Fact.TheVariants as facts
use Rattle.sc_facts.specs.Facts.{has}
use Rattle.sc_facts.specs.Same.{same_fact, same_fact-Decides}
use Rattle.sc_rules.specs.declared.step.PlainStep.{PlainStep}
use Rattle.sc_rules.specs.declared.step.PlainStep.TheVariants.{EqRefl, EqStep}
use Rattle.sc_rules.specs.Pairs.{equal, equal_fact, ordered}
use Rattle.sc_rules.specs.Members.{chained}
use Rattle.sc_rules.specs.Steps.{branches, one}
use Rattle.sc_classes.specs.declared.chains.Visit.{Visit}
use Rattle.sc_classes.specs.Classes.{other_of, neighbours_of}
use Rattle.sc_classes.specs.Searches.{visit_at, FallBack, AreLinked, IsChain}
use Rattle.sc_classes.specs.Explanations.{Concludes, HoldsPairs, Explains, Follows, short_steps}
use Rattle.sc_classes.specs.Explanations.Concludes.{last, next}
use Rattle.sc_classes.proofs.Searching.{or_left, or_right, either_true}

-- an element of the list is there
item_there : {X : Type 0} (xs : List X) (n : ℕ) → IsIn (length xs) n → item_at xs n ≡ None → ⊥
item_there xs zero within e = absurd (omega (arith, within.0))
item_there xs (suc n) within e = get_there xs n (omega (arith, within.1)) e
  where
    get_there : {X : Type 0} (xs : List X) (n : ℕ) → n < length xs → slice_get xs n ≡ None → ⊥
    get_there [] n h e = absurd (omega (arith, h))
    get_there (x ∷ xs) zero h e = absurd cc
    get_there (x ∷ xs) (suc n) h e = get_there xs n (omega (arith, h)) e

-- ---- facts of a path that grows
pub has_still : (path more : List Fact) (fact : Fact) → has path fact ≡ true → has (path ++ more) fact ≡ true
has_still path more fact e = list_any-append (same_fact fact) path more ∙ or_left (has path fact) (has more fact) e

pub has_last : (path : List Fact) (fact : Fact) → has (path ++ fact ∷ []) fact ≡ true
has_last path fact = list_any-append (same_fact fact) path (fact ∷ []) ∙ or_right (has path fact) (same_fact fact fact || false) (or_left (same_fact fact fact) false ((same_fact-Decides fact fact).1 refl))

pub holds_still : (pairs : List (ℕ × ℕ)) (path more : List Fact) → HoldsPairs pairs path → HoldsPairs pairs (path ++ more)
holds_still pairs path more h = all_weaker (λ p. equal path p.0 p.1 true ≡ true) (λ p. equal (path ++ more) p.0 p.1 true ≡ true) (λ p e. has_still path more (equal_fact p.0 p.1 true) e) pairs h

-- ---- pairs in either order
ordered_turned : (m n : ℕ) → ordered m n ≡ ordered n m
ordered_turned m n = by (nat_lt n m) (nat_lt m n) refl refl
  where
    by : (b d : Bool) → nat_lt n m ≡ b → nat_lt m n ≡ d → ◌≡◌ {A = ℕ × ℕ} (cond b (n, m) (m, n)) (cond d (m, n) (n, m))
    by true true e g = absurd (grind arith)
    by true false e g = refl
    by false true e g = refl
    by false false e g = let s : m ≡ n = grind arith in λ i. (s i, sym s i)

pub equal_turned : (path : List Fact) (e f : ℕ) → equal path e f true ≡ equal path f e true
equal_turned path e f = ap (λ (p : ℕ × ℕ). has path (facts.Eq p.0 p.1 true)) (ordered_turned e f)

listed_one : (n : ℕ) (b : Bool) (m : ℕ) → is_listed n (cond b (m ∷ []) []) ≡ true → (b ≡ true) × (n ≡ m)
listed_one n true m e = elim (either_true (nat_eq n m) false e) [ inl h ↦ (refl, (unsigned_Decides n m).0 h) | inr h ↦ absurd (false≢true h) ]
listed_one n false m e = absurd (false≢true e)

-- neighbours are said to be equal
pub near_equal : (pairs : List (ℕ × ℕ)) (path : List Fact) → HoldsPairs pairs path → (m n : ℕ) → is_listed n (neighbours_of pairs m) ≡ true → equal path m n true ≡ true
near_equal [] path h m n e = absurd (false≢true e)
near_equal (p ∷ ps) path h m n e =
    elim (either_true (is_listed n (other_of m p)) (is_listed n (neighbours_of ps m)) (sym (list_any-append (nat_eq n) (other_of m p) (neighbours_of ps m)) ∙ e)) [
      | inl g ↦ elim (either_true (is_listed n (cond (nat_eq p.0 m) (p.1 ∷ []) [])) (is_listed n (cond (nat_eq p.1 m) (p.0 ∷ []) [])) (sym (list_any-append (nat_eq n) (cond (nat_eq p.0 m) (p.1 ∷ []) []) (cond (nat_eq p.1 m) (p.0 ∷ []) [])) ∙ g)) [
        | inl k ↦
            let r = listed_one n (nat_eq p.0 m) p.1 k in
            let s : p.0 ≡ m = (unsigned_Decides p.0 m).0 r.0 in
            (λ i. equal path (sym s i) (r.1 i) true) ∙ h.0
        | inr k ↦
            let r = listed_one n (nat_eq p.1 m) p.0 k in
            let s : p.1 ≡ m = (unsigned_Decides p.1 m).0 r.0 in
            (λ i. equal path (sym s i) (r.1 i) true) ∙ (equal_turned path p.1 p.0 ∙ h.0)
      ]
      | inr g ↦ near_equal ps path h.1 m n g
    ]

-- ---- steps
chained_true : (f g : Bool → Bool) → f true ≡ true → g true ≡ true → chained f g ≡ Some true
chained_true f g p q = λ i. cond (p i && q i) (Some true) (cond ((f true && g false) || (f false && g true)) (Some false) None)

pub step_equal : (problem : Parts) (path : List Fact) (e x y : ℕ) → equal path e x true ≡ true → equal path x y true ≡ true → branches problem path (EqStep e x y) ≡ Some ((equal_fact e y true ∷ []) ∷ [])
step_equal problem path e x y p q = ap (λ o. one (o >>= λ b. Some (equal_fact e y b))) (chained_true (equal path e x) (equal path x y) p q)

-- one more step along the chain
pub one_more : (problem : Parts) (pairs : List (ℕ × ℕ)) (path : List Fact) (e x y : ℕ) (steps : List PlainStep) (fact : Fact) → fact ≡ equal_fact e x true → Concludes problem path steps fact → HoldsPairs pairs path → is_listed x (neighbours_of pairs y) ≡ true → Concludes problem path (steps ++ EqStep e x y ∷ []) (equal_fact e y true)
one_more problem pairs _ e x y _ _ is (last path step fact b) h near =
    let here : equal (path ++ fact ∷ []) e x true ≡ true = ap (has (path ++ fact ∷ [])) (sym is) ∙ has_last path fact in
    next path step fact (equal_fact e y true) (EqStep e x y ∷ []) b
    (last (path ++ fact ∷ []) (EqStep e x y) (equal_fact e y true) (step_equal problem (path ++ fact ∷ []) e x y here (equal_turned (path ++ fact ∷ []) x y ∙ near_equal pairs (path ++ fact ∷ []) (holds_still pairs path (fact ∷ []) h) y x near)))
one_more problem pairs _ e x y _ _ is (next path step first fact steps b rest) h near =
    next path step first (equal_fact e y true) (steps ++ EqStep e x y ∷ []) b
    (one_more problem pairs (path ++ first ∷ []) e x y steps fact is rest (holds_still pairs path (first ∷ []) h) near)

-- ---- the whole chain
pub follows_first : (visits : List Visit) (e second : ℕ) → 0 < second → second < length visits → (problem : Parts) (pairs : List (ℕ × ℕ)) (path : List Fact) → AreLinked pairs visits → HoldsPairs pairs path → equal path e (visit_at visits second).number true ≡ true →
    Concludes problem path (EqStep e (visit_at visits second).number (visit_at visits (visit_at visits second).from).number ∷ []) (equal_fact e (visit_at visits (visit_at visits second).from).number true)
follows_first visits e second h within problem pairs path links holds said =
    let x = (visit_at visits second).number in
    let y = (visit_at visits (visit_at visits second).from).number in
    last path (EqStep e x y) (equal_fact e y true) (step_equal problem path e x y said (equal_turned path x y ∙ near_equal pairs path holds y x (links.near second h within)))

-- what the steps so far conclude
abbrev pub FollowsTo : List Visit → ℕ → ℕ → ℕ → List PlainStep → Type 0
FollowsTo visits e second at steps =
    (problem : Parts) (pairs : List (ℕ × ℕ)) (path : List Fact) → AreLinked pairs visits → HoldsPairs pairs path → equal path e (visit_at visits second).number true ≡ true
    → Concludes problem path steps (equal_fact e (visit_at visits at).number true)

pub follows_more : (visits : List Visit) (e second at : ℕ) (steps : List PlainStep) → 0 < at → at < length visits → FollowsTo visits e second at steps → FollowsTo visits e second (visit_at visits at).from (steps ++ EqStep e (visit_at visits at).number (visit_at visits (visit_at visits at).from).number ∷ [])
follows_more visits e second at steps h within so_far problem pairs path links holds said =
    one_more problem pairs path e (visit_at visits at).number (visit_at visits (visit_at visits at).from).number steps (equal_fact e (visit_at visits at).number true) refl (so_far problem pairs path links holds said) holds (links.near at h within)

-- an element equals itself
reflexive : (problem : Parts) (path : List Fact) (e : ℕ) → IsIn (length problem.elements) e → branches problem path (EqRefl e) ≡ Some ((equal_fact e e true ∷ []) ∷ [])
reflexive problem path e within = ap one (found (element_at problem e) refl)
  where
    same_pair : ◌≡◌ {A = ℕ × ℕ} (ordered e e) (e, e)
    same_pair = by (nat_lt e e)
      where
        by : (b : Bool) → ◌≡◌ {A = ℕ × ℕ} (cond b (e, e) (e, e)) (e, e)
        by true = refl
        by false = refl

    found : (o : Option Element) → element_at problem e ≡ o → (element_at problem e >>= λ node. Some (facts.Eq e e true)) ≡ Some (equal_fact e e true)
    found (Some node) is = ap (λ o. o >>= λ node. Some (facts.Eq e e true)) is ∙ ap (λ (p : ℕ × ℕ). Some (facts.Eq p.0 p.1 true)) (sym same_pair)
    found None is = absurd (item_there problem.elements e within is)

pub explains_same : (problem : Parts) (pairs : List (ℕ × ℕ)) (e : ℕ) → IsIn (length problem.elements) e → Explains problem pairs e e (EqRefl e ∷ [])
explains_same problem pairs e within path holds = last path (EqRefl e) (equal_fact e e true) (reflexive problem path e within)

pub explains_near : (problem : Parts) (pairs : List (ℕ × ℕ)) (e f : ℕ) → IsIn (length problem.elements) e → is_listed e (neighbours_of pairs f) ≡ true → Explains problem pairs e f (EqRefl e ∷ EqStep e e f ∷ [])
explains_near problem pairs e f within near path holds =
    one_more problem pairs path e e f (EqRefl e ∷ []) (equal_fact e e true) refl (last path (EqRefl e) (equal_fact e e true) (reflexive problem path e within)) holds near

pub explains_short : (problem : Parts) (pairs : List (ℕ × ℕ)) (e f : ℕ) → IsIn (length problem.elements) e → (e ≢ f → is_listed e (neighbours_of pairs f) ≡ true) → Explains problem pairs e f (short_steps e f)
explains_short problem pairs e f within near = by (nat_eq e f) refl
  where
    by : (b : Bool) → nat_eq e f ≡ b → Explains problem pairs e f (cond b (EqRefl e ∷ []) (EqRefl e ∷ EqStep e e f ∷ []))
    by true s = subst (λ g. Explains problem pairs e g (EqRefl e ∷ [])) ((unsigned_Decides e f).0 s) (explains_same problem pairs e within)
    by false s = explains_near problem pairs e f within (near (λ same. false≢true (sym s ∙ (unsigned_Decides e f).1 same)))

-- a chain without a visit between explains by itself
pub chain_short : (problem : Parts) (pairs : List (ℕ × ℕ)) (start goal : ℕ) (visits : List Visit) (place : ℕ) → IsIn (length problem.elements) goal → IsChain pairs start goal visits place → (visit_at visits place).from ≡ 0 → Explains problem pairs goal start (short_steps (visit_at visits place).number (visit_at visits 0).number)
chain_short problem pairs start goal visits place within chain direct =
    let starts : (visit_at visits 0).number ≡ start = ap (λ (v : Visit). v.number) chain.first in
    subst (λ f. Explains problem pairs goal start (short_steps (visit_at visits place).number f)) (sym starts)
    (subst (λ e. Explains problem pairs goal start (short_steps e start)) (sym chain.found)
    (explains_short problem pairs goal start within (λ ne. near place refl ne)))
  where
    near : (k : ℕ) → k ≡ place → goal ≢ start → is_listed goal (neighbours_of pairs start) ≡ true
    near zero is ne = absurd (ne (sym chain.found ∙ (ap (λ k. (visit_at visits k).number) (sym is) ∙ ap (λ (v : Visit). v.number) chain.first)))
    near (suc k) is ne =
        let later : 0 < place = omega (arith, is) in
        subst (λ e. is_listed e (neighbours_of pairs start) ≡ true) chain.found
        (subst (λ f. is_listed (visit_at visits place).number (neighbours_of pairs f) ≡ true) (ap (λ k. (visit_at visits k).number) direct ∙ ap (λ (v : Visit). v.number) chain.first) (chain.linked.near place later chain.within))

-- and one with such a visit by the steps from there
pub chain_long : (problem : Parts) (pairs : List (ℕ × ℕ)) (start goal : ℕ) (visits : List Visit) (place : ℕ) (steps : List PlainStep) → IsChain pairs start goal visits place → (visit_at visits place).from ≢ 0 → Follows visits (visit_at visits place).number (visit_at visits place).from steps → Explains problem pairs goal start steps
chain_long problem pairs start goal visits place steps chain far follows path holds =
    subst (λ f. Concludes problem path steps (equal_fact goal f true)) (ap (λ (v : Visit). v.number) chain.first)
    (subst (λ e. Concludes problem path steps (equal_fact e (visit_at visits 0).number true)) chain.found
    (follows problem pairs path chain.linked holds
    (equal_turned path (visit_at visits place).number (visit_at visits (visit_at visits place).from).number ∙ near_equal pairs path holds (visit_at visits (visit_at visits place).from).number (visit_at visits place).number (chain.linked.near place (later place refl) chain.within))))
  where
    later : (k : ℕ) → k ≡ place → 0 < place
    later zero is = absurd (far (ap (λ k. (visit_at visits k).from) (sym is) ∙ ap (λ (v : Visit). v.from) chain.first))
    later (suc k) is = omega (arith, is)

-- ---- the loop along the chain
not_zero : (n : ℕ) → n ≢ 0 → 0 < n
not_zero zero ne = absurd (ne refl)
not_zero (suc n) ne = omega arith

pub long_first : (visits : List Visit) (e second : ℕ) (first third : Visit) (steps : List PlainStep) → FallBack visits → second < length visits → second ≢ 0 → first ≡ visit_at visits second → third ≡ visit_at visits first.from → steps ≡ EqStep e first.number third.number ∷ [] →
    (first.from < length visits) × FollowsTo visits e second first.from steps
long_first visits e second first third steps back within ne is is_third are =
    let later = not_zero second ne in (
      omega (arith, subst (λ (v : Visit). v.from < second) (sym is) (back second later within), within),
      subst (FollowsTo visits e second first.from) (sym are)
          (subst (λ (v : Visit). FollowsTo visits e second first.from (EqStep e first.number v.number ∷ [])) (sym is_third)
          (subst (λ (v : Visit). FollowsTo visits e second v.from (EqStep e v.number (visit_at visits v.from).number ∷ [])) (sym is) (follows_first visits e second later within))),
    )

pub long_more : (visits : List Visit) (e second at : ℕ) (here after : Visit) (steps new : List PlainStep) → FallBack visits → 0 < at → at < length visits → here ≡ visit_at visits at → after ≡ visit_at visits here.from → new ≡ steps ++ EqStep e here.number after.number ∷ [] → FollowsTo visits e second at steps →
    (here.from < length visits) × FollowsTo visits e second here.from new
long_more visits e second at here after steps new back later within is is_after are so_far = (
  omega (arith, subst (λ (v : Visit). v.from < at) (sym is) (back at later within), within),
  subst (FollowsTo visits e second here.from) (sym are)
      (subst (λ (v : Visit). FollowsTo visits e second here.from (steps ++ EqStep e here.number v.number ∷ [])) (sym is_after)
      (subst (λ (v : Visit). FollowsTo visits e second v.from (steps ++ EqStep e v.number (visit_at visits v.from).number ∷ [])) (sym is) (follows_more visits e second at steps later within so_far))),
)

pub long_ends : (visits : List Visit) (e second at : ℕ) (steps : List PlainStep) → at ≡ 0 → FollowsTo visits e second at steps → Follows visits e second steps
long_ends visits e second at steps is so_far problem pairs path links holds said =
    subst (λ k. Concludes problem path steps (equal_fact e (visit_at visits k).number true)) is (so_far problem pairs path links holds said)

pub from_low : (visits : List Visit) (place : ℕ) (here : Visit) → (visit_at visits 0).from ≡ 0 → FallBack visits → place < length visits → here ≡ visit_at visits place → here.from ≤ place
from_low visits zero here first back within is = omega (arith, subst (λ (v : Visit). v.from ≡ 0) (sym is) first)
from_low visits (suc k) here first back within is = let h = back (suc k) (omega arith) within in omega (arith, subst (λ (v : Visit). v.from < suc k) (sym is) h)

pub if_ok : {X E : Type 0} (P Q : X → Type 0) (r : Result X E) → IfOk r P → ((x : X) → P x → Q x) → IfOk r Q
if_ok P Q (Ok x) h f = f x h
if_ok P Q (Err e) h f = tt

pub along_short : (problem : Parts) (pairs : List (ℕ × ℕ)) (start goal : ℕ) (visits : List Visit) (place : ℕ) (here first : Visit) (steps : List PlainStep) → IsIn (length problem.elements) goal → IsChain pairs start goal visits place → here ≡ visit_at visits place → first ≡ visit_at visits 0 → here.from ≡ 0 → steps ≡ short_steps here.number first.number → Explains problem pairs goal start steps
along_short problem pairs start goal visits place here first steps within chain is is_first direct are =
    subst (Explains problem pairs goal start) (sym are)
    (subst (λ (v : Visit). Explains problem pairs goal start (short_steps here.number v.number)) (sym is_first)
    (subst (λ (v : Visit). Explains problem pairs goal start (short_steps v.number (visit_at visits 0).number)) (sym is)
    (chain_short problem pairs start goal visits place within chain (subst (λ (v : Visit). v.from ≡ 0) is direct))))

pub along_long : (problem : Parts) (pairs : List (ℕ × ℕ)) (start goal : ℕ) (visits : List Visit) (place : ℕ) (here : Visit) (steps : List PlainStep) → IsChain pairs start goal visits place → here ≡ visit_at visits place → here.from ≢ 0 → Follows visits here.number here.from steps → Explains problem pairs goal start steps
along_long problem pairs start goal visits place here steps chain is far follows =
    chain_long problem pairs start goal visits place steps chain (subst (λ (v : Visit). v.from ≢ 0) is far) (subst (λ (v : Visit). Follows visits v.number v.from steps) is follows)
