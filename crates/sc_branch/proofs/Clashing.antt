-- Clashes on a path, and on the path with one more fact.
use Rattle.std.proofs.Common.{◌≡◌, ℕ, zero, suc, ◌+◌, ◌<◌, ◌≤◌, Bool, true, false, ◌&&◌, ◌||◌, cond, List, [], ◌∷◌, ◌++◌, length, take, get_or, Option, Some, None, inl, inr, refl, sym, ap, subst, ◌∙◌, arith}
use Rattle.std.specs.List.{AllByRecursion}
use Rattle.std.proofs.Math.Seq.{take-suc}
use Rattle.std.proofs.lemmas.Bool.{false≢true}
use Rattle.std.proofs.lemmas.List.Folds.{list_any-append}
use Rattle.sc_base.proofs.Bools.{and_true, or_true, or_none}
use Rattle.sc_facts.specs.declared.fact.Fact.{Fact}
use Rattle.sc_facts.specs.declared.name.FactName.{FactName}
use Rattle.sc_facts.specs.declared.name.FactName.TheVariants as names
use Rattle.sc_facts.specs.Same.{same_fact, same_fact-Decides}
use Rattle.sc_facts.specs.Facts.{has, named}
use Rattle.sc_facts.specs.Paths.{PathFacts, with_facts}
use Rattle.sc_deriv.specs.Acceptance.{is_ordered, clashes}
use Rattle.sc_tree.specs.Events.{HasNoClash}
use Rattle.sc_branch.specs.Clashes.{name_of, clash_of, IsClash}

name_of-named : (name : FactName) (s : Bool) → name_of (named name s) ≡ Some name
name_of-named (names.Sign f) s = refl
name_of-named (names.Member e t) s = refl
name_of-named (names.Eq e f) s = refl
name_of-named (names.EqSet t u) s = refl
name_of-named (names.Empty cube) s = refl

pub has_more : (path more : List Fact) (x : Fact) → has (path ++ more) x ≡ (has path x || has more x)
has_more path more x = list_any-append (same_fact x) path more

or_left : (a b : Bool) → a ≡ true → (a || b) ≡ true
or_left true b e = refl
or_left false b e = absurd (false≢true e)

pub has_still : (path more : List Fact) (x : Fact) → has path x ≡ true → has (path ++ more) x ≡ true
has_still path more x h = has_more path more x ∙ or_left (has path x) (has more x) h

-- what holds of each fact of a list holds of one that the list has
pub at_has : (P : Fact → Type 0) (fs : List Fact) → AllByRecursion P fs → (x : Fact) → has fs x ≡ true → P x
at_has P [] h x e = absurd (false≢true e)
at_has P (f ∷ fs) h x e =
    elim (or_true (same_fact x f) (has fs x) e) [
      | inl a ↦ subst P (sym ((same_fact-Decides x f).0 a)) h.0
      | inr b ↦ at_has P fs h.1 x b
    ]

pub all_next : (P : Fact → Type 0) (fs : List Fact) (i : ℕ) (f : Fact) → i < length fs → f ≡ get_or fs i f → AllByRecursion P (take i fs) → P f → AllByRecursion P (take (i + 1) fs)
all_next P fs i f h is before one =
    let next : i + 1 ≡ suc i = omega arith in
    subst (λ xs. AllByRecursion P xs) (sym (ap (λ n. take n fs) next ∙ take-suc fs i f h)) (more (take i fs) before (subst P is one))
  where
    more : (xs : List Fact) → AllByRecursion P xs → P (get_or fs i f) → AllByRecursion P (xs ++ get_or fs i f ∷ [])
    more [] g o = (o, tt)
    more (x ∷ xs) g o = (g.0, more xs g.1 o)

-- the fact's name does not clash
abbrev pub IsClear : List Fact → Fact → Type 0
IsClear path fact = clash_of path (name_of fact) ≡ None

clear_name : (path : List Fact) (name : FactName) → clash_of path (Some name) ≡ None → clashes path name ≡ false
clear_name path name e = by (clashes path name) e
  where
    by : (b : Bool) → cond b (Some name) None ≡ None → b ≡ false
    by true h = absurd cc
    by false h = refl

pub no_clash : (path : List Fact) → AllByRecursion (IsClear path) path → HasNoClash path
no_clash path all name = by (clashes path name) refl
  where
    by : (b : Bool) → clashes path name ≡ b → clashes path name ≡ false
    by false e = e
    by true e =
        let plus : has path (named name true) ≡ true = (and_true (has path (named name true)) (has path (named name false)) ((and_true (is_ordered name) (has path (named name true) && has path (named name false)) e).1)).0 in
        clear_name path name (subst (λ o. clash_of path o ≡ None) (name_of-named name true) (at_has (IsClear path) path all (named name true) plus))

pub clash_is : (path : List Fact) (name : Option FactName) (found : FactName) → clash_of path name ≡ Some found → clashes path found ≡ true
clash_is path None found e = absurd cc
clash_is path (Some name) found e = by (clashes path name) refl e
  where
    by : (b : Bool) → clashes path name ≡ b → cond b (Some name) None ≡ Some found → clashes path found ≡ true
    by true t h = let same : name ≡ found = cc in subst (λ n. clashes path n ≡ true) same t
    by false t h = absurd cc

-- ---- one more fact
same_both : (a b c : Bool) → a ≡ true → b ≡ true → c ≡ true → (a && (b && c)) ≡ true
same_both true true true p q r = refl
same_both false b c p q r = absurd (false≢true p)
same_both true false c p q r = absurd (false≢true q)
same_both true true false p q r = absurd (false≢true r)

pub clash_stays : (path : List Fact) (fact : Fact) (name : FactName) → clashes path name ≡ true → clashes (path ++ fact ∷ []) name ≡ true
clash_stays path fact name e =
    let one = and_true (is_ordered name) (has path (named name true) && has path (named name false)) e in
    let two = and_true (has path (named name true)) (has path (named name false)) one.1 in
    same_both (is_ordered name) _ _ one.0 (has_still path (fact ∷ []) (named name true) two.0) (has_still path (fact ∷ []) (named name false) two.1)

has_same : (path : List Fact) (fact x : Fact) → same_fact x fact ≡ false → has (path ++ fact ∷ []) x ≡ has path x
has_same path fact x e = has_more path (fact ∷ []) x ∙ (ap (λ b. has path x || (b || false)) e ∙ or_none (has path x))

pub clash_after : (path : List Fact) (fact : Fact) → HasNoClash path → IsClash (path ++ fact ∷ []) (clash_of (path ++ fact ∷ []) (name_of fact))
clash_after path fact none = by (clash_of (path ++ fact ∷ []) (name_of fact)) refl
  where
    kept : (name : FactName) → IsClear (path ++ fact ∷ []) fact → (a b : Bool) → same_fact (named name true) fact ≡ a → same_fact (named name false) fact ≡ b → clashes (path ++ fact ∷ []) name ≡ false
    kept name clear true b p q =
        let is : named name true ≡ fact = (same_fact-Decides (named name true) fact).0 p in
        clear_name (path ++ fact ∷ []) name (subst (λ o. clash_of (path ++ fact ∷ []) o ≡ None) (ap name_of (sym is) ∙ name_of-named name true) clear)
    kept name clear false true p q =
        let is : named name false ≡ fact = (same_fact-Decides (named name false) fact).0 q in
        clear_name (path ++ fact ∷ []) name (subst (λ o. clash_of (path ++ fact ∷ []) o ≡ None) (ap name_of (sym is) ∙ name_of-named name false) clear)
    kept name clear false false p q =
        ap (λ b. is_ordered name && (b && has (path ++ fact ∷ []) (named name false))) (has_same path fact (named name true) p)
        ∙ (ap (λ b. is_ordered name && (has path (named name true) && b)) (has_same path fact (named name false) q) ∙ none name)

    by : (o : Option FactName) → clash_of (path ++ fact ∷ []) (name_of fact) ≡ o → IsClash (path ++ fact ∷ []) o
    by None e = λ name. kept name e (same_fact (named name true) fact) (same_fact (named name false) fact) refl refl
    by (Some found) e = clash_is (path ++ fact ∷ []) (name_of fact) found e

pub clash_added : (old new : PathFacts) (fact : Fact) (clash : Option FactName) (name : Option FactName) (found : Option FactName) → IsClash old.facts clash → clash ≡ None → new ≡ with_facts old (old.facts ++ fact ∷ []) → name ≡ name_of fact → found ≡ clash_of new.facts name → IsClash new.facts found
clash_added old new fact clash name found before none is names finds =
    let facts : new.facts ≡ old.facts ++ fact ∷ [] = ap (λ p. p.facts) is in
    subst (IsClash new.facts) (sym (finds ∙ ap (clash_of new.facts) names)) (subst (λ fs. IsClash fs (clash_of fs (name_of fact))) (sym facts) (clash_after old.facts fact (subst (IsClash old.facts) none before)))

pub clash_kept : (old new : PathFacts) (fact : Fact) (clash : Option FactName) (name : FactName) → IsClash old.facts clash → clash ≡ Some name → new ≡ with_facts old (old.facts ++ fact ∷ []) → IsClash new.facts clash
clash_kept old new fact clash name before some is =
    subst (IsClash new.facts) (sym some) (subst (λ fs. clashes fs name ≡ true) (sym (ap (λ p. p.facts) is)) (clash_stays old.facts fact name (subst (IsClash old.facts) some before)))

pub all_taken : (P : Fact → Type 0) (fs : List Fact) (i : ℕ) → length fs ≤ i → AllByRecursion P (take i fs) → AllByRecursion P fs
all_taken P [] i h all = tt
all_taken P (f ∷ fs) zero h all = absurd (omega (arith, h))
all_taken P (f ∷ fs) (suc i) h all = (all.0, all_taken P fs i (omega (arith, h)) all.1)
