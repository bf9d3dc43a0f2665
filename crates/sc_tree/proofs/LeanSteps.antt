-- A step that brings a new fact is lean.
use Rattle.std.proofs.Common.{◌≡◌, ◌≢◌, Bool, true, false, not, ◌&&◌, ◌||◌, List, [], ◌∷◌, ◌++◌, Option, Some, None, refl, sym, ap, ◌∙◌, subst}
use Rattle.std.specs.Prelude.{⊤}
use Rattle.std.specs.List.{AllByRecursion}
use Rattle.std.proofs.lemmas.Bool.{false≢true}
use Rattle.std.proofs.lemmas.Option.{same_Some}
use Rattle.sc_base.specs.Options.{◌>>=◌}
use Rattle.sc_terms.specs.declared.problem.Parts.{Parts}
use Rattle.sc_facts.specs.declared.fact.Fact.{Fact}
use Rattle.sc_facts.specs.declared.fact.Fact.TheVariants as facts
use Rattle.sc_facts.specs.Same.{same_fact, same_fact-Decides}
use Rattle.sc_facts.specs.Facts.{has, row_in, root_facts}
use Rattle.sc_base.specs.Numbered.{item_at}
use Rattle.sc_deriv.specs.declared.derivation.Step.{Step}
use Rattle.sc_deriv.specs.declared.derivation.Step.TheVariants.{Plain}
use Rattle.sc_deriv.specs.declared.derivation.Taken.{Taken}
use Rattle.sc_deriv.specs.Taking.{concluded, path_from}
use Rattle.sc_tree.specs.Lean.{Key, Brings, Says, key, fact_key, brings_more, IsLeanOn, LeanFrom}
use Rattle.sc_tree.specs.Chains.{taken}
use Rattle.sc_tree.specs.Laws.{StepsAreLean}
use Rattle.sc_tree.proofs.OneBranch.{IsOneFact, one_fact}

-- a key that is a fact's stands on the path
abbrev IsOn : List Fact → Key → Type 0
IsOn path (Brings fact) = has path fact ≡ true
IsOn path (Says step) = ⊤

or-true : (b : Bool) → (b || true) ≡ true
or-true true = refl
or-true false = refl

has-front : (path more : List Fact) (f : Fact) → has path f ≡ true → has (path ++ more) f ≡ true
has-front [] more f e = absurd (false≢true e)
has-front (x ∷ xs) more f e = by_test (same_fact f x) e (λ k. has-front xs more f k) where
  by_test : (b : Bool) → (b || has xs f) ≡ true → (has xs f ≡ true → has (xs ++ more) f ≡ true) → (b || has (xs ++ more) f) ≡ true
  by_test true k later = refl
  by_test false k later = later k

has-last : (path : List Fact) (f : Fact) (more : List Fact) → has (path ++ f ∷ more) f ≡ true
has-last [] f more = ap (λ b. b || has more f) ((same_fact-Decides f f).1 refl)
has-last (x ∷ xs) f more = ap (λ b. same_fact f x || b) (has-last xs f more) ∙ or-true (same_fact f x)

on-front : (path more : List Fact) (keys : List Key) → AllByRecursion (IsOn path) keys → AllByRecursion (IsOn (path ++ more)) keys
on-front path more [] all = tt
on-front path more (k ∷ ks) all = (by_key k all.0, on-front path more ks all.1) where
  by_key : (q : Key) → IsOn path q → IsOn (path ++ more) q
  by_key (Brings f) h = has-front path more f h
  by_key (Says s) h = tt

fact-on : (path more : List Fact) (step : Step) (f : Fact) → IsOn (path ++ f ∷ more) (fact_key step f)
fact-on path more step (facts.Sign a b) = has-last path (facts.Sign a b) more
fact-on path more step (facts.Member a b c) = has-last path (facts.Member a b c) more
fact-on path more step (facts.Eq a b c) = has-last path (facts.Eq a b c) more
fact-on path more step (facts.EqSet a b c) = has-last path (facts.EqSet a b c) more
fact-on path more step (facts.Row a) = tt
fact-on path more step (facts.Empty a b) = has-last path (facts.Empty a b) more

key-on : (path : List Fact) (step : Step) (bs : List Fact) → IsOn (path ++ bs) (key step bs)
key-on path step [] = tt
key-on path step (f ∷ []) = fact-on path [] step f
key-on path step (f ∷ g ∷ fs) = tt

plain-key : (step : Step) (f : Fact) → row_in f ≡ None → key step (f ∷ []) ≡ Brings f
plain-key step (facts.Sign a b) e = refl
plain-key step (facts.Member a b c) e = refl
plain-key step (facts.Eq a b c) e = refl
plain-key step (facts.EqSet a b c) e = refl
plain-key step (facts.Row a) e = absurd cc
plain-key step (facts.Empty a b) e = refl

brings-apart : (path : List Fact) (f : Fact) (k : Key) → IsOn path k → has path f ≡ false → k ≢ Brings f
brings-apart path f (Brings g) on new e = (let same : g ≡ f = cc in false≢true (sym new ∙ (ap (has path) (sym same) ∙ on)))
brings-apart path f (Says s) on new e = cc

all-apart : (path : List Fact) (f : Fact) (keys : List Key) → AllByRecursion (IsOn path) keys → has path f ≡ false → AllByRecursion (λ k. k ≢ Brings f) keys
all-apart path f [] all new = tt
all-apart path f (k ∷ ks) all new = (brings-apart path f k all.0 new, all-apart path f ks all.1 new)

one-more : (path : List Fact) (f : Fact) → has path f ≡ false → brings_more path (f ∷ []) ≡ true
one-more path f new = ap (λ b. not (b && true)) new

module _ (problem : Parts) (t : Taken) (fact : Fact) (plain : row_in fact ≡ None) where
  last-lean : (path : List Fact) (keys : List Key) → AllByRecursion (IsOn path) keys → concluded problem path t ≡ Some (fact ∷ []) → has path fact ≡ false → LeanFrom problem path keys (t ∷ [])
  last-lean path keys on brings new =
      subst (λ o. IsLeanOn path keys t.step o (λ p ks. LeanFrom problem p ks [])) (sym brings) (record { more = one-more path fact new; apart = subst (λ q. AllByRecursion (λ k. k ≢ q) keys) (sym (plain-key t.step fact plain)) (all-apart path fact keys on new) }, tt)

  on-by : (path : List Fact) (keys : List Key) (u : Taken) (us : List Taken) (last : List Fact) (o : Option (List Fact)) → AllByRecursion (IsOn path) keys → IsLeanOn path keys u.step o (λ p ks. LeanFrom problem p ks us) → (o >>= λ b. path_from problem (path ++ b) us) ≡ Some last → ((p : List Fact) (ks : List Key) → AllByRecursion (IsOn p) ks → LeanFrom problem p ks us → path_from problem p us ≡ Some last → LeanFrom problem p ks (us ++ t ∷ [])) → IsLeanOn path keys u.step o (λ p ks. LeanFrom problem p ks (us ++ t ∷ []))
  on-by path keys u us last None on lean leads later = absurd cc
  on-by path keys u us last (Some bs) on lean leads later =
      (lean.0, later (path ++ bs) (key u.step bs ∷ keys) (key-on path u.step bs, on-front path bs keys on) lean.1 leads)

  lean-on : (path : List Fact) (keys : List Key) (steps : List Taken) (last : List Fact) → AllByRecursion (IsOn path) keys → LeanFrom problem path keys steps → path_from problem path steps ≡ Some last → concluded problem last t ≡ Some (fact ∷ []) → has last fact ≡ false → LeanFrom problem path keys (steps ++ t ∷ [])
  lean-on path keys [] last on lean leads brings new =
      let same = same_Some path last leads in
      last-lean path keys on (subst (λ p. concluded problem p t ≡ Some (fact ∷ [])) (sym same) brings) (subst (λ p. has p fact ≡ false) (sym same) new)
  lean-on path keys (u ∷ us) last on lean leads brings new =
      on-by path keys u us last (concluded problem path u) on lean leads (λ p ks o l k. lean-on p ks us last o l k brings new)

lacks-one : (path : List Fact) (f : Fact) → brings_more path (f ∷ []) ≡ true → has path f ≡ false
lacks-one path f e = by (has path f) e
  where
    by : (a : Bool) → not (a && true) ≡ true → a ≡ false
    by true h = absurd (false≢true h)
    by false h = refl

pub steps_are_lean : StepsAreLean
steps_are_lean problem steps path (Plain step) bs lean leads is more =
    let found : IsOneFact bs = one_fact problem path step bs is in
    let brings : concluded problem path (taken (Plain step) 1) ≡ Some (found.0 ∷ []) = ap (λ o. o >>= (λ lists. item_at lists 1)) is ∙ ap Some found.1 in
    let new : has path found.0 ≡ false = lacks-one path found.0 (subst (λ fs. brings_more path fs ≡ true) found.1 more) in
    lean-on problem (taken (Plain step) 1) found.0 found.2 (root_facts problem.roots) [] steps path tt lean leads brings new
