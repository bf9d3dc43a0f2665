-- Steps that are added to a lean path.
use Rattle.std.proofs.Common.{◌≡◌, ◌≢◌, ℕ, ◌<◌, ◌≤◌, Bool, true, false, ◌||◌, List, [], ◌∷◌, ◌++◌, length, Option, Some, None, refl, sym, ap, subst, ◌∙◌, append_assoc, length-append, arith}
use Rattle.std.specs.List.{AllByRecursion}
use Rattle.std.proofs.lemmas.Bool.{false≢true}
use Rattle.sc_base.specs.Numbered.{item_at}
use Rattle.sc_base.specs.Options.{◌>>=◌}
use Rattle.sc_terms.specs.declared.problem.Parts.{Parts}
use Rattle.sc_facts.specs.declared.fact.Fact.{Fact}
use Rattle.sc_facts.specs.declared.fact.Fact.TheVariants as facts
use Rattle.sc_facts.specs.Same.{same_fact, same_fact-Decides}
use Rattle.sc_facts.specs.Facts.{has, root_facts}
use Rattle.sc_facts.specs.Paths.{with_facts}
use Rattle.sc_rules.specs.declared.step.PlainStep.{PlainStep}
use Rattle.sc_rules.specs.Steps.{branches}
use Rattle.sc_deriv.specs.declared.derivation.Step.{Step}
use Rattle.sc_deriv.specs.declared.derivation.Step.TheVariants.{Plain}
use Rattle.sc_deriv.specs.declared.derivation.Taken.{Taken}
use Rattle.sc_deriv.specs.Acceptance.{step_branches}
use Rattle.sc_deriv.specs.Taking.{concluded, path_from, path_after}
use Rattle.sc_tree.specs.Chains.{taken, only, grow, firsts}
use Rattle.sc_tree.specs.Lean.{Key, Brings, fact_key, key, IsLeanOn, LeanFrom, Lean, IsWithin}
use Rattle.sc_model.specs.Deciding.{no_row, sole}
use Rattle.sc_branch.specs.Growing.{Growth, GoesOn, Adds}
use Rattle.sc_branch.proofs.Clashing.{has_still}

-- ---- where steps lead
pub path_on : (problem : Parts) (path new : List Fact) (steps : List Taken) (t : Taken) (bs : List Fact) → path_from problem path steps ≡ Some new → concluded problem new t ≡ Some bs → path_from problem path (steps ++ t ∷ []) ≡ Some (new ++ bs)
path_on problem path new [] t bs e c =
    let same : path ≡ new = cc in
    ap (λ o. o >>= (λ facts. path_from problem (path ++ facts) [])) (subst (λ p. concluded problem p t ≡ Some bs) (sym same) c) ∙ ap (λ p. Some (p ++ bs)) same
path_on problem path new (s ∷ steps) t bs e c = by (concluded problem path s) (λ facts h. path_on problem (path ++ facts) new steps t bs h c) e
  where
    by : (o : Option (List Fact)) → ((facts : List Fact) → path_from problem (path ++ facts) steps ≡ Some new → path_from problem (path ++ facts) (steps ++ t ∷ []) ≡ Some (new ++ bs)) → (o >>= (λ facts. path_from problem (path ++ facts) steps)) ≡ Some new → (o >>= (λ facts. path_from problem (path ++ facts) (steps ++ t ∷ []))) ≡ Some (new ++ bs)
    by None rest h = absurd cc
    by (Some facts) rest h = rest facts h

pub grow_on : (problem : Parts) (path new : List Fact) (chain : List Step) (s : Step) (bs : List Fact) → grow problem path chain ≡ Some new → only (step_branches problem new s) ≡ Some bs → grow problem path (chain ++ s ∷ []) ≡ Some (new ++ bs)
grow_on problem path new [] s bs e c =
    let same : path ≡ new = cc in
    ap (λ o. o >>= (λ b. grow problem (path ++ b) [])) (subst (λ p. only (step_branches problem p s) ≡ Some bs) (sym same) c) ∙ ap (λ p. Some (p ++ bs)) same
grow_on problem path new (x ∷ chain) s bs e c = by (only (step_branches problem path x)) (λ b h. grow_on problem (path ++ b) new chain s bs h c) e
  where
    by : (o : Option (List Fact)) → ((b : List Fact) → grow problem (path ++ b) chain ≡ Some new → grow problem (path ++ b) (chain ++ s ∷ []) ≡ Some (new ++ bs)) → (o >>= (λ b. grow problem (path ++ b) chain)) ≡ Some new → (o >>= (λ b. grow problem (path ++ b) (chain ++ s ∷ []))) ≡ Some (new ++ bs)
    by None rest h = absurd cc
    by (Some b) rest h = rest b h

-- facts that steps find stay
pub path_keeps : (problem : Parts) (path new : List Fact) (steps : List Taken) → path_from problem path steps ≡ Some new → (x : Fact) → has path x ≡ true → has new x ≡ true
path_keeps problem path new [] e x h = let same : path ≡ new = cc in subst (λ p. has p x ≡ true) same h
path_keeps problem path new (s ∷ steps) e x h = by (concluded problem path s) (λ facts g. path_keeps problem (path ++ facts) new steps g x (has_still path facts x h)) e
  where
    by : (o : Option (List Fact)) → ((facts : List Fact) → path_from problem (path ++ facts) steps ≡ Some new → has new x ≡ true) → (o >>= (λ facts. path_from problem (path ++ facts) steps)) ≡ Some new → has new x ≡ true
    by None rest g = absurd cc
    by (Some facts) rest g = rest facts g

-- ---- a new fact is a new key
-- the keys are those of facts that stand on the path, or name steps
abbrev AreOn : List Fact → List Key → Type 0
AreOn path keys = AllByRecursion (λ k. (f : Fact) → k ≡ Brings f → has path f ≡ true) keys

are_on : (path more : List Fact) (keys : List Key) → AreOn path keys → AreOn (path ++ more) keys
are_on path more [] h = tt
are_on path more (k ∷ keys) h = (λ f e. has_still path more f (h.0 f e), are_on path more keys h.1)

has_self : (f : Fact) (fs : List Fact) → has (f ∷ fs) f ≡ true
has_self f fs = rw ((same_fact-Decides f f).1 refl) refl

key_fact : (step : Step) (fact f : Fact) → fact_key step fact ≡ Brings f → fact ≡ f
key_fact step (facts.Row row) f e = absurd cc
key_fact step (facts.Sign g s) f e = cc
key_fact step (facts.Member x t s) f e = cc
key_fact step (facts.Eq x y s) f e = cc
key_fact step (facts.EqSet t u s) f e = cc
key_fact step (facts.Empty cube s) f e = cc

key_on : (path : List Fact) (step : Step) (bs : List Fact) (f : Fact) → key step bs ≡ Brings f → has (path ++ bs) f ≡ true
key_on path step [] f e = absurd cc
key_on path step (b ∷ []) f e = by path (key_fact step b f e)
  where
    by : (p : List Fact) → b ≡ f → has (p ++ b ∷ []) f ≡ true
    by [] same = subst (λ g. has (b ∷ []) g ≡ true) same (has_self b [])
    by (x ∷ p) same = or_second (same_fact f x) (has (p ++ b ∷ []) f) (by p same)
      where
        or_second : (a c : Bool) → c ≡ true → (a || c) ≡ true
        or_second true c h = refl
        or_second false c h = h
key_on path step (b ∷ c ∷ bs) f e = absurd cc

apart_of : (path : List Fact) (keys : List Key) (k : Key) (fact : Fact) → AreOn path keys → has path fact ≡ false → k ≡ Brings fact → AllByRecursion (λ other. other ≢ k) keys
apart_of path [] k fact on new is = tt
apart_of path (x ∷ keys) k fact on new is = (λ same. false≢true (sym new ∙ on.0 fact (same ∙ is)), apart_of path keys k fact on.1 new is)

brings_it : (step : Step) (fact : Fact) → no_row fact ≡ Some fact → fact_key step fact ≡ Brings fact
brings_it step (facts.Row row) e = absurd cc
brings_it step (facts.Sign g s) e = refl
brings_it step (facts.Member x t s) e = refl
brings_it step (facts.Eq x y s) e = refl
brings_it step (facts.EqSet t u s) e = refl
brings_it step (facts.Empty cube s) e = refl

lean_from : (problem : Parts) (path new : List Fact) (keys : List Key) (steps : List Taken) (t : Taken) (fact : Fact) → LeanFrom problem path keys steps → path_from problem path steps ≡ Some new → AreOn path keys → concluded problem new t ≡ Some (fact ∷ []) → no_row fact ≡ Some fact → has new fact ≡ false → LeanFrom problem path keys (steps ++ t ∷ [])
lean_from problem path new keys [] t fact lean e on c row fresh =
    let same : path ≡ new = cc in
    let not_there : has path fact ≡ false = subst (λ p. has p fact ≡ false) (sym same) fresh in
    subst (λ o. IsLeanOn path keys t.step o (λ p ks. LeanFrom problem p ks [])) (sym (subst (λ p. concluded problem p t ≡ Some (fact ∷ [])) (sym same) c))
    (record { more = rw not_there refl; apart = apart_of path keys (fact_key t.step fact) fact on not_there (brings_it t.step fact row) }, tt)
lean_from problem path new keys (s ∷ steps) t fact lean e on c row fresh = by (concluded problem path s) (λ bs l h. lean_from problem (path ++ bs) new (key s.step bs ∷ keys) steps t fact l h (λ f k. key_on path s.step bs f k, are_on path bs keys on) c row fresh) lean e
  where
    by : (o : Option (List Fact)) → ((bs : List Fact) → LeanFrom problem (path ++ bs) (key s.step bs ∷ keys) steps → path_from problem (path ++ bs) steps ≡ Some new → LeanFrom problem (path ++ bs) (key s.step bs ∷ keys) (steps ++ t ∷ [])) → IsLeanOn path keys s.step o (λ p ks. LeanFrom problem p ks steps) → (o >>= (λ facts. path_from problem (path ++ facts) steps)) ≡ Some new → IsLeanOn path keys s.step o (λ p ks. LeanFrom problem p ks (steps ++ t ∷ []))
    by None rest l h = absurd l
    by (Some bs) rest l h = (l.0, rest bs l.1 h)

pub lean_on : (problem : Parts) (steps : List Taken) (path : List Fact) (t : Taken) (fact : Fact) → Lean problem steps → path_after problem steps ≡ Some path → concluded problem path t ≡ Some (fact ∷ []) → no_row fact ≡ Some fact → has path fact ≡ false → Lean problem (steps ++ t ∷ [])
lean_on problem steps path t fact lean leads c row fresh = lean_from problem (root_facts problem.roots) path [] steps t fact lean leads tt c row fresh

-- ---- one more step
sole_is : (bs : Option (List (List Fact))) (fact : Fact) → sole bs ≡ Some fact → (bs ≡ Some ((fact ∷ []) ∷ [])) × (no_row fact ≡ Some fact)
sole_is None fact e = absurd cc
sole_is (Some []) fact e = absurd cc
sole_is (Some ([] ∷ bs)) fact e = absurd cc
sole_is (Some ((f ∷ g ∷ fs) ∷ bs)) fact e = absurd cc
sole_is (Some ((f ∷ []) ∷ c ∷ bs)) fact e = absurd cc
sole_is (Some ((f ∷ []) ∷ [])) fact e = by f e
  where
    by : (g : Fact) → no_row g ≡ Some fact → (Some ((g ∷ []) ∷ []) ≡ Some ((fact ∷ []) ∷ [])) × (no_row fact ≡ Some fact)
    by (facts.Row row) h = absurd cc
    by (facts.Sign g s) h = let same : facts.Sign g s ≡ fact = cc in (ap (λ x. Some ((x ∷ []) ∷ [])) same, subst (λ x. no_row x ≡ Some x) same refl)
    by (facts.Member x t s) h = let same : facts.Member x t s ≡ fact = cc in (ap (λ y. Some ((y ∷ []) ∷ [])) same, subst (λ y. no_row y ≡ Some y) same refl)
    by (facts.Eq x y s) h = let same : facts.Eq x y s ≡ fact = cc in (ap (λ z. Some ((z ∷ []) ∷ [])) same, subst (λ z. no_row z ≡ Some z) same refl)
    by (facts.EqSet t u s) h = let same : facts.EqSet t u s ≡ fact = cc in (ap (λ z. Some ((z ∷ []) ∷ [])) same, subst (λ z. no_row z ≡ Some z) same refl)
    by (facts.Empty cube s) h = let same : facts.Empty cube s ≡ fact = cc in (ap (λ z. Some ((z ∷ []) ∷ [])) same, subst (λ z. no_row z ≡ Some z) same refl)

map-one : (chain : List Step) (s : Step) → firsts (chain ++ s ∷ []) ≡ firsts chain ++ taken s 1 ∷ []
map-one [] s = refl
map-one (x ∷ chain) s = ap (λ ts. taken x 1 ∷ ts) (map-one chain s)

pub goes_on : (problem : Parts) (budget : ℕ) (step : PlainStep) (fact : Fact) (old new : Growth) → Adds step fact old new → sole (branches problem old.path.facts step) ≡ Some fact → has old.path.facts fact ≡ false → length old.steps < budget → GoesOn problem budget old new
goes_on problem budget step fact old new adds concludes fresh room start g =
    let is = sole_is (branches problem old.path.facts step) fact concludes in
    let t : Taken = taken (Plain step) 1 in
    let brings : concluded problem old.path.facts t ≡ Some (fact ∷ []) = ap (λ o. o >>= (λ bs. item_at bs 1)) is.0 in
    let facts : new.path.facts ≡ old.path.facts ++ fact ∷ [] = ap (λ p. p.facts) adds.path in
    let few : length (old.steps ++ t ∷ []) ≤ budget = rw (length-append old.steps (t ∷ [])) (omega (arith, room)) in
    record {
      on = record {
        leads = ap (path_after problem) adds.steps ∙ (path_on problem _ old.path.facts old.steps t (fact ∷ []) g.on.leads brings ∙ ap Some (sym facts));
        within = subst (IsWithin problem budget) (sym adds.steps) (record { lean = lean_on problem old.steps old.path.facts t fact g.on.within.lean g.on.leads brings is.1 fresh; few = few });
      };
      grown = ap (grow problem start.path.facts) adds.chain ∙ (grow_on problem start.path.facts old.path.facts old.chain (Plain step) (fact ∷ []) g.grown (ap only is.0) ∙ ap Some (sym facts));
      path = adds.path ∙ (ap (λ p. with_facts p (old.path.facts ++ fact ∷ [])) g.path ∙ ap (with_facts start.path) (sym facts));
      steps = adds.steps ∙ (ap (λ ts. ts ++ t ∷ []) g.steps ∙ (append_assoc start.steps (firsts old.chain) (t ∷ []) ∙ (ap (λ ts. start.steps ++ ts) (sym (map-one old.chain (Plain step))) ∙ ap (λ chain. start.steps ++ firsts chain) (sym adds.chain))));
    }

pub goes_nowhere : (problem : Parts) (budget : ℕ) (old : Growth) → GoesOn problem budget old old
goes_nowhere problem budget old start g = g

pub attempt_goes : (problem : Parts) (budget : ℕ) (step : PlainStep) (fact : Fact) (seen old new : Growth) → seen ≡ old → Adds step fact old new → sole (branches problem seen.path.facts step) ≡ Some fact → has seen.path.facts fact ≡ false → length seen.steps < budget → GoesOn problem budget old new
attempt_goes problem budget step fact seen old new is adds concludes fresh room =
    goes_on problem budget step fact old new adds (subst (λ g. sole (branches problem g.path.facts step) ≡ Some fact) is concludes) (subst (λ g. has g.path.facts fact ≡ false) is fresh) (subst (λ g. length g.steps < budget) is room)
