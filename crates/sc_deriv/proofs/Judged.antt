-- One node judged, and the judgement on the root path.
use Rattle.std.proofs.Common.{◌≡◌, ◌≢◌, ℕ, ◌+◌, ◌<◌, List, [], ◌∷◌, drop, length, Option, Some, None, Result, Ok, Err, IfOk, refl, sym, ap, subst, ◌∙◌}
use Rattle.std.proofs.Math.ListN.{get_or}
use Rattle.std.proofs.lemmas.List.{drop_more}
use Rattle.sc_terms.specs.declared.problem.Parts.{Parts}
use Rattle.sc_facts.specs.declared.fact.Fact.{Fact}
use Rattle.sc_facts.specs.Facts.{root_facts}
use Rattle.sc_facts.specs.Paths.{PathFacts, from_root}
use Rattle.sc_deriv.specs.declared.derivation.Lemma.{Lemma}
use Rattle.sc_deriv.specs.declared.derivation.Node.{Node}
use Rattle.sc_deriv.specs.declared.derivation.Reason.{Reason}
use Rattle.sc_deriv.specs.declared.derivation.Judgement.{Judgement}
use Rattle.sc_deriv.specs.declared.derivation.Judgement.TheVariants.{Refused}
use Rattle.sc_deriv.specs.Acceptance.{hypotheses_of}
use Rattle.sc_deriv.specs.Judging.{outcome, IsOutcome, IsTaken, judge, judgement_on}

some_none : {X : Type 0} {x : X} → Some x ≡ None → ⊥
some_none e = absurd cc

some_is : {X : Type 0} {x y : X} → Some x ≡ Some y → x ≡ y
some_is e = cc

failed-now : (problem : Parts) (lists paths : List (List Fact)) (node : Node) (rest : List Node) (k : ℕ) (new : List (List Fact)) (reason : Reason) → paths ≢ [] → IsTaken problem lists paths node new (Some reason) → judge problem lists paths (node ∷ rest) k ≡ Refused (k + 1) reason
failed-now problem lists [] node rest k new reason some told = absurd (some refl)
failed-now problem lists (path ∷ paths) node rest k new reason some told = by (outcome problem lists path node) refl told
  where
    by : (o : Result (List (List Fact)) Reason) → outcome problem lists path node ≡ o → IsOutcome o (path ∷ paths) new (Some reason) → judge problem lists (path ∷ paths) (node ∷ rest) k ≡ Refused (k + 1) reason
    by (Err r) e told = rw e (ap (λ x. Refused (k + 1) x) (sym (some_is told)))
    by (Ok ps) e told = absurd (some_none told.0)

-- where the first node that is left fails, so does the whole
pub failed : (problem : Parts) (lists paths new : List (List Fact)) (ns : List Node) (node : Node) (i k : ℕ) (told : Option Reason) (reason : Reason) (all : Judgement)
    → judge problem lists paths (drop i ns) k ≡ all → i < length ns → node ≡ get_or ns i node → paths ≢ [] → IsTaken problem lists paths node new told → told ≡ Some reason → Refused (k + 1) reason ≡ all
failed problem lists paths new ns node i k told reason all left inside at some taken is =
    sym (failed-now problem lists paths node (drop (i + 1) ns) k new reason some (subst (λ t. IsTaken problem lists paths node new t) is taken))
    ∙ ap (λ x. judge problem lists paths (x ∷ drop (i + 1) ns) k) at
    ∙ ap (λ xs. judge problem lists paths xs k) (sym (drop_more ns i node inside))
    ∙ left

-- the walk begins on the root path
pub on_roots : {E : Type 0} (r : Result Judgement E) (problem : Parts) (lemmas ls : List Lemma) (path : PathFacts) (walk : List (List Fact)) (nodes ns : List Node)
    → ls ≡ lemmas → ns ≡ nodes → path ≡ from_root problem → walk ≡ path.facts ∷ [] → IfOk r (λ j. j ≡ judge problem (hypotheses_of ls) walk ns 0)
    → IfOk r (λ j. j ≡ judgement_on problem (hypotheses_of lemmas) (root_facts problem.roots) nodes)
on_roots (Ok j) problem lemmas ls path walk nodes ns same_lemmas same_nodes root begins e =
    let roots : walk ≡ root_facts problem.roots ∷ [] = begins ∙ ap (λ (p : PathFacts). p.facts ∷ []) root in
    e ∙ λ i. judge problem (hypotheses_of (same_lemmas i)) (roots i) (same_nodes i) 0
on_roots (Err x) problem lemmas ls path walk nodes ns same_lemmas same_nodes root begins e = tt
