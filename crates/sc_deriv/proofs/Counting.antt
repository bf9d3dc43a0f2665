-- A step has as many branches as its word says.
use Rattle.std.specs.Prelude.{if◌then◌else◌}
use Rattle.std.proofs.Common.{◌≡◌, ℕ, suc, Bool, List, [], ◌∷◌, length, Option, Some, None, true, false, refl, subst, arith}
use Rattle.sc_terms.specs.declared.problem.Parts.{Parts}
use Rattle.sc_facts.specs.declared.fact.Fact.{Fact}
use Rattle.sc_facts.specs.Facts.{named}
use Rattle.sc_rules.specs.declared.step.PlainStep.{PlainStep}
use Rattle.sc_rules.specs.declared.step.PlainStep.TheVariants as steps
use Rattle.sc_base.specs.Options.{◌>>=◌}
use Rattle.sc_rules.specs.Members.{tells_apart, differing}
use Rattle.sc_rules.specs.Pairs.{ordered}
use Rattle.sc_rules.specs.Steps.{one, names_fact, branches}
use Rattle.sc_deriv.specs.declared.derivation.Step.{Step}
use Rattle.sc_deriv.specs.declared.derivation.Step.TheVariants.{Plain}
use Rattle.sc_deriv.specs.Acceptance.{step_branches}
use Rattle.sc_deriv.specs.Spelling.{plain_count, step_count}

one-count : (o : Option Fact) (bs : List (List Fact)) → one o ≡ Some bs → length bs ≡ 1
one-count None bs e = absurd cc
one-count (Some fact) bs e = let same : (fact ∷ []) ∷ [] ≡ bs = cc in subst (λ xs. length xs ≡ 1) same refl

cut-count : (b : Bool) (plus minus : List Fact) (bs : List (List Fact)) → (if b then Some (plus ∷ minus ∷ []) else None) ≡ Some bs → length bs ≡ 2
cut-count false plus minus bs e = absurd cc
cut-count true plus minus bs e = let same : plus ∷ minus ∷ [] ≡ bs = cc in subst (λ xs. length xs ≡ 2) same refl

fork-count : (o : Option ℕ) (first second : ℕ → List Fact) (bs : List (List Fact)) → (o >>= λ d. Some (first d ∷ second d ∷ [])) ≡ Some bs → length bs ≡ 2
fork-count None first second bs e = absurd cc
fork-count (Some d) first second bs e = let same : first d ∷ second d ∷ [] ≡ bs = cc in subst (λ xs. length xs ≡ 2) same refl

plain-count : (problem : Parts) (path : List Fact) (step : PlainStep) (bs : List (List Fact)) → branches problem path step ≡ Some bs → length bs ≡ plain_count step
plain-count problem path (steps.Cut name) bs e = cut-count (names_fact problem name) (named name true ∷ []) (named name false ∷ []) bs e
plain-count problem path (steps.Differ s t) bs e =
    fork-count (differing problem path s t) (λ d. tells_apart d (ordered s t) true) (λ d. tells_apart d (ordered s t) false) bs e
plain-count problem path (steps.Atom n) bs e = one-count _ bs e
plain-count problem path (steps.All n p) bs e = one-count _ bs e
plain-count problem path (steps.Unit n p) bs e = one-count _ bs e
plain-count problem path (steps.Op x s p) bs e = one-count _ bs e
plain-count problem path (steps.Single x s) bs e = one-count _ bs e
plain-count problem path (steps.Unsingle x s) bs e = one-count _ bs e
plain-count problem path (steps.Carry x y s) bs e = one-count _ bs e
plain-count problem path (steps.Apart x y s) bs e = one-count _ bs e
plain-count problem path (steps.Move x s t) bs e = one-count _ bs e
plain-count problem path (steps.SetApart x s t) bs e = one-count _ bs e
plain-count problem path (steps.EqRefl x) bs e = one-count _ bs e
plain-count problem path (steps.EqStep x y z) bs e = one-count _ bs e
plain-count problem path (steps.SeqRefl s) bs e = one-count _ bs e
plain-count problem path (steps.SeqStep s t u) bs e = one-count _ bs e

pub count_of_branches : (problem : Parts) (path : List Fact) (step : Step) (bs : List (List Fact)) → step_branches problem path step ≡ Some bs → length bs ≡ step_count step
count_of_branches problem path (Plain step) bs e = plain-count problem path step bs e

-- no step has no branch, or three
pub some_branch : (step : Step) → 0 ≡ step_count step → ⊥
some_branch (Plain (steps.Cut name)) e = omega (arith, e)
some_branch (Plain (steps.Differ s t)) e = omega (arith, e)
some_branch (Plain _) e = omega (arith, e)

pub at_most_two : (step : Step) (n : ℕ) → suc (suc (suc n)) ≡ step_count step → ⊥
at_most_two (Plain (steps.Cut name)) n e = omega (arith, e)
at_most_two (Plain (steps.Differ s t)) n e = omega (arith, e)
at_most_two (Plain _) n e = omega (arith, e)
