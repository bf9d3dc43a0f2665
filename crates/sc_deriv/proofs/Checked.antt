-- What the judgement of a tree on the root path tells.
use Rattle.std.proofs.Common.{◌≡◌, ℕ, List, [], Result, Ok, Err, IfOk, ◌↔◌, sym, subst, ap, ◌∙◌}
use Rattle.sc_terms.specs.declared.problem.Parts.{Parts}
use Rattle.sc_terms.specs.Values.{IsUnsatisfiable}
use Rattle.sc_terms.specs.Conditions.{IsProblem, MeaningsFit}
use Rattle.sc_facts.specs.declared.fact.Fact.{Fact}
use Rattle.sc_facts.specs.Facts.{root_facts}
use Rattle.sc_deriv.specs.declared.derivation.Node.{Node}
use Rattle.sc_deriv.specs.declared.derivation.Reason.{Reason}
use Rattle.sc_deriv.specs.declared.derivation.Judgement.{Judgement}
use Rattle.sc_deriv.specs.declared.derivation.Judgement.TheVariants.{Accepted, Refused}
use Rattle.sc_deriv.specs.declared.derivation.Lemma.{Lemma}
use Rattle.sc_deriv.specs.Acceptance.{hypotheses_of, Closed, Fails}
use Rattle.sc_deriv.specs.Spelling.{IsTree}
use Rattle.sc_deriv.specs.Judging.{judgement_on}
use Rattle.sc_deriv.specs.Laws.{AcceptsClosedTrees, RefusesFirstFailure, ClosedTreesRefute}
use Rattle.sc_deriv.proofs.Refutes.{unsatisfiable}

-- without lemmas nothing is supposed
pub no_hypotheses : (lemmas : List Lemma) → lemmas ≡ [] → hypotheses_of lemmas ≡ []
unfolding hypotheses_of
no_hypotheses lemmas none = ap hypotheses_of none

module _ {E : Type 0} (problem : Parts) (lists : List (List Fact)) (ns : List Node) where
  pub accepted_if : (r : Result Judgement E) → AcceptsClosedTrees → IfOk r (λ j. j ≡ judgement_on problem lists (root_facts problem.roots) ns) → IfOk r (λ j. (j ≡ Accepted) ↔ Closed problem lists (root_facts problem.roots) ns)
  accepted_if (Ok j) accepts e =
      let law = accepts problem lists (root_facts problem.roots) ns in (λ a. law.0 (sym e ∙ a), λ c. e ∙ law.1 c)
  accepted_if (Err x) accepts e = tt

  pub refused_if : (r : Result Judgement E) → RefusesFirstFailure → IsTree ns → IfOk r (λ j. j ≡ judgement_on problem lists (root_facts problem.roots) ns) → IfOk r (λ j. (n : ℕ) (reason : Reason) → (j ≡ Refused n reason) ↔ Fails problem lists (root_facts problem.roots) ns n reason)
  refused_if (Ok j) refuses tree e =
      λ n reason. let law = refuses problem lists (root_facts problem.roots) ns tree n reason in (λ a. law.0 (sym e ∙ a), λ c. e ∙ law.1 c)
  refused_if (Err x) refuses tree e = tt

  pub sound_if : (r : Result Judgement E) → AcceptsClosedTrees → ClosedTreesRefute → MeaningsFit → IsProblem problem → lists ≡ [] → IfOk r (λ j. j ≡ judgement_on problem lists (root_facts problem.roots) ns) → IfOk r (λ j. j ≡ Accepted → IsUnsatisfiable problem)
  sound_if (Ok j) accepts refute fit is_problem none e =
      λ a. unsatisfiable refute fit problem is_problem ns (subst (λ ls. Closed problem ls (root_facts problem.roots) ns) none ((accepts problem lists (root_facts problem.roots) ns).0 (sym e ∙ a)))
  sound_if (Err x) accepts refute fit is_problem none e = tt
