-- Set terms and facts that are gone through one after another.
use Rattle.std.proofs.Common.{◌≡◌, ℕ, zero, suc, ◌+◌, ◌<◌, ◌≤◌, List, [], ◌∷◌, length, drop, get_or, Option, Some, None, Result, Ok, Err, ◌⊎◌, inl, inr, refl, sym, ap, subst, ◌∙◌, arith}
use Rattle.std.specs.Prelude.{IfOk, MatchOption}
use Rattle.std.specs.List.{AllByRecursion}
use Rattle.sc_terms.specs.declared.memory.Memory.{Memory}
use Rattle.sc_terms.specs.declared.nodes.SetTerm.{SetTerm}
use Rattle.sc_terms.specs.declared.problem.Parts.{Parts}
use Rattle.sc_terms.specs.Lookup.{set_at}
use Rattle.sc_terms.proofs.Ranges.{item_in}
use Rattle.sc_facts.specs.declared.fact.Fact.{Fact}
use Rattle.sc_rules.specs.declared.step.PlainStep.{PlainStep}
use Rattle.sc_member.specs.Memberships.{equations, Forces, Finds}
use Rattle.sc_member.specs.Notes.{AreNoted, HasPartners}
use Rattle.sc_member.specs.Candidates.{Around, AllIdle, SetIdle, SetsIdle, FactsIdle, NothingAfter, fact_steps, set_steps}
use Rattle.sc_member.proofs.Complete.{nothing_forced}

-- past the last set term there is nothing
module _ (problem : Parts) (path : List Fact) (first last : ℕ) where
  pub sets_all : length problem.sets ≤ last → ((n : ℕ) → first < n → n ≤ last → SetIdle problem path n) → SetsIdle problem path first
  unfolding SetsIdle
  sets_all ends so_far n after = elim (split n last) [
    | inl within ↦ so_far n after within
    | inr past ↦ beyond (set_at problem n) refl past
  ]
    where
      split : (m k : ℕ) → (m ≤ k) ⊎ (k < m)
      split m k = grind arith

      beyond : (o : Option SetTerm) → set_at problem n ≡ o → last < n → SetIdle problem path n
      beyond None at past = subst (λ x. AllIdle problem path (set_steps problem n x)) (sym at) tt
      beyond (Some node) at past = let inside = item_in problem.sets n node at in absurd (omega (arith, inside.1, past, ends))

module _ (problem : Parts) (path : List Fact) (around : Around) where
  next_first : (fs : List Fact) (i : ℕ) (fact : Fact) → i < length fs → drop i fs ≡ get_or fs i fact ∷ drop (suc i) fs
  next_first [] i fact h = absurd (omega (arith, h))
  next_first (f ∷ fs) zero fact h = refl
  next_first (f ∷ fs) (suc i) fact h = next_first fs i fact (omega (arith, h))

  pub facts_next : (fs : List Fact) (i : ℕ) (fact : Fact) → i < length fs → fact ≡ get_or fs i fact → AllIdle problem path (fact_steps around fact) → FactsIdle problem path around (drop (i + 1) fs) → FactsIdle problem path around (drop i fs)
  unfolding FactsIdle
  facts_next fs i fact h is idle rest =
      let on : i + 1 ≡ suc i = omega arith in
      subst (AllByRecursion (λ f. AllIdle problem path (fact_steps around f))) (sym (next_first fs i fact h))
      (subst (λ f. AllIdle problem path (fact_steps around f)) is idle, subst (λ k. AllByRecursion (λ f. AllIdle problem path (fact_steps around f)) (drop k fs)) on rest)

  pub facts_past : (fs : List Fact) (i : ℕ) → length fs ≤ i → FactsIdle problem path around (drop i fs)
  unfolding FactsIdle
  facts_past [] zero h = tt
  facts_past [] (suc i) h = tt
  facts_past (f ∷ fs) zero h = absurd (omega (arith, h))
  facts_past (f ∷ fs) (suc i) h = facts_past fs i (omega (arith, h))

-- once everything was gone through
module _ (problem about : Parts) (facts path : List Fact) (around : Around) (set place : ℕ) (same_problem : problem ≡ about) (same_facts : facts ≡ path) (indexed : AreNoted about around.parents around.singles) (partnered : HasPartners path around.partners) (paired : around.pairs ≡ equations facts) (first_set : set ≡ 0) (first_place : place ≡ 0) where
  from_start : NothingAfter problem path around set place → NothingAfter problem path around 0 0
  from_start h = subst (λ n. NothingAfter problem path around 0 n) first_place (subst (λ n. NothingAfter problem path around n place) first_set h)

  finds : (found : Option PlainStep) → MatchOption found (NothingAfter problem path around set place) (Forces problem path) → Finds problem facts found
  finds None h =
      subst (λ fs. Finds problem fs None) (sym same_facts)
      (nothing_forced problem path around (subst (λ q. AreNoted q around.parents around.singles) (sym same_problem) indexed) partnered (paired ∙ ap equations same_facts) (from_start h))
  finds (Some step) h = subst (λ fs. Finds problem fs (Some step)) (sym same_facts) h

  pub finds_all : (result : Result (Option PlainStep) Memory) → IfOk result (λ found. MatchOption found (NothingAfter problem path around set place) (Forces problem path)) → IfOk result (λ found. Finds problem facts found)
  finds_all (Ok found) h = finds found h
  finds_all (Err e) h = tt
