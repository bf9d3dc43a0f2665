-- What a step that was tried says.
use Rattle.std.proofs.Common.{◌≡◌, Bool, true, false, not, List, [], ◌∷◌, ◌++◌, Option, Some, None, refl, sym, subst}
use Rattle.std.specs.Prelude.{is_some, MatchOption}
use Rattle.std.specs.List.{AllByRecursion}
use Rattle.std.proofs.lemmas.Bool.{false≢true}
use Rattle.sc_terms.specs.declared.problem.Parts.{Parts}
use Rattle.sc_facts.specs.declared.fact.Fact.{Fact}
use Rattle.sc_facts.specs.Facts.{has}
use Rattle.sc_rules.specs.declared.step.PlainStep.{PlainStep}
use Rattle.sc_rules.specs.Steps.{branches}
use Rattle.sc_member.specs.Memberships.{Carries, Forces, IsIdle}
use Rattle.sc_member.specs.Candidates.{brings}

not_false : (b : Bool) → not b ≡ false → b ≡ true
not_false true e = refl
not_false false e = absurd (false≢true (sym e))

not_true : (b : Bool) → not b ≡ true → b ≡ false
not_true false e = refl
not_true true e = absurd (false≢true e)

module _ (problem : Parts) (path : List Fact) (step : PlainStep) where
  pub is_idle : brings path (branches problem path step) ≡ false → IsIdle problem path step
  is_idle e fact is = not_false (has path fact) (subst (λ bs. brings path bs ≡ false) is e)

  pub is_forced : Carries step → brings path (branches problem path step) ≡ true → Forces problem path step
  is_forced kind e = by (branches problem path step) refl e
    where
      by : (bs : Option (List (List Fact))) → branches problem path step ≡ bs → brings path bs ≡ true → Forces problem path step
      by None is g = absurd (false≢true g)
      by (Some []) is g = absurd (false≢true g)
      by (Some ([] ∷ others)) is g = absurd (false≢true g)
      by (Some ((fact ∷ []) ∷ [])) is g = record { kind = kind; fact = fact; concludes = is; fresh = not_true (has path fact) g }
      by (Some ((fact ∷ []) ∷ other ∷ others)) is g = absurd (false≢true g)
      by (Some ((fact ∷ more ∷ facts) ∷ others)) is g = absurd (false≢true g)

module _ {X : Type 0} (P : X → Type 0) where
  pub all_front : (xs : List X) (x : X) → AllByRecursion P (xs ++ x ∷ []) → AllByRecursion P xs
  all_front [] x h = tt
  all_front (y ∷ xs) x h = (h.0, all_front xs x h.1)

  pub all_last : (xs : List X) (x : X) → AllByRecursion P (xs ++ x ∷ []) → P x
  all_last [] x h = h.0
  all_last (y ∷ xs) x h = all_last xs x h.1

  pub all_more : (xs : List X) (x : X) → AllByRecursion P xs → P x → AllByRecursion P (xs ++ x ∷ [])
  all_more [] x h p = (p, tt)
  all_more (y ∷ xs) x h p = (h.0, all_more xs x h.1 p)

-- ---- what is found
pub kept_some : {X : Type 0} (A B : Type 0) (P : X → Type 0) (o : Option X) → is_some o ≡ true → MatchOption o A P → MatchOption o B P
kept_some A B P None e h = absurd (false≢true e)
kept_some A B P (Some x) e h = h

pub kept_none : {X A : Type 0} (P : X → Type 0) (o : Option X) → is_some o ≡ false → MatchOption o A P → A
kept_none P None e h = h
kept_none P (Some x) e h = absurd (false≢true (sym e))
