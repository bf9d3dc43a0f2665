-- The keys of steps, and which paths are lean: no step says again what the path says, nor what a step of the same key said.
use Rattle.std.specs.Prelude.{◌≡◌, ◌≢◌, ℕ, ◌≤◌, Bool, true, not, List, [], ◌∷◌, ◌++◌, length, Option, Some, None, ⊤}
use Rattle.std.specs.List.{list_all, AllByRecursion}
use Rattle.sc_terms.specs.declared.problem.Parts.{Parts}
use Rattle.sc_facts.specs.declared.fact.Fact.{Fact}
use Rattle.sc_facts.specs.declared.fact.Fact.TheVariants as facts
use Rattle.sc_facts.specs.Facts.{has, root_facts}
use Rattle.sc_rules.specs.declared.step.PlainStep.TheVariants as plain
use Rattle.sc_rules.specs.Pairs.{ordered}
use Rattle.sc_deriv.specs.declared.derivation.Step.{Step}
use Rattle.sc_deriv.specs.declared.derivation.Step.TheVariants as steps
use Rattle.sc_deriv.specs.declared.derivation.Taken.{Taken}
use Rattle.sc_deriv.specs.Taking.{concluded}

-- What tells a step of a path from the others: the fact that it brings, or the step itself, with its pair in order.
pub data Key : Type 0 where
  Brings : Fact → Key
  Says : Step → Key

-- the step with its pair in order, where what it says does not depend on the pair's order
abbrev pub with_ordered_pair : Step → Step
with_ordered_pair (steps.Plain (plain.Atom n)) = steps.Plain (plain.Atom n)
with_ordered_pair (steps.Plain (plain.All n p)) = steps.Plain (plain.All n p)
with_ordered_pair (steps.Plain (plain.Unit n p)) = steps.Plain (plain.Unit n p)
with_ordered_pair (steps.Plain (plain.Cut name)) = steps.Plain (plain.Cut name)
with_ordered_pair (steps.Plain (plain.Op e s p)) = steps.Plain (plain.Op e s p)
with_ordered_pair (steps.Plain (plain.Single e s)) = steps.Plain (plain.Single e s)
with_ordered_pair (steps.Plain (plain.Unsingle e s)) = steps.Plain (plain.Unsingle e s)
with_ordered_pair (steps.Plain (plain.Carry e f s)) = steps.Plain (plain.Carry e f s)
with_ordered_pair (steps.Plain (plain.Apart e f s)) = steps.Plain (plain.Apart e f s)
with_ordered_pair (steps.Plain (plain.Move e s t)) = steps.Plain (plain.Move e s t)
with_ordered_pair (steps.Plain (plain.SetApart e s t)) = steps.Plain (plain.SetApart e s t)
with_ordered_pair (steps.Plain (plain.EqRefl e)) = steps.Plain (plain.EqRefl e)
with_ordered_pair (steps.Plain (plain.EqStep e f g)) = steps.Plain (plain.EqStep e f g)
with_ordered_pair (steps.Plain (plain.SeqRefl s)) = steps.Plain (plain.SeqRefl s)
with_ordered_pair (steps.Plain (plain.SeqStep s t u)) = steps.Plain (plain.SeqStep s t u)
with_ordered_pair (steps.Plain (plain.Differ s t)) = steps.Plain (plain.Differ (ordered s t).0 (ordered s t).1)

-- a row is told by its step
abbrev pub fact_key : Step → Fact → Key
fact_key step (facts.Row row) = Says (with_ordered_pair step)
fact_key step fact = Brings fact

-- the key of a step that brings these facts: where it brings one fact, which is no row, that fact
abbrev pub key : Step → List Fact → Key
key step (fact ∷ []) = fact_key step fact
key step _ = Says (with_ordered_pair step)

-- some fact is not on the path
abbrev pub brings_more : List Fact → List Fact → Bool
brings_more path brought = not (list_all (has path) brought)

-- on a path on which steps with these keys were taken a step brings these facts: some fact is new, and so is the key
pub record IsLeanStep (path : List Fact) (keys : List Key) (step : Step) (bs : List Fact) : Type 0 where
  pub more : brings_more path bs ≡ true
  pub apart : AllByRecursion (λ k. k ≢ key step bs) keys

-- the step applies and is lean, and so is what comes later
abbrev pub IsLeanOn : List Fact → List Key → Step → Option (List Fact) → (List Fact → List Key → Type 0) → Type 0
IsLeanOn path keys step None later = ⊥
IsLeanOn path keys step (Some bs) later = IsLeanStep path keys step bs × later (path ++ bs) (key step bs ∷ keys)

-- the steps go on leanly from a path on which steps with these keys were taken
abbrev pub LeanFrom : Parts → List Fact → List Key → List Taken → Type 0
LeanFrom problem path keys [] = ⊤
LeanFrom problem path keys (t ∷ ts) = IsLeanOn path keys t.step (concluded problem path t) (λ p ks. LeanFrom problem p ks ts)

-- from the root path on each step applies and is lean
abbrev pub Lean : Parts → List Taken → Type 0
Lean problem steps = LeanFrom problem (root_facts problem.roots) [] steps

-- and there are no more steps than the budget allows
pub record IsWithin (problem : Parts) (budget : ℕ) (steps : List Taken) : Type 0 where
  pub lean : Lean problem steps
  pub few : length steps ≤ budget
