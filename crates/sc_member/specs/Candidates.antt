-- The steps on memberships in which a fact or a set term may take part.
use Rattle.std.specs.Prelude.{ℕ, zero, suc, ◌<◌, Bool, false, not, List, [], ◌∷◌, ◌++◌, map, length, drop, Option, Some}
use Rattle.std.specs.List.{flat_map, AllByRecursion}
use Rattle.sc_terms.specs.declared.nodes.SetTerm.{SetTerm}
use Rattle.sc_terms.specs.declared.nodes.SetTerm.TheVariants as sets
use Rattle.sc_terms.specs.declared.problem.Parts.{Parts}
use Rattle.sc_terms.specs.Lookup.{set_at}
use Rattle.sc_facts.specs.declared.fact.Fact.{Fact}
use Rattle.sc_facts.specs.declared.fact.Fact.TheVariants as facts
use Rattle.sc_facts.specs.Facts.{has}
use Rattle.sc_rules.specs.declared.step.PlainStep.{PlainStep}
use Rattle.sc_rules.specs.declared.step.PlainStep.TheVariants as steps
use Rattle.sc_classes.specs.Classes.{neighbours_of}
use Rattle.sc_member.specs.Notes.{noted}
use Rattle.sc_member.specs.Memberships.{IsIdle, Carries}

-- by an operation, at one of its three places
abbrev pub operation_steps : ℕ → ℕ → List PlainStep
operation_steps e n = steps.Op e n 0 ∷ steps.Op e n 1 ∷ steps.Op e n 2 ∷ []

unfoldable pub operations_steps : ℕ → List ℕ → List PlainStep
operations_steps e ns = flat_map (operation_steps e) ns

-- from an element to others
unfoldable pub carry_steps : ℕ → ℕ → List ℕ → List PlainStep
carry_steps e s fs = map (λ f. steps.Carry e f s) fs

-- from a set term to others
unfoldable pub move_steps : ℕ → ℕ → List ℕ → List PlainStep
move_steps e s ts = map (λ t. steps.Move e s t) ts

-- into sets of one element
unfoldable pub single_steps : ℕ → List ℕ → List PlainStep
single_steps e ss = map (λ s. steps.Single e s) ss

-- the first elements, so many, out of a set term
unfoldable pub outside_steps : ℕ → ℕ → List PlainStep
outside_steps n zero = []
outside_steps n (suc k) = outside_steps n k ++ steps.Op (suc k) n 0 ∷ []

-- which set terms have a set term as an argument, which are the set of one element, which are said to equal a set term; and which pairs of elements are said to be equal
pub record Around : Type 0 where
  pub parents : List (List ℕ)
  pub singles : List (List ℕ)
  pub partners : List (List ℕ)
  pub pairs : List (ℕ × ℕ)

-- those in which a fact may take part
abbrev pub fact_steps : Around → Fact → List PlainStep
fact_steps around (facts.Member e s b) = operation_steps e s ++ operations_steps e (noted around.parents s) ++ carry_steps e s (neighbours_of around.pairs e) ++ move_steps e s (noted around.partners s)
fact_steps around (facts.Eq e f b) = single_steps e (noted around.singles f) ++ single_steps f (noted around.singles e)
fact_steps around _ = []

-- those of set term n that need no fact
abbrev pub set_steps : Parts → ℕ → Option SetTerm → List PlainStep
set_steps problem n (Some (sets.Empty sort)) = outside_steps n (length problem.elements)
set_steps problem n _ = []

abbrev pub AllIdle : Parts → List Fact → List PlainStep → Type 0
AllIdle problem path list = AllByRecursion (IsIdle problem path) list

abbrev pub AllCarry : List PlainStep → Type 0
AllCarry list = AllByRecursion Carries list

-- the steps of these facts are idle
unfoldable pub FactsIdle : Parts → List Fact → Around → List Fact → Type 0
FactsIdle problem path around fs = AllByRecursion (λ fact. AllIdle problem path (fact_steps around fact)) fs

-- the steps of set term n are idle
abbrev pub SetIdle : Parts → List Fact → ℕ → Type 0
SetIdle problem path n = AllIdle problem path (set_steps problem n (set_at problem n))

-- the steps of the set terms past this one are idle
unfoldable pub SetsIdle : Parts → List Fact → ℕ → Type 0
SetsIdle problem path first = (n : ℕ) → first < n → SetIdle problem path n

-- nothing is forced by the steps of the set terms past the first so many, nor by those of the facts from a place on
pub record NothingAfter (problem : Parts) (path : List Fact) (around : Around) (set place : ℕ) : Type 0 where
  pub sets_idle : SetsIdle problem path set
  pub facts_idle : FactsIdle problem path around (drop place path)

-- whether these are the branches of a step that concludes one fact, which is not on the path
abbrev pub brings : List Fact → Option (List (List Fact)) → Bool
brings path (Some ((fact ∷ []) ∷ [])) = not (has path fact)
brings path _ = false
