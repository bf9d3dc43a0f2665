-- Problems of memberships of constants and their negations alone, in which each set is a component of its own.
use Rattle.std.specs.Prelude.{◌≡◌, ℕ, zero, suc, ◌+◌, ◌<◌, ◌^◌, List, [], ◌∷◌, length, Option, Some, ⊤}
use Rattle.std.specs.List.{AllByRecursion}
use Rattle.sc_terms.specs.declared.nodes.Element.{Element}
use Rattle.sc_terms.specs.declared.nodes.Element.TheVariants as elements
use Rattle.sc_terms.specs.declared.nodes.SetTerm.{SetTerm}
use Rattle.sc_terms.specs.declared.nodes.SetTerm.TheVariants as sets
use Rattle.sc_terms.specs.declared.nodes.Formula.{Formula}
use Rattle.sc_terms.specs.declared.nodes.Formula.TheVariants as formulas
use Rattle.sc_terms.specs.declared.problem.Parts.{Parts}
use Rattle.sc_terms.specs.Lookup.{formula_at}
use Rattle.sc_terms.specs.Conditions.{IsIn, IsProblem}

abbrev pub IsConstSet : SetTerm → Type 0
IsConstSet (sets.Const c sort) = ⊤
IsConstSet _ = ⊥

abbrev pub IsConstElement : Element → Type 0
IsConstElement (elements.Const c sort) = ⊤
IsConstElement _ = ⊥

abbrev pub IsMembership : Option Formula → Type 0
IsMembership (Some (formulas.Member e s)) = ⊤
IsMembership _ = ⊥

-- a membership whose numbers are there, or the negation of a membership that is there
abbrev pub IsLiteral : Parts → Formula → Type 0
IsLiteral problem (formulas.Member e s) = IsIn (length problem.elements) e × IsIn (length problem.sets) s
IsLiteral problem (formulas.Not f) = IsMembership (formula_at problem f)
IsLiteral problem _ = ⊥

-- n lists of one number each, from k upward
abbrev pub singles_from : ℕ → ℕ → List (List ℕ)
singles_from k zero = []
singles_from k (suc n) = (k ∷ []) ∷ singles_from (k + 1) n

-- Each set is a component of its own.
pub record IsOfLiterals (problem : Parts) : Type 0 where
  pub roots : AllByRecursion (IsIn (length problem.formulas)) problem.roots
  pub assertions : length problem.assertions ≡ length problem.roots
  pub formulas : AllByRecursion (IsLiteral problem) problem.formulas
  pub sets : AllByRecursion IsConstSet problem.sets
  pub elements : AllByRecursion IsConstElement problem.elements
  pub components : problem.components ≡ singles_from 1 (length problem.sets)
  pub bases : problem.bases ≡ singles_from 1 (length problem.sets)
  pub few_formulas : length problem.formulas < 2 ^ 32
  pub few_sets : length problem.sets < 2 ^ 32
  pub few_elements : length problem.elements < 2 ^ 32

-- Such lists are those of a problem.
abbrev pub LiteralsMakeProblem : Type 0
LiteralsMakeProblem = (problem : Parts) → IsOfLiterals problem → IsProblem problem
