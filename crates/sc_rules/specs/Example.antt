-- A small problem for tests, with a set term of each kind and sets of two sorts: an element is to be in a set, and not in its union with another.
use Rattle.std.specs.Prelude.{[], ◌∷◌}
use Rattle.sc_terms.specs.declared.nodes.Element.TheVariants as elements
use Rattle.sc_terms.specs.declared.nodes.Formula.TheVariants as formulas
use Rattle.sc_terms.specs.declared.nodes.SetTerm.TheVariants as sets
use Rattle.sc_terms.specs.declared.nodes.Sort.TheVariants as kinds
use Rattle.sc_terms.specs.declared.problem.Parts.{Parts}
use Rattle.sc_terms.specs.Conditions.{IsProblem}

abbrev pub example : Parts
example =
    record {
      roots = 1 ∷ 5 ∷ [];
      assertions = 31 ∷ 35 ∷ [];
      formulas = formulas.Member 1 1 ∷ formulas.Member 1 3 ∷ formulas.Eq 2 1 ∷ formulas.EqSet 2 1 ∷ formulas.Not 2 ∷ [];
      sets = sets.Const 11 (kinds.SetNamed 1) ∷ sets.Const 12 (kinds.SetNamed 1) ∷ sets.Union 1 2 ∷ sets.Inter 1 2 ∷ sets.Minus 1 2 ∷ sets.Single 1 ∷ sets.Empty (kinds.SetNamed 1) ∷ sets.Const 13 (kinds.SetNamed 2) ∷ [];
      elements = elements.Const 21 (kinds.Named 1) ∷ elements.Const 22 (kinds.Named 1) ∷ elements.Const 23 (kinds.Named 1) ∷ elements.Const 24 (kinds.Named 2) ∷ elements.Diff 1 2 ∷ [];
      ints = [];
      components = (1 ∷ 2 ∷ 3 ∷ 4 ∷ 5 ∷ []) ∷ (6 ∷ []) ∷ (8 ∷ []) ∷ [];
      bases = (1 ∷ 2 ∷ []) ∷ (6 ∷ []) ∷ (8 ∷ []) ∷ [];
    }

abbrev pub ExampleIsProblem : Type 0
ExampleIsProblem = IsProblem example
