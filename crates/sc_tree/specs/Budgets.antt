-- How long is worked on a check.
use Rattle.std.specs.Prelude.{◌^◌, ◌≤◌, ⊤}
use Rattle.sc_tree.specs.declared.budget.Budget.{Budget}
use Rattle.sc_tree.specs.declared.budget.Budget.TheVariants.{Steps, Full}

-- a number of steps is 1 to 2^40
abbrev pub IsBudget : Budget → Type 0
IsBudget (Steps n) = (1 ≤ n) × (n ≤ 2 ^ 40)
IsBudget Full = ⊤
