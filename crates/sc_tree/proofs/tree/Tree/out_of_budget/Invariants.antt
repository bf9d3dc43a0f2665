use Rattle.std.proofs.Common.{◌<◌, ◌+◌, ℕ}
use Rattle.sc_tree.specs.Verdicts.{IsOutAt}
use Rattle.sc_tree.proofs.tree.Tree.out_of_budget.Given as goal

-- no leaf up to this number
abbrev pub invariant-loop-before : goal.invariant-loop-before
invariant-loop-before l = (n : ℕ) → n < l.before + 1 → IsOutAt l.self n → ⊥
