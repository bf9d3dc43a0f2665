-- When a verdict is just.
use Rattle.std.specs.Prelude.{◌≡◌, ℕ, true, false, List, [], length, Option, Some, None}
use Rattle.sc_base.specs.Numbered.{item_at}
use Rattle.sc_terms.specs.declared.problem.Parts.{Parts}
use Rattle.sc_terms.specs.Values.{Shows, IsUnsatisfiable}
use Rattle.sc_facts.specs.Facts.{root_facts}
use Rattle.sc_deriv.specs.declared.derivation.Derivation.{Derivation}
use Rattle.sc_deriv.specs.Acceptance.{Closed, hypotheses_of}
use Rattle.sc_deriv.specs.Spelling.{IsSpelt}
use Rattle.sc_tree.specs.declared.machine.Cause.{Cause}
use Rattle.sc_tree.specs.declared.machine.Mark.TheVariants as marks
use Rattle.sc_tree.specs.declared.verdict.Verdict.{Verdict}
use Rattle.sc_tree.specs.declared.verdict.Verdict.TheVariants.{Sat, Unsat, Unknown}
use Rattle.sc_tree.specs.Machine.{Cell, Kept, state, has_answer, HasMark, is_live, IsLegal}
use Rattle.sc_tree.specs.Trying.{AreTried}
use Rattle.sc_tree.specs.Reading.{tree_nodes}

-- The derivation can be written down, its tree is closed on the problem's root path, and no interpretation makes the roots true.
pub record Refutes (problem : Parts) (d : Derivation) : Type 0 where
  pub spelt : IsSpelt d
  pub closed : Closed problem (hypotheses_of d.lemmas) (root_facts problem.roots) d.nodes
  pub none : IsUnsatisfiable problem

-- no leaf is open or held
abbrev pub NoneLive : List Cell → Type 0
NoneLive cells = (n : ℕ) (c : Cell) → item_at cells n ≡ Some c → is_live c.mark ≡ false

-- some leaf was given up
abbrev pub SomeSpent : List Cell → Type 0
SomeSpent cells = (n : ℕ) × (cause : Cause) × HasMark cells n (marks.Spent cause)

-- The tree is the problem's, with this budget, by a legal history. Each leaf was closed or given up, one of them at least given up; from the root path on each step applies, each closing holds, and each leaf that was given up has a lean path, a cause, and no clash.
pub record IsUnknown (problem : Parts) (budget : ℕ) (t : Kept) : Type 0 where
  pub about : t.problem ≡ problem
  pub limit : t.budget ≡ budget
  pub legal : IsLegal problem budget t.journal
  pub ended : NoneLive (state t).cells
  pub spent : SomeSpent (state t).cells
  pub tried : AreTried problem budget (state t).cells

-- the verdict is right for the problem, where a branch may have so many steps
unfoldable pub IsJust : Parts → ℕ → Verdict → Type 0
IsJust problem budget (Sat m) = Shows problem m
IsJust problem budget (Unsat d) = Refutes problem d
IsJust problem budget (Unknown t) = IsUnknown problem budget t

-- What is said of a tree: nothing exactly where a leaf is open or held and there is no model; else its model, where there is one; else its nodes, where none of its leaves was given up; else the tree itself.
abbrev pub IsVerdictOf : Kept → Option Verdict → Type 0
IsVerdictOf t None = has_answer (state t) ≡ false
IsVerdictOf t (Some (Sat m)) = (state t).model ≡ Some m
IsVerdictOf t (Some (Unsat d)) = ((state t).model ≡ None) × (has_answer (state t) ≡ true) × (SomeSpent (state t).cells → ⊥) × (d.lemmas ≡ []) × (d.nodes ≡ tree_nodes t)
IsVerdictOf t (Some (Unknown u)) = ((state t).model ≡ None) × (has_answer (state t) ≡ true) × SomeSpent (state t).cells × (u ≡ t)

-- the leaf with this number was given up on a path with as many steps as the budget allows
abbrev pub IsOutAt : Kept → ℕ → Type 0
IsOutAt t n = (c : Cell) × (cause : Cause) × (item_at (state t).cells n ≡ Some c) × (c.mark ≡ marks.Spent cause) × (length c.steps ≡ t.budget)

-- some leaf was
abbrev pub IsOutOfBudget : Kept → Type 0
IsOutOfBudget t = (n : ℕ) × IsOutAt t n
