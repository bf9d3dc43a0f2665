-- What one seat holds of a tree.
use Rattle.std.specs.Prelude.{◌≡◌, ℕ, ◌<◌, Bool, true, false, length, Some, MatchBool}
use Rattle.sc_base.specs.Numbered.{item_at}
use Rattle.sc_terms.specs.declared.problem.Parts.{Parts}
use Rattle.sc_tree.specs.declared.machine.Mark.TheVariants as marks
use Rattle.sc_tree.specs.declared.machine.Event.{Event}
use Rattle.sc_tree.specs.declared.machine.Event.TheVariants as events
use Rattle.sc_tree.specs.declared.machine.Reply.{Reply}
use Rattle.sc_tree.specs.declared.machine.Reply.TheVariants as replies
use Rattle.sc_tree.specs.Machine.{Cell, Kept, state, HasMark}
use Rattle.sc_branch.specs.Growing.{Held, IsOn}

-- the tree is that of the problem, with this budget
pub record IsOf (problem : Parts) (budget : ℕ) (t : Kept) : Type 0 where
  pub about : t.problem ≡ problem
  pub limit : t.budget ≡ budget

-- no leaf is held
abbrev pub IsIdle : Kept → Type 0
IsIdle t = (n other : ℕ) → HasMark (state t).cells n (marks.Held other) → ⊥

-- Seat 1 holds leaf n, with this path and these steps, which are as they should be, and no other leaf is held.
pub record HoldsAt (t : Kept) (n : ℕ) (held : Held) : Type 0 where
  pub cell : Cell
  pub is : item_at (state t).cells n ≡ Some cell
  pub held_by : cell.mark ≡ marks.Held 1
  pub about : held.problem ≡ t.problem
  pub path : cell.path ≡ held.path.facts
  pub steps : cell.steps ≡ held.steps
  pub on : IsOn t.problem t.budget held.path.facts held.steps
  pub only : (m other : ℕ) → HasMark (state t).cells m (marks.Held other) → m ≡ n

abbrev pub IsBusy : Kept → Held → Type 0
IsBusy t held = (n : ℕ) × HoldsAt t n held

-- after one event seat 1 holds the leaf with a longer path, or no leaf is held
abbrev pub IsAsked : Kept → Held → Held → Bool → Type 0
IsAsked t old new still = MatchBool still (IsBusy t new × (length old.steps < length new.steps)) (IsIdle t)

abbrev pub is_growth : Event → Bool
is_growth (events.Grow chain) = true
is_growth _ = false

abbrev pub is_done : Reply → Bool
is_done replies.Done = true
is_done _ = false
