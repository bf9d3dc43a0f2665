-- What the machine answers.
use Rattle.std.specs.Prelude.{◌≡◌, ◌≢◌, ℕ, Bool, true, false, List, Some}
use Rattle.sc_base.specs.Numbered.{item_at}
use Rattle.sc_facts.specs.Paths.{PathFacts}
use Rattle.sc_deriv.specs.declared.derivation.Taken.{Taken}
use Rattle.sc_tree.specs.declared.machine.Mark.TheVariants as marks
use Rattle.sc_tree.specs.declared.machine.Event.{Event}
use Rattle.sc_tree.specs.declared.machine.Event.TheVariants as events
use Rattle.sc_tree.specs.declared.machine.Reply.{Reply}
use Rattle.sc_tree.specs.declared.machine.Reply.TheVariants as replies
use Rattle.sc_tree.specs.declared.machine.Entry.{Entry}
use Rattle.sc_tree.specs.Machine.{Cell, Kept, with_entry, entry, state, has_answer, NoneOpen, IsStep}

-- the tree has one more entry, which the machine may make
pub record Adds (old : Kept) (e : Entry) (new : Kept) : Type 0 where
  pub step : IsStep old.problem old.budget (state old) e
  pub new_is : new ≡ with_entry old e

-- the leaf with this number is open, and has this path and these steps
pub record IsOpenLeaf (t : Kept) (n : ℕ) (path : PathFacts) (steps : List Taken) : Type 0 where
  pub cell : Cell
  pub is : item_at (state t).cells n ≡ Some cell
  pub was : cell.mark ≡ marks.Open
  pub roots : path.roots ≡ t.problem.roots
  pub facts : path.facts ≡ cell.path
  pub taken : steps ≡ cell.steps

-- what was asked brings nothing that has to be kept in new room: its seat holds a leaf, which it gives up
abbrev pub takes_no_room : Event → Bool
takes_no_room (events.Spend cause) = true
takes_no_room (events.Found values) = true
takes_no_room _ = false

-- What a seat is answered, and what becomes of the tree. A leaf that is taken was open; what is asked at a leaf is done at the one that the seat holds; where no leaf is open nothing changes; where there is an answer, the seat gives back the leaf that it holds, if any.
abbrev pub Answers : Kept → ℕ → Event → Reply → Kept → Type 0
Answers old seat event (replies.Leaf n path steps) new = (event ≡ events.Take) × IsOpenLeaf old n path steps × Adds old (entry seat n events.Take false) new
Answers old seat event replies.Done new = (event ≢ events.Take) × (n : ℕ) × Adds old (entry seat n event false) new
Answers old seat event replies.Idle new = (event ≡ events.Take) × NoneOpen (state old).cells × (has_answer (state old) ≡ false) × (new ≡ old)
Answers old seat event replies.Over new = (n : ℕ) × Adds old (entry seat n event true) new
