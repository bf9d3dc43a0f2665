-- What holds of every path and of every history.
use Rattle.std.specs.Prelude.{◌≡◌, ◌≢◌, ℕ, Bool, true, false, List, [], ◌∷◌, ◌++◌, Some, None}
use Rattle.std.specs.List.{AllByRecursion}
use Rattle.sc_base.specs.Numbered.{item_at}
use Rattle.sc_terms.specs.declared.problem.Parts.{Parts}
use Rattle.sc_terms.specs.Values.{ValueMap, Shows}
use Rattle.sc_facts.specs.declared.fact.Fact.{Fact}
use Rattle.sc_facts.specs.Facts.{root_facts}
use Rattle.sc_deriv.specs.declared.derivation.Taken.{Taken}
use Rattle.sc_tree.specs.declared.machine.Mark.TheVariants as marks
use Rattle.sc_tree.specs.declared.machine.Event.{Event}
use Rattle.sc_tree.specs.declared.machine.Event.TheVariants as events
use Rattle.sc_tree.specs.declared.machine.Entry.{Entry}
use Rattle.sc_deriv.specs.Taking.{path_after}
use Rattle.sc_tree.specs.Lean.{brings_more, Lean}
use Rattle.sc_facts.specs.Paths.{PathFacts}
use Rattle.sc_deriv.specs.declared.derivation.Step.{Step}
use Rattle.sc_tree.specs.declared.machine.Reply.TheVariants as replies
use Rattle.sc_tree.specs.Chains.{taken, firsts, grow}
use Rattle.sc_tree.specs.Events.{AllowsOn}
use Rattle.sc_tree.specs.Answering.{Answers}
use Rattle.sc_tree.specs.Machine.{Kept, state, HoldsNone, Cell, kept, state_of, HasLeaf, IsLegal, MayAsk}
use Rattle.sc_tree.specs.Trying.{AreTried}
use Rattle.sc_tree.specs.Reading.{is_ended, tree_nodes}
use Rattle.sc_deriv.specs.declared.derivation.Node.{Node}
use Rattle.sc_deriv.specs.Acceptance.{step_branches, Closed}
use Rattle.sc_deriv.specs.Spelling.{IsTree, are_nodes}

-- after lean steps a step of one branch that brings something new is lean
abbrev pub StepsAreLean : Type 0
StepsAreLean =
    (problem : Parts) (steps : List Taken) (path : List Fact) (step : Step) (bs : List Fact) →
    Lean problem steps → path_after problem steps ≡ Some path →
    step_branches problem path step ≡ Some (bs ∷ []) → brings_more path bs ≡ true → Lean problem (steps ++ taken step 1 ∷ [])

-- after lean steps a step of two branches that brings something new in each is lean with either
abbrev pub SplitsAreLean : Type 0
SplitsAreLean =
    (problem : Parts) (steps : List Taken) (path : List Fact) (step : Step) (first second : List Fact) →
    Lean problem steps → path_after problem steps ≡ Some path →
    step_branches problem path step ≡ Some (first ∷ second ∷ []) → brings_more path first ≡ true → brings_more path second ≡ true →
    Lean problem (steps ++ taken step 1 ∷ []) × Lean problem (steps ++ taken step 2 ∷ [])

-- no entry is of the seat
abbrev pub Lacks : ℕ → List Entry → Type 0
Lacks seat journal = AllByRecursion (λ (e : Entry). e.seat ≢ seat) journal

-- what a seat may ask, it may ask whatever others did since
abbrev pub TicketsStay : Type 0
TicketsStay =
    (problem : Parts) (budget seat : ℕ) (journal between : List Entry) (event : Event) → Lacks seat between →
    MayAsk (kept problem budget journal) seat event → MayAsk (kept problem budget (journal ++ between)) seat event

-- whatever others do, a leaf that a seat holds keeps its mark, its path and its steps
abbrev pub LeavesStay : Type 0
LeavesStay =
    (problem : Parts) (seat n : ℕ) (journal between : List Entry) (c : Cell) → Lacks seat between →
    item_at (state_of problem journal).cells n ≡ Some c → c.mark ≡ marks.Held seat → item_at (state_of problem (journal ++ between)).cells n ≡ Some c

-- in a legal history each leaf is as it should be
abbrev pub LeavesAreTried : Type 0
LeavesAreTried =
    (problem : Parts) (budget : ℕ) (journal : List Entry) → IsLegal problem budget journal → AreTried problem budget (state_of problem journal).cells

-- the model of a legal history makes the roots true
abbrev pub ModelsShow : Type 0
ModelsShow =
    (problem : Parts) (budget : ℕ) (journal : List Entry) → IsLegal problem budget journal →
    (values : ValueMap) → (state_of problem journal).model ≡ Some values → Shows problem values

-- the tree of a legal history of which each leaf is closed is closed on the root path
abbrev pub ClosedLeavesClose : Type 0
ClosedLeavesClose =
    (problem : Parts) (budget : ℕ) (journal : List Entry) → IsLegal problem budget journal →
    ((n : ℕ) (c : Cell) → item_at (state_of problem journal).cells n ≡ Some c → is_ended c.mark ≡ true) →
    Closed problem [] (root_facts problem.roots) (tree_nodes (kept problem budget journal))

-- a closed tree on the root path is a whole tree, and each name of its cuts and clashes is a fact's
abbrev pub ClosedAreTrees : Type 0
ClosedAreTrees = (problem : Parts) (lists : List (List Fact)) (nodes : List Node) → Closed problem lists (root_facts problem.roots) nodes → IsTree nodes

abbrev pub ClosedAreNamed : Type 0
ClosedAreNamed = (problem : Parts) (lists : List (List Fact)) (nodes : List Node) → Closed problem lists (root_facts problem.roots) nodes → are_nodes nodes ≡ true

-- the seat holds leaf n, which has this path and these steps
pub record HoldsLeaf (t : Kept) (seat n : ℕ) (path : List Fact) (steps : List Taken) : Type 0 where
  pub cell : Cell
  pub is : item_at (state t).cells n ≡ Some cell
  pub held : cell.mark ≡ marks.Held seat
  pub path_is : cell.path ≡ path
  pub steps_are : cell.steps ≡ steps

-- a seat holds at most one leaf
abbrev pub SeatsHoldOne : Type 0
SeatsHoldOne =
    (problem : Parts) (budget : ℕ) (journal : List Entry) → IsLegal problem budget journal →
    (seat m n : ℕ) → HasLeaf (state_of problem journal).cells seat m → HasLeaf (state_of problem journal).cells seat n → m ≡ n

-- at first no seat holds a leaf
abbrev pub RootsHoldNone : Type 0
RootsHoldNone = (problem : Parts) (budget seat : ℕ) → HoldsNone (state (kept problem budget [])).cells seat

-- a seat that was handed a leaf holds it
abbrev pub TakesHold : Type 0
TakesHold =
    (old new : Kept) (seat n : ℕ) (path : PathFacts) (steps : List Taken) →
    Answers old seat events.Take (replies.Leaf n path steps) new → HoldsLeaf new seat n path.facts steps

-- a leaf that goes on is still held, with the path and the steps that it has then
abbrev pub GrowsHold : Type 0
GrowsHold =
    (old new : Kept) (seat n : ℕ) (path : List Fact) (steps : List Taken) (chain : List Step) (more : List Fact) → IsLegal old.problem old.budget old.journal →
    HoldsLeaf old seat n path steps → Answers old seat (events.Grow chain) replies.Done new → grow old.problem path chain ≡ Some more →
    HoldsLeaf new seat n more (steps ++ firsts chain)

-- what a leaf allows, the seat that holds it may ask
abbrev pub AllowedMayBeAsked : Type 0
AllowedMayBeAsked =
    (t : Kept) (seat n : ℕ) (path : List Fact) (steps : List Taken) (event : Event) →
    HoldsLeaf t seat n path steps → AllowsOn t.problem t.budget path steps event → MayAsk t seat event

abbrev pub is_grow : Event → Bool
is_grow (events.Grow chain) = true
is_grow _ = false

-- where something else was done at its leaf a seat holds none
abbrev pub DoneHoldNone : Type 0
DoneHoldNone =
    (old new : Kept) (seat : ℕ) (event : Event) → IsLegal old.problem old.budget old.journal → is_grow event ≡ false →
    Answers old seat event replies.Done new → HoldsNone (state new).cells seat

-- and so where it was told that all is over
abbrev pub OverHoldNone : Type 0
OverHoldNone =
    (old new : Kept) (seat : ℕ) (event : Event) → IsLegal old.problem old.budget old.journal →
    Answers old seat event replies.Over new → HoldsNone (state new).cells seat
