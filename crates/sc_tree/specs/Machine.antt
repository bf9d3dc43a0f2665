-- The machine: its states, what a seat may ask, and which histories are legal.
use Rattle.std.specs.Prelude.{◌≡◌, ℕ, zero, suc, ◌+◌, Bool, true, false, not, ◌||◌, ◌⊎◌, nat_eq, if◌then◌else◌, MatchBool, List, [], ◌∷◌, ◌++◌, length, Option, Some, None, is_some, slice_set, ⊤}
use Rattle.std.specs.List.{list_any}
use Rattle.sc_base.specs.Numbered.{item_at}
use Rattle.sc_terms.specs.declared.problem.Parts.{Parts}
use Rattle.sc_terms.specs.Values.{ValueMap}
use Rattle.sc_facts.specs.declared.fact.Fact.{Fact}
use Rattle.sc_facts.specs.Facts.{root_facts}
use Rattle.sc_deriv.specs.declared.derivation.Step.{Step}
use Rattle.sc_deriv.specs.declared.derivation.Taken.{Taken}
use Rattle.sc_tree.specs.declared.machine.Mark.{Mark}
use Rattle.sc_tree.specs.declared.machine.Mark.TheVariants as marks
use Rattle.sc_tree.specs.declared.machine.Event.{Event}
use Rattle.sc_tree.specs.declared.machine.Event.TheVariants as events
use Rattle.sc_tree.specs.declared.machine.Entry.{Entry}
use Rattle.sc_deriv.specs.Acceptance.{step_branches}
use Rattle.sc_tree.specs.Chains.{taken, grow, firsts}
use Rattle.sc_tree.specs.Events.{AllowsOn}

-- A leaf, or what was one before it was split: by which branch of which leaf's split it came (0 for the root's), with what path, the steps taken since, the path and all its steps now, and what became of it.
pub record Cell : Type 0 where
  pub parent : ℕ
  pub branch : ℕ
  pub base : List Fact
  pub chain : List Step
  pub path : List Fact
  pub steps : List Taken
  pub mark : Mark

-- the leaves by their numbers, which count from 1, and perhaps a model
pub record State : Type 0 where
  pub cells : List Cell
  pub model : Option ValueMap

-- a tree, as contracts see it
pub record Kept : Type 0 where
  pub problem : Parts
  pub budget : ℕ
  pub journal : List Entry

abbrev pub kept : Parts → ℕ → List Entry → Kept
kept problem budget journal = record { problem = problem; budget = budget; journal = journal }

-- the tree with one more entry
abbrev pub with_entry : Kept → Entry → Kept
with_entry t e = record { problem = t.problem; budget = t.budget; journal = t.journal ++ e ∷ [] }

abbrev pub entry : ℕ → ℕ → Event → Bool → Entry
entry seat leaf event over = record { seat = seat; leaf = leaf; event = event; over = over }

-- a leaf that was just made
abbrev pub leaf : ℕ → ℕ → List Fact → List Taken → Cell
leaf parent branch path steps = record { parent = parent; branch = branch; base = path; chain = []; path = path; steps = steps; mark = marks.Open }

abbrev pub root_cell : Parts → Cell
root_cell problem = leaf 0 0 (root_facts problem.roots) []

abbrev pub root_state : Parts → State
root_state problem = record { cells = root_cell problem ∷ []; model = None }

abbrev pub marked : Cell → Mark → Cell
marked c mark = record { parent = c.parent; branch = c.branch; base = c.base; chain = c.chain; path = c.path; steps = c.steps; mark = mark }

abbrev pub or_else : {A : Type 0} → Option A → A → A
or_else None a = a
or_else (Some x) a = x

-- the leaf after steps of one branch each
abbrev pub grown : Parts → Cell → List Step → Cell
grown problem c chain = record { parent = c.parent; branch = c.branch; base = c.base; chain = c.chain ++ chain; path = or_else (grow problem c.path chain) c.path; steps = c.steps ++ firsts chain; mark = c.mark }

-- the new leaves of a step at leaf n
abbrev pub offspring : ℕ → Cell → Step → Option (List (List Fact)) → List Cell
offspring n c step (Some (first ∷ second ∷ [])) = leaf n 1 (c.path ++ first) (c.steps ++ taken step 1 ∷ []) ∷ leaf n 2 (c.path ++ second) (c.steps ++ taken step 2 ∷ []) ∷ []
offspring n c step _ = []

-- the cells with another one at the number
abbrev pub set_cell : {A : Type 0} → List A → ℕ → A → List A
set_cell cells zero c = cells
set_cell cells (suc i) c = slice_set cells i c

abbrev pub with_cell : State → ℕ → Cell → State
with_cell s n c = record { cells = set_cell s.cells n c; model = s.model }

-- the state after an event of a seat at a leaf
abbrev pub changed : Parts → State → ℕ → ℕ → Cell → Event → State
changed problem s seat n c events.Take = with_cell s n (marked c (marks.Held seat))
changed problem s seat n c (events.Grow chain) = with_cell s n (grown problem c chain)
changed problem s seat n c (events.Split step) =
    record { cells = set_cell s.cells n (marked c (marks.Parted step (length s.cells + 1))) ++ offspring n c step (step_branches problem c.path step); model = s.model }
changed problem s seat n c (events.Close closing) = with_cell s n (marked c (marks.Closed closing))
changed problem s seat n c (events.Spend cause) = with_cell s n (marked c (marks.Spent cause))
changed problem s seat n c (events.Found values) = record { cells = set_cell s.cells n (marked c marks.Open); model = Some values }

-- the leaf is open, or the seat's own
abbrev pub is_free_for : ℕ → Mark → Bool
is_free_for seat marks.Open = true
is_free_for seat (marks.Held other) = nat_eq other seat
is_free_for seat _ = false

-- the state after an entry at this cell
abbrev pub touched : Parts → State → Entry → Cell → State
touched problem s e c = if e.over then with_cell s e.leaf (marked c marks.Open) else changed problem s e.seat e.leaf c e.event

abbrev pub next_at : Parts → State → Entry → Option Cell → State
next_at problem s e None = s
next_at problem s e (Some c) = if is_free_for e.seat c.mark then touched problem s e c else s

-- the state after an entry
abbrev pub next : Parts → State → Entry → State
next problem s e = next_at problem s e (item_at s.cells e.leaf)

abbrev pub state_from : Parts → State → List Entry → State
state_from problem s [] = s
state_from problem s (e ∷ es) = state_from problem (next problem s e) es

-- the state after a journal
abbrev pub state_of : Parts → List Entry → State
state_of problem journal = state_from problem (root_state problem) journal

abbrev pub is_live : Mark → Bool
is_live marks.Open = true
is_live (marks.Held seat) = true
is_live _ = false

-- there is a model, or every leaf is closed or spent
abbrev pub has_answer : State → Bool
has_answer s = is_some s.model || not (list_any (λ (c : Cell). is_live c.mark) s.cells)

abbrev pub HasMark : List Cell → ℕ → Mark → Type 0
HasMark cells n mark = (c : Cell) × (item_at cells n ≡ Some c) × (c.mark ≡ mark)

-- the seat holds the leaf
abbrev pub HasLeaf : List Cell → ℕ → ℕ → Type 0
HasLeaf cells seat n = HasMark cells n (marks.Held seat)

abbrev pub HoldsNone : List Cell → ℕ → Type 0
HoldsNone cells seat = (n : ℕ) → HasLeaf cells seat n → ⊥

abbrev pub NoneOpen : List Cell → Type 0
NoneOpen cells = (n : ℕ) → HasMark cells n marks.Open → ⊥

-- a seat holds this leaf, which allows the event
pub record IsAt (problem : Parts) (budget : ℕ) (cells : List Cell) (seat : ℕ) (n : ℕ) (event : Event) : Type 0 where
  pub place : Cell
  pub is : item_at cells n ≡ Some place
  pub held : place.mark ≡ marks.Held seat
  pub suits : AllowsOn problem budget place.path place.steps event

-- what a seat may ask
abbrev pub May : Parts → ℕ → State → ℕ → Event → Type 0
May problem budget s seat events.Take = HoldsNone s.cells seat
May problem budget s seat event = (n : ℕ) × IsAt problem budget s.cells seat n event

-- the state of a tree
abbrev pub state : Kept → State
state t = state_of t.problem t.journal

-- what a seat may ask of a tree
abbrev pub MayAsk : Kept → ℕ → Event → Type 0
MayAsk t seat event = May t.problem t.budget (state t) seat event

-- an open leaf is handed out, or the seat's own leaf changes
abbrev pub Goes : Parts → ℕ → State → Entry → Type 0
Goes problem budget s e = (HoldsNone s.cells e.seat × (e.event ≡ events.Take) × HasMark s.cells e.leaf marks.Open) ⊎ IsAt problem budget s.cells e.seat e.leaf e.event

-- the entry names the leaf that the seat holds, or none
abbrev pub NamesOwn : State → Entry → Type 0
NamesOwn s e = HasLeaf s.cells e.seat e.leaf ⊎ (HoldsNone s.cells e.seat × (e.leaf ≡ 0))

-- from this state the machine may make the entry
abbrev pub IsStep : Parts → ℕ → State → Entry → Type 0
IsStep problem budget s e = MatchBool e.over ((has_answer s ≡ true) × NamesOwn s e) ((has_answer s ≡ false) × Goes problem budget s e)

abbrev pub IsLegalFrom : Parts → ℕ → State → List Entry → Type 0
IsLegalFrom problem budget s [] = ⊤
IsLegalFrom problem budget s (e ∷ es) = IsStep problem budget s e × IsLegalFrom problem budget (next problem s e) es

-- a run of the machine from the root state
abbrev pub IsLegal : Parts → ℕ → List Entry → Type 0
IsLegal problem budget journal = IsLegalFrom problem budget (root_state problem) journal
