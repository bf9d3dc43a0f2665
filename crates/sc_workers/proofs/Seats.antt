-- What the one seat holds after each answer.
use Rattle.std.proofs.Common.{◌≡◌, ◌≢◌, ℕ, zero, suc, ◌<◌, Bool, true, false, not, ◌&&◌, ◌||◌, List, [], ◌∷◌, ◌++◌, length, Some, ◌⊎◌, inl, inr, refl, sym, ap, subst, ◌∙◌, length-append, arith}
use Rattle.std.specs.Prelude.{slice_get, is_some}
use Rattle.std.specs.List.{list_any}
use Rattle.std.proofs.lemmas.Bool.{false≢true}
use Rattle.sc_base.specs.Numbered.{item_at}
use Rattle.sc_terms.specs.declared.problem.Parts.{Parts}
use Rattle.sc_facts.specs.declared.fact.Fact.{Fact}
use Rattle.sc_facts.specs.Paths.{PathFacts}
use Rattle.sc_deriv.specs.declared.derivation.Step.{Step}
use Rattle.sc_deriv.specs.declared.derivation.Taken.{Taken}
use Rattle.sc_tree.specs.declared.machine.Mark.{Mark}
use Rattle.sc_tree.specs.declared.machine.Mark.TheVariants as marks
use Rattle.sc_tree.specs.declared.machine.Event.{Event}
use Rattle.sc_tree.specs.declared.machine.Event.TheVariants as events
use Rattle.sc_tree.specs.declared.machine.Reply.{Reply}
use Rattle.sc_tree.specs.declared.machine.Reply.TheVariants as replies
use Rattle.sc_tree.specs.Chains.{grow, firsts}
use Rattle.sc_tree.specs.Events.{AllowsOn}
use Rattle.sc_tree.specs.Laws.{LeavesAreTried}
use Rattle.sc_tree.specs.Machine.{Cell, Kept, with_entry, entry, or_else, marked, grown, with_cell, changed, state, is_live, has_answer, HasMark, HasLeaf, HoldsNone, NoneOpen, IsAt, MayAsk, Goes, IsStep, IsLegal}
use Rattle.sc_tree.specs.Answering.{Adds, IsOpenLeaf, Answers}
use Rattle.sc_branch.specs.Growing.{Held, IsOn, IsHeldAfter}
use Rattle.sc_workers.specs.Seats.{IsOf, IsIdle, HoldsAt, IsBusy, IsAsked, is_growth, is_done}
use Rattle.sc_workers.proofs.Held.{has_cell, mark_in, state_with, next_is, Leaves, gives_up, given_back}

-- the leaf is as it should be
on_leaf : LeavesAreTried → (t : Kept) → IsLegal t.problem t.budget t.journal → (n : ℕ) (c : Cell) → item_at (state t).cells n ≡ Some c → IsOn t.problem t.budget c.path c.steps
on_leaf tried t legal n c at = let is = tried t.problem t.budget t.journal legal n c at in record { leads = is.leads; within = is.within }

same_mark : (cells : List Cell) (n : ℕ) (c d : Cell) → item_at cells n ≡ Some c → item_at cells n ≡ Some d → c ≡ d
same_mark cells n c d a b = let e : Some c ≡ Some d = sym a ∙ b in cc

-- ---- taking a leaf
pub takes : LeavesAreTried → (old new : Kept) (n : ℕ) (path : PathFacts) (steps : List Taken) → IsIdle old → IsOpenLeaf old n path steps → Adds old (entry 1 n events.Take false) new → IsLegal new.problem new.budget new.journal → IsBusy new (record { problem = new.problem; path = path; steps = steps })
takes tried old new n path steps idle opened adds legal =
    let after : state new ≡ with_cell (state old) n (marked opened.cell (marks.Held 1)) = ap state adds.new_is ∙ (state_with old (entry 1 n events.Take false) ∙ next_is old.problem (state old) (entry 1 n events.Take false) opened.cell opened.is (inl opened.was)) in
    let at : item_at (state new).cells n ≡ Some (marked opened.cell (marks.Held 1)) = ap (λ s. item_at s.cells n) after ∙ has_cell (state old).cells n opened.cell (marked opened.cell (marks.Held 1)) opened.is in (
      n,
      record {
        cell = marked opened.cell (marks.Held 1);
        is = at;
        held_by = refl;
        about = refl;
        path = sym opened.facts;
        steps = sym opened.taken;
        on = subst (λ p. IsOn new.problem new.budget p steps) (sym opened.facts) (subst (IsOn new.problem new.budget opened.cell.path) (sym opened.taken) (on_leaf tried new legal n (marked opened.cell (marks.Held 1)) at));
        only = λ m other h. by m other (mark_in (state old).cells n (marked opened.cell (marks.Held 1)) m (marks.Held other) (subst (λ s. HasMark s.cells m (marks.Held other)) after h));
      },
    )
  where
    by : (m other : ℕ) → ((m ≡ n) × (marks.Held 1 ≡ marks.Held other)) ⊎ ((m ≢ n) × HasMark (state old).cells m (marks.Held other)) → m ≡ n
    by m other (inl a) = a.0
    by m other (inr b) = absurd (idle m other b.1)

held_at : PathFacts → List Taken → Parts → Held
held_at path steps problem = record { problem = problem; path = path; steps = steps }

pub takes_at : LeavesAreTried → (old new : Kept) (n : ℕ) (path : PathFacts) (steps : List Taken) (problem : Parts) (held : Held) → new.problem ≡ problem → held ≡ record { problem = problem; path = path; steps = steps } → IsIdle old → IsOpenLeaf old n path steps → Adds old (entry 1 n events.Take false) new → IsLegal new.problem new.budget new.journal → IsBusy new held
unfolding held_at
takes_at tried old new n path steps problem held same is idle opened adds legal =
    subst (IsBusy new) (ap (held_at path steps) same ∙ sym is) (takes tried old new n path steps idle opened adds legal)

-- ---- what the seat may ask
pub may_take : (t : Kept) → IsIdle t → MayAsk t 1 events.Take
may_take t idle = λ n h. idle n 1 h

pub may_ask : (t : Kept) (held : Held) (event : Event) → IsBusy t held → AllowsOn t.problem t.budget held.path.facts held.steps event → MayAsk t 1 event
may_ask t held event busy allows = by event allows
  where
    place : (e : Event) → AllowsOn t.problem t.budget held.path.facts held.steps e → IsAt t.problem t.budget (state t).cells 1 busy.0 e
    place e a = record {
      place = busy.1.cell;
      is = busy.1.is;
      held = busy.1.held_by;
      suits = subst (λ p. AllowsOn t.problem t.budget p busy.1.cell.steps e) (sym busy.1.path) (subst (λ s. AllowsOn t.problem t.budget held.path.facts s e) (sym busy.1.steps) a);
    }

    by : (e : Event) → AllowsOn t.problem t.budget held.path.facts held.steps e → MayAsk t 1 e
    by events.Take a = absurd a
    by (events.Grow chain) a = (busy.0, place (events.Grow chain) a)
    by (events.Split step) a = (busy.0, place (events.Split step) a)
    by (events.Close closing) a = (busy.0, place (events.Close closing) a)
    by (events.Spend cause) a = (busy.0, place (events.Spend cause) a)
    by (events.Found values) a = (busy.0, place (events.Found values) a)

-- ---- the leaf at which an event was done
at_own : (old : Kept) (n : ℕ) (held : Held) (k : ℕ) (event : Event) → HoldsAt old n held → event ≢ events.Take → IsStep old.problem old.budget (state old) (entry 1 k event false) → k ≡ n
at_own old n held k event holds other step = by step.1
  where
    by : Goes old.problem old.budget (state old) (entry 1 k event false) → k ≡ n
    by (inl take) = absurd (other take.1)
    by (inr at) = holds.only k 1 (at.place, at.is, at.held)

-- after an event the state is changed at the leaf that the seat held
changed_at : (old new : Kept) (n : ℕ) (held : Held) (k : ℕ) (event : Event) (holds : HoldsAt old n held) → event ≢ events.Take → Adds old (entry 1 k event false) new → state new ≡ changed old.problem (state old) 1 n holds.cell event
changed_at old new n held k event holds other adds =
    let same : k ≡ n = at_own old n held k event holds other adds.step in
    ap state adds.new_is
    ∙ (state_with old (entry 1 k event false)
    ∙ (next_is old.problem (state old) (entry 1 k event false) holds.cell (ap (item_at (state old).cells) same ∙ holds.is) (inr holds.held_by)
    ∙ ap (λ j. changed old.problem (state old) 1 j holds.cell event) same))

-- ---- growing
longer : (steps : List Taken) (chain : List Step) → chain ≢ [] → length steps < length (steps ++ firsts chain)
longer steps [] some = absurd (some refl)
longer steps (s ∷ chain) some = rw (length-append steps (firsts (s ∷ chain))) (omega arith)

pub grows : LeavesAreTried → (old new : Kept) (before after : Held) (chain : List Step) (k : ℕ) → IsBusy old before → chain ≢ [] → IsHeldAfter old.problem before (events.Grow chain) after → Adds old (entry 1 k (events.Grow chain) false) new → IsLegal new.problem new.budget new.journal → IsBusy new after × (length before.steps < length after.steps)
grows tried old new before after chain k busy some is adds legal =
    let n = busy.0 in
    let holds = busy.1 in
    let c : Cell = holds.cell in
    let d : Cell = grown old.problem c chain in
    let now : state new ≡ with_cell (state old) n d = changed_at old new n before k (events.Grow chain) holds (λ e. absurd cc) adds in
    let at : item_at (state new).cells n ≡ Some d = ap (λ s. item_at s.cells n) now ∙ has_cell (state old).cells n c d holds.is in
    let path : d.path ≡ after.path.facts = ap (λ p. or_else (grow old.problem p chain) c.path) holds.path ∙ ap (λ o. or_else o c.path) is.0 in
    let steps : d.steps ≡ after.steps = ap (λ s. s ++ firsts chain) holds.steps ∙ sym is.2 in (
      (
        n,
        record {
          cell = d;
          is = at;
          held_by = holds.held_by;
          about = is.3 ∙ (holds.about ∙ ap (λ (t : Kept). t.problem) (sym adds.new_is));
          path = path;
          steps = steps;
          on = subst (λ p. IsOn new.problem new.budget p after.steps) path (subst (IsOn new.problem new.budget d.path) steps (on_leaf tried new legal n d at));
          only = λ m other h. by m other (mark_in (state old).cells n d m (marks.Held other) (subst (λ s. HasMark s.cells m (marks.Held other)) now h));
        },
      ),
      subst (λ s. length before.steps < length s) (sym is.2) (longer before.steps chain some),
    )
  where
    by : (m other : ℕ) → ((m ≡ busy.0) × ((grown old.problem busy.1.cell chain).mark ≡ marks.Held other)) ⊎ ((m ≢ busy.0) × HasMark (state old).cells m (marks.Held other)) → m ≡ busy.0
    by m other (inl a) = a.0
    by m other (inr b) = busy.1.only m other b.1

-- ---- the branch's problem
pub same_problem : (problem : Parts) (old new : Held) (event : Event) → IsHeldAfter problem old event new → new.problem ≡ old.problem
same_problem problem old new (events.Grow chain) is = is.3
same_problem problem old new events.Take is = ap (λ (h : Held). h.problem) is
same_problem problem old new (events.Split step) is = ap (λ (h : Held). h.problem) is
same_problem problem old new (events.Close closing) is = ap (λ (h : Held). h.problem) is
same_problem problem old new (events.Spend cause) is = ap (λ (h : Held). h.problem) is
same_problem problem old new (events.Found values) is = ap (λ (h : Held). h.problem) is

-- ---- giving up
pub leaves : (old new : Kept) (before : Held) (event : Event) (k : ℕ) → IsBusy old before → Leaves event → event ≢ events.Take → Adds old (entry 1 k event false) new → IsIdle new
leaves old new before event k busy gone other adds = λ m o h.
    gives_up old.problem (state old) 1 busy.0 busy.1.cell event gone busy.1.only m o (subst (λ s. HasMark s.cells m (marks.Held o)) (changed_at old new busy.0 before k event busy.1 other adds) h)

pub over_busy : (old new : Kept) (before : Held) (event : Event) (k : ℕ) → IsBusy old before → Adds old (entry 1 k event true) new → IsIdle new
over_busy old new before event k busy adds = by adds.step.1
  where
    n : ℕ
    n = busy.0

    by : (HasLeaf (state old).cells 1 k) ⊎ (HoldsNone (state old).cells 1 × (k ≡ 0)) → IsIdle new
    by (inr none) = absurd (none.0 busy.0 (busy.1.cell, busy.1.is, busy.1.held_by))
    by (inl own) =
        let same : k ≡ busy.0 = busy.1.only k 1 own in
        let now : state new ≡ with_cell (state old) busy.0 (marked busy.1.cell marks.Open) =
        ap state adds.new_is
        ∙ (state_with old (entry 1 k event true)
        ∙ (next_is old.problem (state old) (entry 1 k event true) busy.1.cell (ap (item_at (state old).cells) same ∙ busy.1.is) (inr busy.1.held_by)
        ∙ ap (λ j. with_cell (state old) j (marked busy.1.cell marks.Open)) same)) in
        λ m o h. given_back (state old) busy.0 busy.1.cell busy.1.only m o (subst (λ s. HasMark s.cells m (marks.Held o)) now h)

-- ---- the answer to an event at the leaf
no_take : (problem : Parts) (budget : ℕ) (path : List Fact) (steps : List Taken) (x : Event) → AllowsOn problem budget path steps x → x ≡ events.Take → ⊥
no_take problem budget path steps events.Take b e = b
no_take problem budget path steps (events.Grow chain) b e = absurd cc
no_take problem budget path steps (events.Split step) b e = absurd cc
no_take problem budget path steps (events.Close closing) b e = absurd cc
no_take problem budget path steps (events.Spend cause) b e = absurd cc
no_take problem budget path steps (events.Found values) b e = absurd cc

idle_by : (t : Kept) (before after : Held) (b : Bool) → IsIdle t → IsAsked t before after (b && false)
idle_by t before after true h = h
idle_by t before after false h = h

pub asked : LeavesAreTried → (old new : Kept) (before after : Held) (event : Event) (reply : Reply) → IsBusy old before → AllowsOn old.problem old.budget before.path.facts before.steps event → IsHeldAfter old.problem before event after → Answers old 1 event reply new → IsLegal new.problem new.budget new.journal → IsAsked new before after (is_growth event && is_done reply)
asked tried old new before after event reply busy allows is answers legal = by event reply allows is answers
  where
    by : (e : Event) (r : Reply) → AllowsOn old.problem old.budget before.path.facts before.steps e → IsHeldAfter old.problem before e after → Answers old 1 e r new → IsAsked new before after (is_growth e && is_done r)
    by e (replies.Leaf n path steps) a h s = absurd (no_take old.problem old.budget before.path.facts before.steps e a s.0)
    by e replies.Idle a h s = absurd (no_take old.problem old.budget before.path.facts before.steps e a s.0)
    by e replies.Over a h s = idle_by new before after (is_growth e) (over_busy old new before e s.0 busy s.1)
    by events.Take replies.Done a h s = absurd a
    by (events.Grow chain) replies.Done a h s = grows tried old new before after chain s.1 busy a.0 h s.2 legal
    by (events.Split step) replies.Done a h s = leaves old new before (events.Split step) s.1 busy tt s.0 s.2
    by (events.Close closing) replies.Done a h s = leaves old new before (events.Close closing) s.1 busy tt s.0 s.2
    by (events.Spend cause) replies.Done a h s = leaves old new before (events.Spend cause) s.1 busy tt s.0 s.2
    by (events.Found values) replies.Done a h s = leaves old new before (events.Found values) s.1 busy tt s.0 s.2

-- ---- the answer where nothing is held
-- there is an answer still
pub over_idle : (old new : Kept) (k : ℕ) → IsIdle old → Adds old (entry 1 k events.Take true) new → has_answer (state new) ≡ true
over_idle old new k idle adds = by adds.step.1
  where
    by : (HasLeaf (state old).cells 1 k) ⊎ (HoldsNone (state old).cells 1 × (k ≡ 0)) → has_answer (state new) ≡ true
    by (inl own) = absurd (idle k 1 own)
    by (inr none) =
        let now : state new ≡ state old = ap state adds.new_is ∙ (ap (λ j. state (with_entry old (entry 1 j events.Take true))) none.1 ∙ state_with old (entry 1 0 events.Take true)) in
        ap has_answer now ∙ adds.step.0

-- where no leaf is open or held, there is an answer
none_live : (cells : List Cell) → ((m : ℕ) (mark : Mark) → HasMark cells m mark → is_live mark ≡ true → ⊥) → list_any (λ (c : Cell). is_live c.mark) cells ≡ false
none_live cells none = all cells (λ i c e live. none (suc i) c.mark (c, e, refl) live)
  where
    all : (cs : List Cell) → ((i : ℕ) (c : Cell) → slice_get cs i ≡ Some c → is_live c.mark ≡ true → ⊥) → list_any (λ (c : Cell). is_live c.mark) cs ≡ false
    all [] h = refl
    all (c ∷ cs) h = first (is_live c.mark) refl (all cs (λ i x e live. h (suc i) x e live))
      where
        first : (b : Bool) → is_live c.mark ≡ b → list_any (λ (x : Cell). is_live x.mark) cs ≡ false → (is_live c.mark || list_any (λ (x : Cell). is_live x.mark) cs) ≡ false
        first true e rest = absurd (h zero c refl e)
        first false e rest = rw (e, rest) refl

or_right : (a b : Bool) → b ≡ true → (a || b) ≡ true
or_right true b e = refl
or_right false b e = e

pub not_idle : (t : Kept) → IsIdle t → NoneOpen (state t).cells → has_answer (state t) ≡ false → ⊥
not_idle t idle none unanswered =
    false≢true (sym unanswered ∙ or_right (is_some (state t).model) _ (ap not (none_live (state t).cells live)))
  where
    live : (m : ℕ) (mark : Mark) → HasMark (state t).cells m mark → is_live mark ≡ true → ⊥
    live m marks.Open h e = none m h
    live m (marks.Held other) h e = idle m other h
    live m (marks.Closed closing) h e = false≢true e
    live m (marks.Spent cause) h e = false≢true e
    live m (marks.Parted step left) h e = false≢true e

pub idle_root : (t : Kept) → t.journal ≡ [] → IsIdle t
idle_root t empty = λ n other h. by n other (subst (λ j. HasMark (state (record { problem = t.problem; budget = t.budget; journal = j })).cells n (marks.Held other)) empty h)
  where
    by : (n other : ℕ) → HasMark (state (record { problem = t.problem; budget = t.budget; journal = [] })).cells n (marks.Held other) → ⊥
    by zero other h = let none = h.1 in absurd cc
    by (suc zero) other h = let root = h.1 in let mark = h.2 in absurd cc
    by (suc (suc i)) other h = let none = h.1 in absurd cc

-- ---- the tree stays the problem's
pub stays : (problem : Parts) (budget seat : ℕ) (old new : Kept) (event : Event) (reply : Reply) → Answers old seat event reply new → IsOf problem budget old → IsOf problem budget new
stays problem budget seat old new event reply answers of = by reply answers
  where
    adds : (e : _) → Adds old e new → IsOf problem budget new
    adds e a = record { about = ap (λ (t : Kept). t.problem) a.new_is ∙ of.about; limit = ap (λ (t : Kept). t.budget) a.new_is ∙ of.limit }

    by : (r : Reply) → Answers old seat event r new → IsOf problem budget new
    by (replies.Leaf n path steps) s = adds _ s.2
    by replies.Done s = adds _ s.2
    by replies.Idle s = subst (IsOf problem budget) (sym s.3) of
    by replies.Over s = adds _ s.1

-- what is said of the tree's problem and budget is said of these
pub of_tree : (P : Parts → ℕ → Type 0) (problem : Parts) (budget : ℕ) (t : Kept) → IsOf problem budget t → P t.problem t.budget → P problem budget
of_tree P problem budget t of h = subst (λ b. P problem b) of.limit (subst (λ p. P p t.budget) of.about h)

pub to_tree : (P : Parts → ℕ → Type 0) (problem : Parts) (budget : ℕ) (t : Kept) → IsOf problem budget t → P problem budget → P t.problem t.budget
to_tree P problem budget t of h = subst (λ p. P p t.budget) (sym of.about) (subst (λ b. P problem b) (sym of.limit) h)

-- what an answer to Take may be
pub may_be : (old new : Kept) (reply : Reply) → IsIdle old → Answers old 1 events.Take reply new → (reply ≡ replies.Done) ⊎ (reply ≡ replies.Idle) → ⊥
may_be old new replies.Done idle s h = s.0 refl
may_be old new replies.Idle idle s h = not_idle old idle s.1 s.2
may_be old new (replies.Leaf n path steps) idle s (inl e) = absurd cc
may_be old new (replies.Leaf n path steps) idle s (inr e) = absurd cc
may_be old new replies.Over idle s (inl e) = absurd cc
may_be old new replies.Over idle s (inr e) = absurd cc
