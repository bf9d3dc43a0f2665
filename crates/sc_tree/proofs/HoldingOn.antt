-- A seat holds at most one leaf, and what becomes of it by what the seat asks.
use Rattle.std.proofs.Common.{◌≡◌, ◌⊎◌, ℕ, Bool, true, false, cond, inl, inr, List, [], ◌∷◌, ◌++◌, Option, Some, None, refl, sym, ap, ◌∙◌, subst}
use Rattle.std.specs.Bool.{MatchBool}
use Rattle.std.proofs.lemmas.Bool.{false≢true}
use Rattle.sc_base.specs.Numbered.{item_at}
use Rattle.sc_terms.specs.declared.problem.Parts.{Parts}
use Rattle.sc_facts.specs.declared.fact.Fact.{Fact}
use Rattle.sc_deriv.specs.declared.derivation.Step.{Step}
use Rattle.sc_deriv.specs.Acceptance.{step_branches}
use Rattle.sc_tree.specs.declared.machine.Mark.{Mark}
use Rattle.sc_tree.specs.declared.machine.Mark.TheVariants as marks
use Rattle.sc_tree.specs.declared.machine.Event.{Event}
use Rattle.sc_tree.specs.declared.machine.Event.TheVariants as events
use Rattle.sc_tree.specs.declared.machine.Entry.{Entry}
use Rattle.sc_tree.specs.Chains.{firsts, grow}
use Rattle.sc_tree.specs.Events.{AllowsOn}
use Rattle.sc_tree.specs.Machine.{Cell, State, Kept, state, entry, with_entry, set_cell, with_cell, marked, or_else, grown, offspring, changed, is_free_for, touched, next_at, next, state_from, root_state, HasLeaf, HoldsNone, IsAt, MayAsk, Goes, IsStep, IsLegalFrom, IsLegal}
use Rattle.sc_tree.specs.Answering.{Adds}
use Rattle.sc_tree.specs.Laws.{DoneHoldNone, OverHoldNone, is_grow, SeatsHoldOne, TakesHold, GrowsHold, RootsHoldNone, AllowedMayBeAsked}
use Rattle.sc_tree.proofs.Cells.{item-set_same}
use Rattle.sc_tree.proofs.Lists.{mark-back, mark-was, mark-beyond}
use Rattle.sc_tree.proofs.Kept.{next-own, next-open, state_of-push, root-at}

abbrev Unique : List Cell → Type 0
Unique cells = (seat m n : ℕ) → HasLeaf cells seat m → HasLeaf cells seat n → m ≡ n

held-same : (a b : ℕ) → marks.Held a ≡ marks.Held b → a ≡ b
held-same a b e = cc

-- a mark that is no seat's
mark-one : (cells : List Cell) (k : ℕ) (c : Cell) (mark : Mark) → Unique cells → item_at cells k ≡ Some c → ((seat : ℕ) → mark ≡ marks.Held seat → ⊥) → Unique (set_cell cells k (marked c mark))
mark-one cells k c mark all is free seat m n a b =
    elim (mark-back cells k m (marked c mark) c (marks.Held seat) is a) [
      | inl here ↦ absurd (free seat here.1)
      | inr first ↦ elim (mark-back cells k n (marked c mark) c (marks.Held seat) is b) [
        | inl here ↦ absurd (free seat here.1)
        | inr second ↦ all seat m n first.1 second.1
      ]
    ]

take-one : (cells : List Cell) (k seat : ℕ) (c : Cell) → Unique cells → item_at cells k ≡ Some c → HoldsNone cells seat → Unique (set_cell cells k (marked c (marks.Held seat)))
take-one cells k seat c all is none other m n a b =
    elim (mark-back cells k m (marked c (marks.Held seat)) c (marks.Held other) is a) [
      | inl here ↦ elim (mark-back cells k n (marked c (marks.Held seat)) c (marks.Held other) is b) [
        | inl there ↦ sym here.0 ∙ there.0
        | inr second ↦ absurd (none n (subst (λ x. HasLeaf cells x n) (sym (held-same seat other here.1)) second.1))
      ]
      | inr first ↦ elim (mark-back cells k n (marked c (marks.Held seat)) c (marks.Held other) is b) [
        | inl there ↦ absurd (none m (subst (λ x. HasLeaf cells x m) (sym (held-same seat other there.1)) first.1))
        | inr second ↦ all other m n first.1 second.1
      ]
    ]

grown-one : (cells : List Cell) (k : ℕ) (c d : Cell) → Unique cells → item_at cells k ≡ Some c → d.mark ≡ c.mark → Unique (set_cell cells k d)
grown-one cells k c d all is same seat m n a b = all seat m n (mark-was cells k m d c (marks.Held seat) is same a) (mark-was cells k n d c (marks.Held seat) is same b)

front-of : (cells : List Cell) (a b : Cell) (seat m : ℕ) → a.mark ≡ marks.Open → b.mark ≡ marks.Open → HasLeaf (cells ++ a ∷ b ∷ []) seat m → HasLeaf cells seat m
front-of cells a b seat m one two h =
    elim (mark-beyond cells a b m (marks.Held seat) h) [
      | inl old ↦ old
      | inr (inl first) ↦ absurd (let e : marks.Open ≡ marks.Held seat = sym one ∙ first.1 in cc)
      | inr (inr second) ↦ absurd (let e : marks.Open ≡ marks.Held seat = sym two ∙ second.1 in cc)
    ]

none-more : (cells : List Cell) → cells ++ [] ≡ cells
none-more [] = refl
none-more (x ∷ xs) = ap (λ l. x ∷ l) (none-more xs)

split-front : (cells : List Cell) (k : ℕ) (c : Cell) (step : Step) (o : Option (List (List Fact))) (seat m : ℕ) → HasLeaf (cells ++ offspring k c step o) seat m → HasLeaf cells seat m
split-front cells k c step None seat m h = subst (λ l. HasLeaf l seat m) (none-more cells) h
split-front cells k c step (Some []) seat m h = subst (λ l. HasLeaf l seat m) (none-more cells) h
split-front cells k c step (Some (a ∷ [])) seat m h = subst (λ l. HasLeaf l seat m) (none-more cells) h
split-front cells k c step (Some (a ∷ b ∷ [])) seat m h = front-of cells _ _ seat m refl refl h
split-front cells k c step (Some (a ∷ b ∷ x ∷ xs)) seat m h = subst (λ l. HasLeaf l seat m) (none-more cells) h

changed-one : (problem : Parts) (s : State) (seat k : ℕ) (c : Cell) (event : Event) → Unique s.cells → item_at s.cells k ≡ Some c → (event ≡ events.Take → HoldsNone s.cells seat) → Unique (changed problem s seat k c event).cells
changed-one problem s seat k c events.Take all is none = take-one s.cells k seat c all is (none refl)
changed-one problem s seat k c (events.Grow chain) all is none = grown-one s.cells k c (grown problem c chain) all is refl
changed-one problem s seat k c (events.Split step) all is none = λ other m n a b. mark-one s.cells k c _ all is (λ x e. cc) other m n (split-front _ k c step (step_branches problem c.path step) other m a) (split-front _ k c step (step_branches problem c.path step) other n b)
changed-one problem s seat k c (events.Close closing) all is none = mark-one s.cells k c _ all is (λ x e. cc)
changed-one problem s seat k c (events.Spend cause) all is none = mark-one s.cells k c _ all is (λ x e. cc)
changed-one problem s seat k c (events.Found values) all is none = mark-one s.cells k c _ all is (λ x e. cc)

not-take : (problem : Parts) (budget : ℕ) (s : State) (e : Entry) → Goes problem budget s e → e.event ≡ events.Take → HoldsNone s.cells e.seat
not-take problem budget s e (inl h) take = h.0
not-take problem budget s e (inr at) take = absurd (subst (λ x. AllowsOn problem budget at.place.path at.place.steps x) take at.suits)

over-one : (problem : Parts) (budget : ℕ) (s : State) (e : Entry) (c : Cell) (over : Bool) (P Q : Type 0) → Unique s.cells → item_at s.cells e.leaf ≡ Some c → MatchBool over P (Q × Goes problem budget s e) → Unique (cond over (with_cell s e.leaf (marked c marks.Open)) (changed problem s e.seat e.leaf c e.event)).cells
over-one problem budget s e c true P Q all is h = mark-one s.cells e.leaf c marks.Open all is (λ x k. cc)
over-one problem budget s e c false P Q all is h = changed-one problem s e.seat e.leaf c e.event all is (not-take problem budget s e h.1)

guarded-one : (problem : Parts) (budget : ℕ) (s : State) (e : Entry) (c : Cell) (free : Bool) → Unique s.cells → item_at s.cells e.leaf ≡ Some c → IsStep problem budget s e → Unique (cond free (touched problem s e c) s).cells
guarded-one problem budget s e c false all is h = all
guarded-one problem budget s e c true all is h = over-one problem budget s e c e.over _ _ all is h

at-one : (problem : Parts) (budget : ℕ) (s : State) (e : Entry) (o : Option Cell) → item_at s.cells e.leaf ≡ o → Unique s.cells → IsStep problem budget s e → Unique (next_at problem s e o).cells
at-one problem budget s e None is all h = all
at-one problem budget s e (Some c) is all h = guarded-one problem budget s e c (is_free_for e.seat c.mark) all is h

from-one : (problem : Parts) (budget : ℕ) (s : State) (es : List Entry) → Unique s.cells → IsLegalFrom problem budget s es → Unique (state_from problem s es).cells
from-one problem budget s [] all legal = all
from-one problem budget s (e ∷ es) all legal = from-one problem budget (next problem s e) es (at-one problem budget s e (item_at s.cells e.leaf) refl all legal.0) legal.1

root-one : (problem : Parts) → Unique (root_state problem).cells
root-one problem seat m n a b = (root-at problem m a.0 a.1).0 ∙ sym (root-at problem n b.0 b.1).0

pub seats_hold_one : SeatsHoldOne
seats_hold_one problem budget journal legal seat m n a b = from-one problem budget (root_state problem) journal (root-one problem) legal seat m n a b

pub roots_hold_none : RootsHoldNone
roots_hold_none problem budget seat n h =
    let e : marks.Open ≡ marks.Held seat = ap (λ (c : Cell). c.mark) (sym (root-at problem n h.0 h.1).1) ∙ h.2 in absurd cc

-- the state of a tree with one more entry
state-with : (t new : Kept) (e : Entry) → new ≡ with_entry t e → state new ≡ next t.problem (state t) e
state-with t new e is = ap state is ∙ state_of-push t.problem t.journal e

pub takes_hold : TakesHold
takes_hold old new seat n path steps told =
    let open_is = told.1 in
    let adds = told.2 in
    let c = open_is.cell in
    let to : state new ≡ with_cell (state old) n (marked c (marks.Held seat)) = state-with old new (entry seat n events.Take false) adds.new_is ∙ next-open old.problem (state old) seat n c events.Take false open_is.is open_is.was in
    record {
      cell = marked c (marks.Held seat);
      is = ap (λ (s : State). item_at s.cells n) to ∙ item-set_same (state old).cells n (marked c (marks.Held seat)) c open_is.is;
      held = refl;
      path_is = sym open_is.facts;
      steps_are = sym open_is.taken;
    }

-- the leaf at which something was done is the seat's own
own-at : (old new : Kept) (seat m : ℕ) (event : Event) → (event ≡ events.Take → ⊥) → Adds old (entry seat m event false) new → IsAt old.problem old.budget (state old).cells seat m event
own-at old new seat m event other adds = by_case adds.step.1 where
  by_case : Goes old.problem old.budget (state old) (entry seat m event false) → IsAt old.problem old.budget (state old).cells seat m event
  by_case (inl h) = absurd (other h.1)
  by_case (inr at) = at

pub grows_hold : GrowsHold
grows_hold old new seat n path steps chain grown_path legal held told grows =
    let m = told.1 in
    let adds = told.2 in
    let at = own-at old new seat m (events.Grow chain) told.0 adds in
    let here : m ≡ n = seats_hold_one old.problem old.budget old.journal legal seat m n (at.place, at.is, at.held) (held.cell, held.is, held.held) in
    let c = held.cell in
    let at_m : item_at (state old).cells m ≡ Some c = subst (λ k. item_at (state old).cells k ≡ Some c) (sym here) held.is in
    let d = grown old.problem c chain in
    let to : state new ≡ with_cell (state old) m d = state-with old new (entry seat m (events.Grow chain) false) adds.new_is ∙ next-own old.problem (state old) seat m c (events.Grow chain) false at_m held.held in
    record {
      cell = d;
      is = subst (λ k. item_at (state new).cells k ≡ Some d) here (ap (λ (s : State). item_at s.cells m) to ∙ item-set_same (state old).cells m d c at_m);
      held = held.held;
      path_is = ap (λ p. or_else (grow old.problem p chain) p) held.path_is ∙ ap (λ o. or_else o path) grows;
      steps_are = ap (λ l. l ++ firsts chain) held.steps_are;
    }

pub allowed_may_be_asked : AllowedMayBeAsked
allowed_may_be_asked t seat n path steps event held allows = by_event event allows where
  at_own : (e : Event) → AllowsOn t.problem t.budget path steps e → IsAt t.problem t.budget (state t).cells seat n e
  at_own e a = record { place = held.cell; is = held.is; held = held.held; suits = subst (λ p. AllowsOn t.problem t.budget p held.cell.steps e) (sym held.path_is) (subst (λ l. AllowsOn t.problem t.budget path l e) (sym held.steps_are) a) }

  by_event : (e : Event) → AllowsOn t.problem t.budget path steps e → MayAsk t seat e
  by_event events.Take a = absurd a
  by_event (events.Grow chain) a = (n, at_own (events.Grow chain) a)
  by_event (events.Split step) a = (n, at_own (events.Split step) a)
  by_event (events.Close closing) a = (n, at_own (events.Close closing) a)
  by_event (events.Spend cause) a = (n, at_own (events.Spend cause) a)
  by_event (events.Found values) a = (n, at_own (events.Found values) a)

-- a seat that gives up its leaf holds none
gone : (cells : List Cell) (seat k : ℕ) (c : Cell) (mark : Mark) → Unique cells → item_at cells k ≡ Some c → c.mark ≡ marks.Held seat → (mark ≡ marks.Held seat → ⊥) → HoldsNone (set_cell cells k (marked c mark)) seat
gone cells seat k c mark all is own apart n h =
    elim (mark-back cells k n (marked c mark) c (marks.Held seat) is h) [
      | inl here ↦ apart here.1
      | inr there ↦ there.0 (all seat k n (c, is, own) there.1)
    ]

unique-of : (t : Kept) → IsLegal t.problem t.budget t.journal → Unique (state t).cells
unique-of t legal seat m n a b = seats_hold_one t.problem t.budget t.journal legal seat m n a b

done_by : (old new : Kept) (seat m : ℕ) (event : Event) → IsLegal old.problem old.budget old.journal → is_grow event ≡ false → (at : IsAt old.problem old.budget (state old).cells seat m event) → state new ≡ touched old.problem (state old) (entry seat m event false) at.place → HoldsNone (state new).cells seat
done_by old new seat m events.Take legal e at to = absurd at.suits
done_by old new seat m (events.Grow chain) legal e at to = absurd (false≢true (sym e))
done_by old new seat m (events.Split step) legal e at to = λ n h. gone (state old).cells seat m at.place _ (unique-of old legal) at.is at.held (λ k. cc) n (split-front _ m at.place step (step_branches old.problem at.place.path step) seat n (subst (λ (s : State). HasLeaf s.cells seat n) to h))
done_by old new seat m (events.Close closing) legal e at to = subst (λ (s : State). HoldsNone s.cells seat) (sym to) (gone (state old).cells seat m at.place _ (unique-of old legal) at.is at.held (λ k. cc))
done_by old new seat m (events.Spend cause) legal e at to = subst (λ (s : State). HoldsNone s.cells seat) (sym to) (gone (state old).cells seat m at.place _ (unique-of old legal) at.is at.held (λ k. cc))
done_by old new seat m (events.Found values) legal e at to = subst (λ (s : State). HoldsNone s.cells seat) (sym to) (gone (state old).cells seat m at.place _ (unique-of old legal) at.is at.held (λ k. cc))

pub done_hold_none : DoneHoldNone
done_hold_none old new seat event legal e told =
    let at = own-at old new seat told.1 event told.0 told.2 in
    done_by old new seat told.1 event legal e at (state-with old new (entry seat told.1 event false) told.2.new_is ∙ next-own old.problem (state old) seat told.1 at.place event false at.is at.held)

pub over_hold_none : OverHoldNone
over_hold_none old new seat event legal told = by_case told.1.step.1 where
  to : state new ≡ next old.problem (state old) (entry seat told.0 event true)
  to = state-with old new (entry seat told.0 event true) told.1.new_is

  by_case : HasLeaf (state old).cells seat told.0 ⊎ (HoldsNone (state old).cells seat × (told.0 ≡ 0)) → HoldsNone (state new).cells seat
  by_case (inl h) = subst (λ (s : State). HoldsNone s.cells seat) (sym (to ∙ next-own old.problem (state old) seat told.0 h.0 event true h.1 h.2)) (gone (state old).cells seat told.0 h.0 marks.Open (unique-of old legal) h.1 h.2 (λ k. cc))
  by_case (inr h) = subst (λ (s : State). HoldsNone s.cells seat) (sym (to ∙ ap (λ n. next old.problem (state old) (entry seat n event true)) h.1)) h.0
