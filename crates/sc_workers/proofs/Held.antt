-- The leaves after an entry, and which of them are held.
use Rattle.std.proofs.Common.{◌≡◌, ◌≢◌, ℕ, zero, suc, true, List, [], ◌∷◌, ◌++◌, cond, Option, Some, None, ◌⊎◌, inl, inr, refl, sym, ap, ◌∙◌, arith}
use Rattle.std.specs.Prelude.{slice_get, slice_set, ⊤}
use Rattle.std.specs.Cmp.{unsigned_Decides}
use Rattle.sc_base.specs.Numbered.{item_at}
use Rattle.sc_terms.specs.declared.problem.Parts.{Parts}
use Rattle.sc_facts.specs.declared.fact.Fact.{Fact}
use Rattle.sc_deriv.specs.declared.derivation.Step.{Step}
use Rattle.sc_deriv.specs.Acceptance.{step_branches}
use Rattle.sc_tree.specs.declared.machine.Mark.{Mark}
use Rattle.sc_tree.specs.declared.machine.Mark.TheVariants as marks
use Rattle.sc_tree.specs.declared.machine.Event.{Event}
use Rattle.sc_tree.specs.declared.machine.Event.TheVariants as events
use Rattle.sc_tree.specs.declared.machine.Entry.{Entry}
use Rattle.sc_tree.specs.Machine.{Cell, State, Kept, with_entry, marked, offspring, set_cell, with_cell, changed, is_free_for, touched, next_at, next, state_from, state, HasMark}

-- ---- lists with another item at a place
has_set : {X : Type 0} (xs : List X) (i : ℕ) (x y : X) → slice_get xs i ≡ Some x → slice_get (slice_set xs i y) i ≡ Some y
has_set [] i x y e = absurd cc
has_set (z ∷ zs) zero x y e = refl
has_set (z ∷ zs) (suc i) x y e = has_set zs i x y e

in_set : {X : Type 0} (xs : List X) (i j : ℕ) (y x : X) → slice_get (slice_set xs i y) j ≡ Some x → ((j ≡ i) × (x ≡ y)) ⊎ ((j ≢ i) × (slice_get xs j ≡ Some x))
in_set [] i j y x e = absurd cc
in_set (z ∷ zs) zero zero y x e = let same : y ≡ x = cc in inl (refl, sym same)
in_set (z ∷ zs) zero (suc j) y x e = inr ((λ h. absurd (omega (arith, h))), e)
in_set (z ∷ zs) (suc i) zero y x e = inr ((λ h. absurd (omega (arith, h))), e)
in_set (z ∷ zs) (suc i) (suc j) y x e =
    elim (in_set zs i j y x e) [
      | inl a ↦ inl (ap suc a.0, a.1)
      | inr b ↦ inr ((λ h. b.0 (omega (arith, h))), b.1)
    ]

in_append : {X : Type 0} (xs ys : List X) (j : ℕ) (x : X) → slice_get (xs ++ ys) j ≡ Some x → (slice_get xs j ≡ Some x) ⊎ ((k : ℕ) × (slice_get ys k ≡ Some x))
in_append [] ys j x e = inr (j, e)
in_append (z ∷ zs) ys zero x e = inl e
in_append (z ∷ zs) ys (suc j) x e = in_append zs ys j x e

-- ---- marks
pub has_cell : (cells : List Cell) (n : ℕ) (c d : Cell) → item_at cells n ≡ Some c → item_at (set_cell cells n d) n ≡ Some d
has_cell cells zero c d e = absurd cc
has_cell cells (suc i) c d e = has_set cells i c d e

-- a mark after a cell was set is that cell's, or an old one at another number
pub mark_in : (cells : List Cell) (n : ℕ) (d : Cell) (m : ℕ) (mark : Mark) → HasMark (set_cell cells n d) m mark → ((m ≡ n) × (d.mark ≡ mark)) ⊎ ((m ≢ n) × HasMark cells m mark)
mark_in cells n d zero mark h = let none = h.1 in absurd cc
mark_in cells zero d (suc j) mark h = inr ((λ e. absurd (omega (arith, e))), h)
mark_in cells (suc i) d (suc j) mark h =
    elim (in_set cells i j d h.0 h.1) [
      | inl a ↦ inl (ap suc a.0, ap (λ (c : Cell). c.mark) (sym a.1) ∙ h.2)
      | inr b ↦ inr ((λ e. b.0 (omega (arith, e))), (h.0, b.1, h.2))
    ]

open_by : (d x : Cell) → Some d ≡ Some x → d.mark ≡ marks.Open → x.mark ≡ marks.Open
open_by d x e h = let same : d ≡ x = cc in ap (λ (c : Cell). c.mark) (sym same) ∙ h

offspring_open : (n : ℕ) (c : Cell) (step : Step) (bs : Option (List (List Fact))) (k : ℕ) (x : Cell) → slice_get (offspring n c step bs) k ≡ Some x → x.mark ≡ marks.Open
offspring_open n c step None k x e = absurd cc
offspring_open n c step (Some []) k x e = absurd cc
offspring_open n c step (Some (b ∷ [])) k x e = absurd cc
offspring_open n c step (Some (a ∷ b ∷ [])) zero x e = open_by _ x e refl
offspring_open n c step (Some (a ∷ b ∷ [])) (suc zero) x e = open_by _ x e refl
offspring_open n c step (Some (a ∷ b ∷ [])) (suc (suc k)) x e = absurd cc
offspring_open n c step (Some (a ∷ b ∷ d ∷ bs)) k x e = absurd cc

-- a mark after cells were added is an old one, or says that the leaf is open
mark_on : (cells more : List Cell) → ((k : ℕ) (x : Cell) → slice_get more k ≡ Some x → x.mark ≡ marks.Open) → (m : ℕ) (mark : Mark) → HasMark (cells ++ more) m mark → HasMark cells m mark ⊎ (mark ≡ marks.Open)
mark_on cells more all zero mark h = let none = h.1 in absurd cc
mark_on cells more all (suc j) mark h =
    elim (in_append cells more j h.0 h.1) [
      | inl a ↦ inl (h.0, a, h.2)
      | inr b ↦ inr (sym h.2 ∙ all b.0 h.0 b.1)
    ]

-- ---- the state after an entry
state_more : (problem : Parts) (s : State) (journal : List Entry) (e : Entry) → state_from problem s (journal ++ e ∷ []) ≡ next problem (state_from problem s journal) e
state_more problem s [] e = refl
state_more problem s (x ∷ xs) e = state_more problem (next problem s x) xs e

pub state_with : (t : Kept) (e : Entry) → state (with_entry t e) ≡ next t.problem (state t) e
state_with t e = state_more t.problem _ t.journal e

free_for : (seat : ℕ) (mark : Mark) → (mark ≡ marks.Open) ⊎ (mark ≡ marks.Held seat) → is_free_for seat mark ≡ true
free_for seat mark (inl e) = ap (is_free_for seat) e
free_for seat mark (inr e) = ap (is_free_for seat) e ∙ (unsigned_Decides seat seat).1 refl

pub next_is : (problem : Parts) (s : State) (e : Entry) (c : Cell) → item_at s.cells e.leaf ≡ Some c → (c.mark ≡ marks.Open) ⊎ (c.mark ≡ marks.Held e.seat) → next problem s e ≡ touched problem s e c
next_is problem s e c at mark = ap (next_at problem s e) at ∙ ap (λ b. cond b (touched problem s e c) s) (free_for e.seat c.mark mark)

-- what takes a leaf from its seat
abbrev pub Leaves : Event → Type 0
Leaves events.Take = ⊥
Leaves (events.Grow chain) = ⊥
Leaves _ = ⊤

held_none : (cells : List Cell) (n : ℕ) (d : Cell) → ((other : ℕ) → d.mark ≡ marks.Held other → ⊥) → ((m other : ℕ) → HasMark cells m (marks.Held other) → m ≡ n) → (m other : ℕ) → HasMark (set_cell cells n d) m (marks.Held other) → ⊥
held_none cells n d free only m other h =
    elim (mark_in cells n d m (marks.Held other) h) [
      | inl a ↦ free other a.1
      | inr b ↦ b.0 (only m other b.1)
    ]

-- once the leaf that alone was held is given up, none is held
pub gives_up : (problem : Parts) (s : State) (seat n : ℕ) (c : Cell) (event : Event) → Leaves event → ((m other : ℕ) → HasMark s.cells m (marks.Held other) → m ≡ n) → (m other : ℕ) → HasMark (changed problem s seat n c event).cells m (marks.Held other) → ⊥
gives_up problem s seat n c (events.Split step) leaves only m other h =
    elim (mark_on _ (offspring n c step (step_branches problem c.path step)) (offspring_open n c step (step_branches problem c.path step)) m (marks.Held other) h) [
      | inl a ↦ held_none s.cells n _ (λ o e. absurd cc) only m other a
      | inr b ↦ absurd cc
    ]
gives_up problem s seat n c (events.Close closing) leaves only m other h = held_none s.cells n _ (λ o e. absurd cc) only m other h
gives_up problem s seat n c (events.Spend cause) leaves only m other h = held_none s.cells n _ (λ o e. absurd cc) only m other h
gives_up problem s seat n c (events.Found values) leaves only m other h = held_none s.cells n _ (λ o e. absurd cc) only m other h
gives_up problem s seat n c (events.Grow chain) leaves only m other h = absurd leaves
gives_up problem s seat n c events.Take leaves only m other h = absurd leaves

pub given_back : (s : State) (n : ℕ) (c : Cell) → ((m other : ℕ) → HasMark s.cells m (marks.Held other) → m ≡ n) → (m other : ℕ) → HasMark (with_cell s n (marked c marks.Open)).cells m (marks.Held other) → ⊥
given_back s n c only m other h = held_none s.cells n (marked c marks.Open) (λ o e. absurd cc) only m other h
