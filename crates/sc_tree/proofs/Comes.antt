-- Each leaf's steps are those of the leaf by whose split it came, then that split's, then its own.
use Rattle.std.proofs.Common.{◌≡◌, ℕ, zero, suc, ◌+◌, ◌<◌, Bool, true, false, cond, ◌⊎◌, inl, inr, List, [], ◌∷◌, ◌++◌, map, length, Option, Some, None, refl, sym, ap, ◌∙◌, subst, arith, append_assoc}
use Rattle.std.proofs.lemmas.Bool.{false≢true}
use Rattle.std.proofs.lemmas.Option.{same_Some}
use Rattle.sc_base.specs.Numbered.{item_at}
use Rattle.sc_terms.specs.declared.problem.Parts.{Parts}
use Rattle.sc_facts.specs.declared.fact.Fact.{Fact}
use Rattle.sc_deriv.specs.declared.derivation.Step.{Step}
use Rattle.sc_deriv.specs.declared.derivation.Taken.{Taken}
use Rattle.sc_deriv.specs.Acceptance.{step_branches}
use Rattle.sc_tree.specs.declared.machine.Mark.{Mark}
use Rattle.sc_tree.specs.declared.machine.Mark.TheVariants as marks
use Rattle.sc_tree.specs.declared.machine.Event.{Event}
use Rattle.sc_tree.specs.declared.machine.Event.TheVariants as events
use Rattle.sc_tree.specs.declared.machine.Entry.{Entry}
use Rattle.sc_tree.specs.Chains.{taken, firsts}
use Rattle.sc_tree.specs.Machine.{Cell, State, set_cell, leaf, root_cell, root_state, marked, grown, offspring, changed, is_free_for, is_live, touched, next_at, next, state_from, state_of}
use Rattle.sc_tree.specs.Descent.{Comes, ComesFrom, AllCome}
use Rattle.sc_tree.proofs.Cells.{item-set_other, item-set_same, item-set_back, item-append, item-within}

parted-dead : (mark : Mark) (step : Step) (left : ℕ) → mark ≡ marks.Parted step left → is_live mark ≡ true → ⊥
parted-dead mark step left e live = false≢true (sym (ap is_live e) ∙ live)

-- a leaf that is live changes, and what comes from others stays so
from-set : (cells : List Cell) (m n parent branch : ℕ) (x d : Cell) (own : List Step) (steps : List Taken) → item_at cells m ≡ Some x → is_live x.mark ≡ true → ComesFrom cells n parent branch own steps → ComesFrom (set_cell cells m d) n parent branch own steps
from-set cells m n zero branch x d own steps is live h = h
from-set cells m n (suc p) branch x d own steps is live h =
    record {
      before = h.before;
      step = h.step;
      left = h.left;
      is = item-set_other cells m (suc p) d h.before (λ here. parted-dead x.mark h.step h.left (ap (λ (c : Cell). c.mark) (same_Some x h.before (sym is ∙ (ap (item_at cells) here ∙ h.is))) ∙ h.parted) live) h.is;
      parted = h.parted;
      lower = h.lower;
      steps_are = h.steps_are;
    }

from-more : (cells more : List Cell) (n parent branch : ℕ) (own : List Step) (steps : List Taken) → ComesFrom cells n parent branch own steps → ComesFrom (cells ++ more) n parent branch own steps
from-more cells more n zero branch own steps h = h
from-more cells more n (suc p) branch own steps h =
    record { before = h.before; step = h.step; left = h.left; is = item-append cells more (suc p) h.before h.is; parted = h.parted; lower = h.lower; steps_are = h.steps_are }

set-come : (cells : List Cell) (m : ℕ) (x d : Cell) → AllCome cells → item_at cells m ≡ Some x → is_live x.mark ≡ true → Comes (set_cell cells m d) m d → AllCome (set_cell cells m d)
set-come cells m x d all is live own n c at =
    elim (item-set_back cells m n d c at) [
      | inl here ↦ subst (λ k. Comes (set_cell cells m d) k c) here.0 (subst (Comes (set_cell cells m d) m) (sym here.1) own)
      | inr old ↦ from-set cells m n c.parent c.branch x d c.chain c.steps is live (all n c old)
    ]

mark-come : (cells : List Cell) (m : ℕ) (x : Cell) (mark : Mark) → AllCome cells → item_at cells m ≡ Some x → is_live x.mark ≡ true → AllCome (set_cell cells m (marked x mark))
mark-come cells m x mark all is live =
    set-come cells m x (marked x mark) all is live (from-set cells m m x.parent x.branch x (marked x mark) x.chain x.steps is live (all m x is))

map-append : {X Y : Type 0} (f : X → Y) (xs ys : List X) → map f (xs ++ ys) ≡ map f xs ++ map f ys
map-append f [] ys = refl
map-append f (x ∷ xs) ys = ap (λ l. f x ∷ l) (map-append f xs ys)

from-grown : (cells : List Cell) (n parent branch : ℕ) (own chain : List Step) (steps : List Taken) → ComesFrom cells n parent branch own steps → ComesFrom cells n parent branch (own ++ chain) (steps ++ firsts chain)
from-grown cells n zero branch own chain steps h = ap (λ l. l ++ firsts chain) h ∙ sym (map-append (λ s. taken s 1) own chain)
from-grown cells n (suc p) branch own chain steps h =
    record {
      before = h.before;
      step = h.step;
      left = h.left;
      is = h.is;
      parted = h.parted;
      lower = h.lower;
      steps_are = ap (λ l. l ++ firsts chain) h.steps_are ∙ (append_assoc h.before.steps (taken h.step branch ∷ firsts own) (firsts chain) ∙ ap (λ l. h.before.steps ++ taken h.step branch ∷ l) (sym (map-append (λ s. taken s 1) own chain)));
    }

grown-come : (problem : Parts) (cells : List Cell) (m : ℕ) (x : Cell) (chain : List Step) → AllCome cells → item_at cells m ≡ Some x → is_live x.mark ≡ true → AllCome (set_cell cells m (grown problem x chain))
grown-come problem cells m x chain all is live =
    let d = grown problem x chain in
    set-come cells m x d all is live (from-set cells m m x.parent x.branch x d (x.chain ++ chain) (x.steps ++ firsts chain) is live (from-grown cells m x.parent x.branch x.chain chain x.steps (all m x is)))

get-past_two : (n : ℕ) (front : List Cell) (a b c : Cell) → item_at (front ++ a ∷ b ∷ []) n ≡ Some c → (item_at front n ≡ Some c) ⊎ ((length front < n) × ((c ≡ a) ⊎ (c ≡ b)))
get-past_two zero front a b c e = absurd cc
get-past_two (suc zero) [] a b c e = inr (omega arith, inl (sym (same_Some a c e)))
get-past_two (suc (suc zero)) [] a b c e = inr (omega arith, inr (sym (same_Some b c e)))
get-past_two (suc (suc (suc n))) [] a b c e = absurd cc
get-past_two (suc zero) (x ∷ xs) a b c e = inl e
get-past_two (suc (suc n)) (x ∷ xs) a b c e =
    elim (get-past_two (suc n) xs a b c e) [ inl old ↦ inl old | inr new ↦ inr (let less = new.0 in omega (arith, less), new.1) ]

new-comes : (cells more : List Cell) (m n : ℕ) (d : Cell) (step : Step) (left branch : ℕ) (path : List Fact) → item_at cells m ≡ Some d → d.mark ≡ marks.Parted step left → m < n → Comes (cells ++ more) n (leaf m branch path (d.steps ++ taken step branch ∷ []))
new-comes cells more zero n d step left branch path is parted less = absurd cc
new-comes cells more (suc m) n d step left branch path is parted less =
    record { before = d; step = step; left = left; is = item-append cells more (suc m) d is; parted = parted; lower = less; steps_are = refl }

two-come : (cells : List Cell) (m : ℕ) (d a b : Cell) (step : Step) (left : ℕ) (first second : List Fact) → AllCome cells → item_at cells m ≡ Some d → d.mark ≡ marks.Parted step left → a ≡ leaf m 1 first (d.steps ++ taken step 1 ∷ []) → b ≡ leaf m 2 second (d.steps ++ taken step 2 ∷ []) → AllCome (cells ++ a ∷ b ∷ [])
two-come cells m d a b step left first second all is parted one two n c at =
    elim (get-past_two n cells a b c at) [
      | inl old ↦ from-more cells (a ∷ b ∷ []) n c.parent c.branch c.chain c.steps (all n c old)
      | inr (past, inl e) ↦ subst (Comes (cells ++ a ∷ b ∷ []) n) (sym (e ∙ one)) (new-comes cells (a ∷ b ∷ []) m n d step left 1 first is parted (beyond past))
      | inr (past, inr e) ↦ subst (Comes (cells ++ a ∷ b ∷ []) n) (sym (e ∙ two)) (new-comes cells (a ∷ b ∷ []) m n d step left 2 second is parted (beyond past))
    ] where
      beyond : length cells < n → m < n
      beyond past = let within = item-within cells m d is in omega (arith, within, past)

none-more : (cells : List Cell) → AllCome cells → AllCome (cells ++ [])
none-more cells all n c at = from-more cells [] n c.parent c.branch c.chain c.steps (all n c (get-none cells n c at)) where
  get-none : (cs : List Cell) (k : ℕ) (x : Cell) → item_at (cs ++ []) k ≡ Some x → item_at cs k ≡ Some x
  get-none [] k x e = e
  get-none (y ∷ ys) zero x e = e
  get-none (y ∷ ys) (suc zero) x e = e
  get-none (y ∷ ys) (suc (suc k)) x e = get-none ys (suc k) x e

split-come : (cells : List Cell) (m : ℕ) (x : Cell) (step : Step) (bs : Option (List (List Fact))) → AllCome cells → item_at cells m ≡ Some x → is_live x.mark ≡ true → AllCome (set_cell cells m (marked x (marks.Parted step (length cells + 1))) ++ offspring m x step bs)
split-come cells m x step None all is live = none-more _ (mark-come cells m x _ all is live)
split-come cells m x step (Some []) all is live = none-more _ (mark-come cells m x _ all is live)
split-come cells m x step (Some (a ∷ [])) all is live = none-more _ (mark-come cells m x _ all is live)
split-come cells m x step (Some (a ∷ b ∷ [])) all is live =
    let d = marked x (marks.Parted step (length cells + 1)) in
    two-come (set_cell cells m d) m d _ _ step (length cells + 1) (x.path ++ a) (x.path ++ b) (mark-come cells m x _ all is live) (item-set_same cells m d x is) refl refl refl
split-come cells m x step (Some (a ∷ b ∷ y ∷ ys)) all is live = none-more _ (mark-come cells m x _ all is live)

free-live : (seat : ℕ) (mark : Mark) → is_free_for seat mark ≡ true → is_live mark ≡ true
free-live seat marks.Open e = refl
free-live seat (marks.Held other) e = refl
free-live seat (marks.Closed closing) e = absurd (false≢true e)
free-live seat (marks.Spent cause) e = absurd (false≢true e)
free-live seat (marks.Parted step left) e = absurd (false≢true e)

changed-come : (problem : Parts) (s : State) (seat m : ℕ) (x : Cell) (event : Event) → AllCome s.cells → item_at s.cells m ≡ Some x → is_live x.mark ≡ true → AllCome (changed problem s seat m x event).cells
changed-come problem s seat m x events.Take all is live = mark-come s.cells m x _ all is live
changed-come problem s seat m x (events.Grow chain) all is live = grown-come problem s.cells m x chain all is live
changed-come problem s seat m x (events.Split step) all is live = split-come s.cells m x step (step_branches problem x.path step) all is live
changed-come problem s seat m x (events.Close closing) all is live = mark-come s.cells m x _ all is live
changed-come problem s seat m x (events.Spend cause) all is live = mark-come s.cells m x _ all is live
changed-come problem s seat m x (events.Found values) all is live = mark-come s.cells m x _ all is live

over-come : (problem : Parts) (s : State) (e : Entry) (x : Cell) (over : Bool) → AllCome s.cells → item_at s.cells e.leaf ≡ Some x → is_live x.mark ≡ true → AllCome (cond over (record { cells = set_cell s.cells e.leaf (marked x marks.Open); model = s.model }) (changed problem s e.seat e.leaf x e.event)).cells
over-come problem s e x true all is live = mark-come s.cells e.leaf x _ all is live
over-come problem s e x false all is live = changed-come problem s e.seat e.leaf x e.event all is live

guarded-come : (problem : Parts) (s : State) (e : Entry) (x : Cell) (free : Bool) → is_free_for e.seat x.mark ≡ free → AllCome s.cells → item_at s.cells e.leaf ≡ Some x → AllCome (cond free (touched problem s e x) s).cells
guarded-come problem s e x false t all is = all
guarded-come problem s e x true t all is = over-come problem s e x e.over all is (free-live e.seat x.mark t)

at-come : (problem : Parts) (s : State) (e : Entry) (o : Option Cell) → item_at s.cells e.leaf ≡ o → AllCome s.cells → AllCome (next_at problem s e o).cells
at-come problem s e None is all = all
at-come problem s e (Some x) is all = guarded-come problem s e x (is_free_for e.seat x.mark) refl all is

from-come : (problem : Parts) (s : State) (es : List Entry) → AllCome s.cells → AllCome (state_from problem s es).cells
from-come problem s [] all = all
from-come problem s (e ∷ es) all = from-come problem (next problem s e) es (at-come problem s e (item_at s.cells e.leaf) refl all)

root-come : (problem : Parts) → AllCome (root_state problem).cells
root-come problem zero c at = absurd cc
root-come problem (suc zero) c at = subst (Comes (root_state problem).cells 1) (same_Some (root_cell problem) c at) refl
root-come problem (suc (suc n)) c at = absurd cc

pub all_come : (problem : Parts) (journal : List Entry) → AllCome (state_of problem journal).cells
all_come problem journal = from-come problem (root_state problem) journal (root-come problem)
