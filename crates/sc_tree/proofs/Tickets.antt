-- What a seat holds stays as it is, whatever others do.
use Rattle.std.proofs.Common.{◌≡◌, ◌≢◌, ℕ, Bool, true, false, cond, ◌⊎◌, inl, inr, List, [], ◌∷◌, ◌++◌, Option, Some, None, refl, sym, ap, ◌∙◌, subst}
use Rattle.std.specs.Prelude.{nat_eq}
use Rattle.std.specs.Cmp.{unsigned_Decides}
use Rattle.std.proofs.lemmas.Option.{same_Some}
use Rattle.std.specs.List.{AllByRecursion}
use Rattle.sc_terms.specs.declared.problem.Parts.{Parts}
use Rattle.sc_base.specs.Numbered.{item_at}
use Rattle.sc_facts.specs.declared.fact.Fact.{Fact}
use Rattle.sc_deriv.specs.declared.derivation.Step.{Step}
use Rattle.sc_deriv.specs.Acceptance.{step_branches}
use Rattle.sc_tree.specs.declared.machine.Mark.TheVariants as marks
use Rattle.sc_tree.specs.declared.machine.Event.{Event}
use Rattle.sc_tree.specs.declared.machine.Event.TheVariants as events
use Rattle.sc_tree.specs.declared.machine.Entry.{Entry}
use Rattle.sc_tree.specs.Laws.{Lacks, TicketsStay, LeavesStay}
use Rattle.sc_tree.specs.Machine.{Cell, State, set_cell, marked, offspring, changed, is_free_for, touched, next_at, next, state_from, state_of, root_state, HoldsNone, IsAt, May}
use Rattle.sc_tree.proofs.Cells.{item-set_other, item-set_back, item-append, item-append_back}

-- an event at another leaf
changed-other : (problem : Parts) (s : State) (seat m n : ℕ) (d c : Cell) (event : Event) → (m ≡ n → ⊥) → item_at s.cells n ≡ Some c → item_at (changed problem s seat m d event).cells n ≡ Some c
changed-other problem s seat m n d c events.Take other e = item-set_other s.cells m n _ c other e
changed-other problem s seat m n d c (events.Grow chain) other e = item-set_other s.cells m n _ c other e
changed-other problem s seat m n d c (events.Split step) other e = item-append _ _ n c (item-set_other s.cells m n _ c other e)
changed-other problem s seat m n d c (events.Close closing) other e = item-set_other s.cells m n _ c other e
changed-other problem s seat m n d c (events.Spend cause) other e = item-set_other s.cells m n _ c other e
changed-other problem s seat m n d c (events.Found values) other e = item-set_other s.cells m n _ c other e

over-other : (problem : Parts) (s : State) (e : Entry) (n : ℕ) (d c : Cell) (over : Bool) → (e.leaf ≡ n → ⊥) → item_at s.cells n ≡ Some c → item_at (cond over (record { cells = set_cell s.cells e.leaf (marked d marks.Open); model = s.model }) (changed problem s e.seat e.leaf d e.event)).cells n ≡ Some c
over-other problem s e n d c true other is = item-set_other s.cells e.leaf n _ c other is
over-other problem s e n d c false other is = changed-other problem s e.seat e.leaf n d c e.event other is

-- a leaf that is free for one seat is not held by another
not_free : (seat other : ℕ) (d c : Cell) → d ≡ c → c.mark ≡ marks.Held seat → is_free_for other d.mark ≡ true → other ≢ seat → ⊥
not_free seat other d c same held free apart =
    let mark : d.mark ≡ marks.Held seat = ap (λ (x : Cell). x.mark) same ∙ held in
    let equal : nat_eq seat other ≡ true = sym (ap (is_free_for other) mark) ∙ free in
    apart (sym ((unsigned_Decides seat other).0 equal))

guarded-other : (problem : Parts) (s : State) (e : Entry) (seat n : ℕ) (d c : Cell) (free : Bool) → is_free_for e.seat d.mark ≡ free → item_at s.cells e.leaf ≡ Some d → e.seat ≢ seat → item_at s.cells n ≡ Some c → c.mark ≡ marks.Held seat → item_at (cond free (touched problem s e d) s).cells n ≡ Some c
guarded-other problem s e seat n d c false is at apart own held = own
guarded-other problem s e seat n d c true is at apart own held =
    over-other problem s e n d c e.over (λ p. not_free seat e.seat d c (same_Some d c (sym at ∙ (ap (item_at s.cells) p ∙ own))) held is apart) own

at-other : (problem : Parts) (s : State) (e : Entry) (seat n : ℕ) (c : Cell) (o : Option Cell) → item_at s.cells e.leaf ≡ o → e.seat ≢ seat → item_at s.cells n ≡ Some c → c.mark ≡ marks.Held seat → item_at (next_at problem s e o).cells n ≡ Some c
at-other problem s e seat n c None at apart own held = own
at-other problem s e seat n c (Some d) at apart own held = guarded-other problem s e seat n d c (is_free_for e.seat d.mark) refl at apart own held

-- an entry of another seat changes nothing at a leaf that a seat holds
pub next-other : (problem : Parts) (s : State) (e : Entry) (seat n : ℕ) (c : Cell) → e.seat ≢ seat → item_at s.cells n ≡ Some c → c.mark ≡ marks.Held seat → item_at (next problem s e).cells n ≡ Some c
next-other problem s e seat n c apart own held = at-other problem s e seat n c (item_at s.cells e.leaf) refl apart own held

from-others : (problem : Parts) (s : State) (es : List Entry) (seat n : ℕ) (c : Cell) → Lacks seat es → item_at s.cells n ≡ Some c → c.mark ≡ marks.Held seat → item_at (state_from problem s es).cells n ≡ Some c
from-others problem s [] seat n c lacks own held = own
from-others problem s (e ∷ es) seat n c lacks own held =
    from-others problem (next problem s e) es seat n c lacks.1 (next-other problem s e seat n c lacks.0 own held) held

pub state_from-append : (problem : Parts) (s : State) (xs ys : List Entry) → state_from problem s (xs ++ ys) ≡ state_from problem (state_from problem s xs) ys
state_from-append problem s [] ys = refl
state_from-append problem s (x ∷ xs) ys = state_from-append problem (next problem s x) xs ys

pub leaves_stay : LeavesStay
leaves_stay problem seat n journal between c lacks own held =
    rw (state_from-append problem (root_state problem) journal between) (from-others problem (state_of problem journal) between seat n c lacks own held)

-- a cell that the seat does not hold
abbrev IsNotOf : ℕ → Cell → Type 0
IsNotOf seat c = c.mark ≡ marks.Held seat → ⊥

set-back : (seat : ℕ) (cells : List Cell) (m n : ℕ) (d c : Cell) → IsNotOf seat d → item_at (set_cell cells m d) n ≡ Some c → (item_at cells n ≡ Some c) ⊎ IsNotOf seat c
set-back seat cells m n d c unheld e =
    elim (item-set_back cells m n d c e) [ inl here ↦ inr (subst (IsNotOf seat) (sym here.1) unheld) | inr old ↦ inl old ]

offspring-open : (seat n : ℕ) (c : Cell) (step : Step) (o : Option (List (List Fact))) → AllByRecursion (IsNotOf seat) (offspring n c step o)
offspring-open seat n c step None = tt
offspring-open seat n c step (Some []) = tt
offspring-open seat n c step (Some (a ∷ [])) = tt
offspring-open seat n c step (Some (a ∷ b ∷ [])) = (λ e. cc, (λ e. cc, tt))
offspring-open seat n c step (Some (a ∷ b ∷ x ∷ xs)) = tt

split-back : (seat : ℕ) (cells more : List Cell) (m n : ℕ) (d c : Cell) → IsNotOf seat d → AllByRecursion (IsNotOf seat) more → item_at (set_cell cells m d ++ more) n ≡ Some c → (item_at cells n ≡ Some c) ⊎ IsNotOf seat c
split-back seat cells more m n d c unheld all e =
    elim (item-append_back (IsNotOf seat) (set_cell cells m d) more n c all e) [ inl front ↦ set-back seat cells m n d c unheld front | inr other ↦ inr other ]

changed-back : (problem : Parts) (s : State) (seat other m n : ℕ) (d c : Cell) (event : Event) → other ≢ seat → IsNotOf seat d → item_at (changed problem s other m d event).cells n ≡ Some c → (item_at s.cells n ≡ Some c) ⊎ IsNotOf seat c
changed-back problem s seat other m n d c events.Take apart unheld e = set-back seat s.cells m n _ c (λ h. let same : other ≡ seat = cc in apart same) e
changed-back problem s seat other m n d c (events.Grow chain) apart unheld e = set-back seat s.cells m n _ c unheld e
changed-back problem s seat other m n d c (events.Split step) apart unheld e = split-back seat s.cells _ m n _ c (λ h. cc) (offspring-open seat m d step (step_branches problem d.path step)) e
changed-back problem s seat other m n d c (events.Close closing) apart unheld e = set-back seat s.cells m n _ c (λ h. cc) e
changed-back problem s seat other m n d c (events.Spend cause) apart unheld e = set-back seat s.cells m n _ c (λ h. cc) e
changed-back problem s seat other m n d c (events.Found values) apart unheld e = set-back seat s.cells m n _ c (λ h. cc) e

over-back : (problem : Parts) (s : State) (e : Entry) (seat n : ℕ) (d c : Cell) (over : Bool) → e.seat ≢ seat → IsNotOf seat d → item_at (cond over (record { cells = set_cell s.cells e.leaf (marked d marks.Open); model = s.model }) (changed problem s e.seat e.leaf d e.event)).cells n ≡ Some c → (item_at s.cells n ≡ Some c) ⊎ IsNotOf seat c
over-back problem s e seat n d c true apart unheld is = set-back seat s.cells e.leaf n _ c (λ h. cc) is
over-back problem s e seat n d c false apart unheld is = changed-back problem s seat e.seat e.leaf n d c e.event apart unheld is

guarded-back : (problem : Parts) (s : State) (e : Entry) (seat n : ℕ) (d c : Cell) (free : Bool) → is_free_for e.seat d.mark ≡ free → e.seat ≢ seat → item_at (cond free (touched problem s e d) s).cells n ≡ Some c → (item_at s.cells n ≡ Some c) ⊎ IsNotOf seat c
guarded-back problem s e seat n d c false is apart own = inl own
guarded-back problem s e seat n d c true is apart own = over-back problem s e seat n d c e.over apart (λ held. not_free seat e.seat d d refl held is apart) own

at-back : (problem : Parts) (s : State) (e : Entry) (seat n : ℕ) (c : Cell) (o : Option Cell) → e.seat ≢ seat → item_at (next_at problem s e o).cells n ≡ Some c → (item_at s.cells n ≡ Some c) ⊎ IsNotOf seat c
at-back problem s e seat n c None apart own = inl own
at-back problem s e seat n c (Some d) apart own = guarded-back problem s e seat n d c (is_free_for e.seat d.mark) refl apart own

-- an entry of another seat gives a seat nothing
none-other : (problem : Parts) (s : State) (e : Entry) (seat : ℕ) → e.seat ≢ seat → HoldsNone s.cells seat → HoldsNone (next problem s e).cells seat
none-other problem s e seat apart none n h =
    elim (at-back problem s e seat n h.0 (item_at s.cells e.leaf) apart h.1) [ inl old ↦ none n (h.0, old, h.2) | inr unheld ↦ unheld h.2 ]

none-others : (problem : Parts) (s : State) (es : List Entry) (seat : ℕ) → Lacks seat es → HoldsNone s.cells seat → HoldsNone (state_from problem s es).cells seat
none-others problem s [] seat lacks none = none
none-others problem s (e ∷ es) seat lacks none = none-others problem (next problem s e) es seat lacks.1 (none-other problem s e seat lacks.0 none)

at-others : (problem : Parts) (budget : ℕ) (s : State) (es : List Entry) (seat : ℕ) (event : Event) → Lacks seat es → (n : ℕ) × IsAt problem budget s.cells seat n event → (n : ℕ) × IsAt problem budget (state_from problem s es).cells seat n event
at-others problem budget s es seat event lacks h =
    (h.0, record { place = h.1.place; is = from-others problem s es seat h.0 h.1.place lacks h.1.is h.1.held; held = h.1.held; suits = h.1.suits })

may-others : (problem : Parts) (budget : ℕ) (s : State) (es : List Entry) (seat : ℕ) (event : Event) → Lacks seat es → May problem budget s seat event → May problem budget (state_from problem s es) seat event
may-others problem budget s es seat events.Take lacks h = none-others problem s es seat lacks h
may-others problem budget s es seat (events.Grow chain) lacks h = at-others problem budget s es seat (events.Grow chain) lacks h
may-others problem budget s es seat (events.Split step) lacks h = at-others problem budget s es seat (events.Split step) lacks h
may-others problem budget s es seat (events.Close closing) lacks h = at-others problem budget s es seat (events.Close closing) lacks h
may-others problem budget s es seat (events.Spend cause) lacks h = at-others problem budget s es seat (events.Spend cause) lacks h
may-others problem budget s es seat (events.Found values) lacks h = at-others problem budget s es seat (events.Found values) lacks h

pub tickets_stay : TicketsStay
tickets_stay problem budget seat journal between event lacks may =
    rw (state_from-append problem (root_state problem) journal between) (may-others problem budget (state_of problem journal) between seat event lacks may)
