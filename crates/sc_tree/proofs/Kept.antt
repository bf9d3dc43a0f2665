-- What a tree keeps after a step of the machine.
use Rattle.std.proofs.Common.{◌≡◌, ◌≢◌, ℕ, zero, suc, ◌+◌, ◌≤◌, ◌↔◌, Bool, true, false, cond, ◌||◌, ◌&&◌, inl, inr, List, [], ◌∷◌, ◌++◌, map, reverse, length, slice_set, Option, Some, None, refl, sym, ap, ◌∙◌, subst, arith}
use Rattle.std.specs.Prelude.{nat_eq, is_some, Result, Ok, Err, OnOk, IsOk}
use Rattle.std.specs.List.{slice_get}
use Rattle.std.specs.Cmp.{unsigned_Decides}
use Rattle.std.proofs.lemmas.Bool.{false≢true}
use Rattle.std.proofs.lemmas.Option.{same_Some}
use Rattle.std.proofs.lemmas.List.{reverse-append}
use Rattle.sc_base.specs.Numbered.{item_at}
use Rattle.sc_terms.specs.declared.problem.Parts.{Parts}
use Rattle.sc_terms.specs.Values.{ValueMap}
use Rattle.sc_deriv.specs.declared.derivation.Step.{Step}
use Rattle.sc_deriv.specs.declared.derivation.Closing.{Closing}
use Rattle.sc_tree.specs.declared.machine.Cause.{Cause}
use Rattle.sc_tree.specs.declared.machine.Mark.{Mark}
use Rattle.sc_tree.specs.declared.machine.Mark.TheVariants as marks
use Rattle.sc_tree.specs.declared.machine.Place.{Place}
use Rattle.sc_tree.specs.declared.machine.Event.{Event}
use Rattle.sc_tree.specs.declared.machine.Event.TheVariants as events
use Rattle.sc_tree.specs.declared.machine.Entry.{Entry}
use Rattle.sc_tree.specs.declared.seats.Holding.{Holding}
use Rattle.sc_tree.specs.Chains.{taken}
use Rattle.sc_tree.specs.Machine.{Cell, State, Kept, state, with_entry, entry, leaf, set_cell, with_cell, is_free_for, marked, grown, offspring, touched, next, next_at, HoldsNone, NoneOpen, IsAt, May, state_from, state_of, root_state, root_cell, HasMark, HasLeaf, IsStep, IsLegalFrom, IsLegal, has_answer}
use Rattle.sc_tree.specs.Keeping.{place_of, new_place, is_in, ListsOpen, leaf_of, without, holding, ListsHeld, IsFound, IsKept, is_held, is_open, is_nil, IsMarked, IsParted, HasMore, GivesUp, GivesBack}
use Rattle.sc_tree.specs.Answering.{Adds, takes_no_room}
use Rattle.sc_tree.proofs.Cells.{get-append, item-first, item-within, length-set_cell}
use Rattle.sc_tree.proofs.Lists.{nat_eq-same, held-given_up, open-apart, lists-live, opens-taken, holds-taken, opens-reopened, opens-kept, holds-kept, opens-parted, holds-parted, fewer}
use Rattle.sc_tree.proofs.Tickets.{state_from-append}

legal-more : (problem : Parts) (budget : ℕ) (s : State) (journal : List Entry) (e : Entry) → IsLegalFrom problem budget s journal → IsStep problem budget (state_from problem s journal) e → IsLegalFrom problem budget s (journal ++ e ∷ [])
legal-more problem budget s [] e legal step = (step, tt)
legal-more problem budget s (x ∷ xs) e legal step = (legal.0, legal-more problem budget (next problem s x) xs e legal.1 step)

pub legal-push : (problem : Parts) (budget : ℕ) (journal : List Entry) (e : Entry) → IsLegal problem budget journal → IsStep problem budget (state_of problem journal) e → IsLegal problem budget (journal ++ e ∷ [])
legal-push problem budget journal e legal step = legal-more problem budget (root_state problem) journal e legal step

pub state_of-push : (problem : Parts) (journal : List Entry) (e : Entry) → state_of problem (journal ++ e ∷ []) ≡ next problem (state_of problem journal) e
state_of-push problem journal e = state_from-append problem (root_state problem) journal (e ∷ [])

-- places of cells
get-map : {X Y : Type 0} (f : X → Y) (xs : List X) (i : ℕ) (x : X) → slice_get xs i ≡ Some x → slice_get (map f xs) i ≡ Some (f x)
get-map f [] i x e = absurd cc
get-map f (y ∷ ys) zero x e = ap (λ k. Some (f k)) (same_Some y x e)
get-map f (y ∷ ys) (suc i) x e = get-map f ys i x e

set-map : {X Y : Type 0} (f : X → Y) (xs : List X) (i : ℕ) (x : X) → slice_set (map f xs) i (f x) ≡ map f (slice_set xs i x)
set-map f [] i x = refl
set-map f (y ∷ ys) zero x = refl
set-map f (y ∷ ys) (suc i) x = ap (λ l. f y ∷ l) (set-map f ys i x)

pub place-at : (cells : List Cell) (n : ℕ) (c : Cell) → item_at cells n ≡ Some c → item_at (map place_of cells) n ≡ Some (place_of c)
place-at cells zero c e = absurd cc
place-at cells (suc i) c e = get-map place_of cells i c e

pub place-set : (cells : List Cell) (n : ℕ) (d : Cell) → set_cell (map place_of cells) n (place_of d) ≡ map place_of (set_cell cells n d)
place-set cells zero d = refl
place-set cells (suc i) d = set-map place_of cells i d

found-more : (journal : List Entry) (e : Entry) (found : Option ℕ) (model : Option ValueMap) → IsFound journal found model → IsFound (journal ++ e ∷ []) found model
found-more journal e None model h = h
found-more journal e (Some i) model h = (h.0, get-append journal (e ∷ []) i h.0 h.1, h.2, h.3, h.4)

get-last : (journal : List Entry) (e : Entry) → slice_get (journal ++ e ∷ []) (length journal) ≡ Some e
get-last [] e = refl
get-last (x ∷ xs) e = get-last xs e

-- what is kept after an entry
pub kept-next : (problem : Parts) (budget : ℕ) (places : List Place) (opened : List ℕ) (held : List Holding) (found : Option ℕ) (journal : List Entry) (e : Entry) (places' : List Place) (opened' : List ℕ) (held' : List Holding) (found' : Option ℕ) (cells' : List Cell) (model' : Option ValueMap) →
    IsKept problem budget places opened held found journal → IsStep problem budget (state_of problem journal) e →
    (next problem (state_of problem journal) e).cells ≡ cells' → (next problem (state_of problem journal) e).model ≡ model' →
    places' ≡ map place_of cells' → IsFound (journal ++ e ∷ []) found' model' → ListsOpen cells' opened' → ListsHeld cells' held' →
    IsKept problem budget places' opened' held' found' (journal ++ e ∷ [])
kept-next problem budget places opened held found journal e places' opened' held' found' cells' model' k step to model places_to found_to opens holds =
    let s = state_of-push problem journal e in
    let cells : (state_of problem (journal ++ e ∷ [])).cells ≡ cells' = ap (λ (x : State). x.cells) s ∙ to in
    record {
      legal = legal-push problem budget journal e k.legal step;
      places_are = places_to ∙ ap (map place_of) (sym cells);
      found_is = subst (IsFound (journal ++ e ∷ []) found') (sym model ∙ sym (ap (λ (x : State). x.model) s)) found_to;
      opens = subst (λ l. ListsOpen l opened') (sym cells) opens;
      holds = subst (λ l. ListsHeld l held') (sym cells) holds;
    }

-- a place that changes its mark, or grows
place-marked : (places places' : List Place) (cells : List Cell) (n : ℕ) (c : Cell) (mark : Mark) → places ≡ map place_of cells → item_at cells n ≡ Some c → IsMarked places n mark places' → places' ≡ map place_of (set_cell cells n (marked c mark))
place-marked places places' cells n c mark are is set =
    set (place_of c) (ap (λ l. item_at l n) are ∙ place-at cells n c is) ∙ (ap (λ l. set_cell l n (place_of (marked c mark))) are ∙ place-set cells n (marked c mark))

-- the state after an entry at the seat's own leaf
pub next-own : (problem : Parts) (s : State) (seat n : ℕ) (c : Cell) (event : Event) (over : Bool) → item_at s.cells n ≡ Some c → c.mark ≡ marks.Held seat → next problem s (entry seat n event over) ≡ touched problem s (entry seat n event over) c
next-own problem s seat n c event over is held =
    ap (next_at problem s (entry seat n event over)) is ∙ (ap (λ (m : Mark). cond (is_free_for seat m) (touched problem s (entry seat n event over) c) s) held ∙ ap (λ (t : Bool). cond t (touched problem s (entry seat n event over) c) s) (nat_eq-same seat))

pub next-open : (problem : Parts) (s : State) (seat n : ℕ) (c : Cell) (event : Event) (over : Bool) → item_at s.cells n ≡ Some c → c.mark ≡ marks.Open → next problem s (entry seat n event over) ≡ touched problem s (entry seat n event over) c
next-open problem s seat n c event over is mark =
    ap (next_at problem s (entry seat n event over)) is ∙ ap (λ (m : Mark). cond (is_free_for seat m) (touched problem s (entry seat n event over) c) s) mark

-- a seat gives up its leaf, which gets a mark that is for good
pub kept-ended : (t : Kept) (places places' : List Place) (opened : List ℕ) (held : List Holding) (found : Option ℕ) (e : Entry) (mark : Mark) →
    IsKept t.problem t.budget places opened held found t.journal → GivesUp t e mark → is_held mark ≡ false → is_open mark ≡ false → IsMarked places e.leaf mark places' →
    IsKept t.problem t.budget places' opened (without held e.seat) found (t.journal ++ e ∷ [])
kept-ended t places places' opened held found e mark k g unheld ended set =
    let s = state t in
    let c = g.held.0 in
    let all = g.to c g.held.1 in
    kept-next t.problem t.budget places opened held found t.journal e places' opened (without held e.seat) found (set_cell s.cells e.leaf (marked c mark)) s.model k g.step (ap (λ (x : State). x.cells) all) (ap (λ (x : State). x.model) all)
    (place-marked places places' s.cells e.leaf c mark k.places_are g.held.1 set)
    (found-more t.journal e found s.model k.found_is)
    (open-apart s.cells opened e.leaf c mark g.held.1 (ap is_open g.held.2) ended k.opens)
    (held-given_up s.cells held e.seat e.leaf c mark g.held.1 g.held.2 unheld k.holds)

-- a seat gives back its leaf, which is open again
pub kept-reopened : (t : Kept) (places places' : List Place) (opened : List ℕ) (held : List Holding) (found found' : Option ℕ) (e : Entry) →
    IsKept t.problem t.budget places opened held found t.journal → GivesBack t e found' → IsMarked places e.leaf marks.Open places' →
    IsKept t.problem t.budget places' (e.leaf ∷ opened) (without held e.seat) found' (t.journal ++ e ∷ [])
kept-reopened t places places' opened held found found' e k g set =
    let s = state t in
    let c = g.held.0 in
    let all = g.to c g.held.1 in
    kept-next t.problem t.budget places opened held found t.journal e places' (e.leaf ∷ opened) (without held e.seat) found' (set_cell s.cells e.leaf (marked c marks.Open)) g.model k g.step (ap (λ (x : State). x.cells) all) (ap (λ (x : State). x.model) all)
    (place-marked places places' s.cells e.leaf c marks.Open k.places_are g.held.1 set)
    g.found_is
    (opens-reopened s.cells e.leaf opened c g.held.1 (ap is_open g.held.2) k.opens)
    (held-given_up s.cells held e.seat e.leaf c marks.Open g.held.1 g.held.2 refl k.holds)

same-cell : (cells : List Cell) (n : ℕ) (c d : Cell) (mark : Mark) → item_at cells n ≡ Some c → item_at cells n ≡ Some d → c.mark ≡ mark → d.mark ≡ mark
same-cell cells n c d mark is also e = ap (λ (x : Cell). x.mark) (same_Some d c (sym also ∙ is)) ∙ e

pub gives_closed : (t : Kept) (seat n : ℕ) (closing : Closing) → has_answer (state t) ≡ false → IsAt t.problem t.budget (state t).cells seat n (events.Close closing) → GivesUp t (entry seat n (events.Close closing) false) (marks.Closed closing)
gives_closed t seat n closing going at =
    record { step = (going, inr at); held = (at.place, at.is, at.held); to = λ c is. next-own t.problem (state t) seat n c (events.Close closing) false is (same-cell (state t).cells n at.place c (marks.Held seat) at.is is at.held) }

pub gives_spent : (t : Kept) (seat n : ℕ) (cause : Cause) → has_answer (state t) ≡ false → IsAt t.problem t.budget (state t).cells seat n (events.Spend cause) → GivesUp t (entry seat n (events.Spend cause) false) (marks.Spent cause)
gives_spent t seat n cause going at =
    record { step = (going, inr at); held = (at.place, at.is, at.held); to = λ c is. next-own t.problem (state t) seat n c (events.Spend cause) false is (same-cell (state t).cells n at.place c (marks.Held seat) at.is is at.held) }

pub gives_found : (t : Kept) (seat n : ℕ) (values : ValueMap) → has_answer (state t) ≡ false → IsAt t.problem t.budget (state t).cells seat n (events.Found values) → GivesBack t (entry seat n (events.Found values) false) (Some (length t.journal))
gives_found t seat n values going at =
    let e = entry seat n (events.Found values) false in
    record { step = (going, inr at); held = (at.place, at.is, at.held); model = Some values; to = λ c is. next-own t.problem (state t) seat n c (events.Found values) false is (same-cell (state t).cells n at.place c (marks.Held seat) at.is is at.held); found_is = (e, get-last t.journal e, refl, values, refl) }

pub gives_over : (t : Kept) (places : List Place) (opened : List ℕ) (held : List Holding) (found : Option ℕ) (seat n : ℕ) (event : Event) → IsKept t.problem t.budget places opened held found t.journal → has_answer (state t) ≡ true → HasLeaf (state t).cells seat n → GivesBack t (entry seat n event true) found
gives_over t places opened held found seat n event k over h =
    record { step = (over, inl h); held = h; model = (state t).model; to = λ c is. next-own t.problem (state t) seat n c event true is (same-cell (state t).cells n h.0 c (marks.Held seat) h.1 is h.2); found_is = found-more t.journal (entry seat n event true) found (state t).model k.found_is }

-- a seat that holds nothing is told that all is over
pub kept-noted : (problem : Parts) (budget : ℕ) (places : List Place) (opened : List ℕ) (held : List Holding) (found : Option ℕ) (journal : List Entry) (seat : ℕ) (event : Event) →
    IsKept problem budget places opened held found journal → has_answer (state_of problem journal) ≡ true → HoldsNone (state_of problem journal).cells seat → IsKept problem budget places opened held found (journal ++ entry seat 0 event true ∷ [])
kept-noted problem budget places opened held found journal seat event k over none =
    let s = state_of problem journal in
    kept-next problem budget places opened held found journal (entry seat 0 event true) places opened held found s.cells s.model k (over, inr (none, refl)) refl refl k.places_are (found-more journal (entry seat 0 event true) found s.model k.found_is) k.opens k.holds

-- the top of the open leaves is handed out
pub kept-taken : (problem : Parts) (budget : ℕ) (places : List Place) (opened rest : List ℕ) (held : List Holding) (found : Option ℕ) (journal : List Entry) (seat n : ℕ) (places' : List Place) →
    IsKept problem budget places opened held found journal → has_answer (state_of problem journal) ≡ false → HoldsNone (state_of problem journal).cells seat → opened ≡ n ∷ rest →
    IsMarked places n (marks.Held seat) places' → IsKept problem budget places' rest (held ++ holding seat n ∷ []) found (journal ++ entry seat n events.Take false ∷ [])
kept-taken problem budget places opened rest held found journal seat n places' k going none stack set =
    let s = state_of problem journal in
    let e = entry seat n events.Take false in
    let opens : ListsOpen s.cells (n ∷ rest) = subst (ListsOpen s.cells) stack k.opens in
    let top : HasMark s.cells n marks.Open = opens.each n (ap (λ (t : Bool). t || is_in n rest) (nat_eq-same n)) in
    let c = top.0 in
    let to : next problem s e ≡ with_cell s n (marked c (marks.Held seat)) = next-open problem s seat n c events.Take false top.1 top.2 in
    kept-next problem budget places opened held found journal e _ rest (held ++ holding seat n ∷ []) found (set_cell s.cells n (marked c (marks.Held seat))) s.model k (going, inl (none, refl, top)) (ap (λ (x : State). x.cells) to) (ap (λ (x : State). x.model) to)
    (place-marked places places' s.cells n c (marks.Held seat) k.places_are top.1 set)
    (found-more journal e found s.model k.found_is)
    (opens-taken s.cells n seat rest c top.1 opens)
    (holds-taken s.cells held n seat c top.1 top.2 none k.holds)

-- the seat's leaf goes on
pub kept-grown : (problem : Parts) (budget : ℕ) (places : List Place) (opened : List ℕ) (held : List Holding) (found : Option ℕ) (journal : List Entry) (seat n : ℕ) (chain : List Step) (places' : List Place) →
    IsKept problem budget places opened held found journal → has_answer (state_of problem journal) ≡ false → IsAt problem budget (state_of problem journal).cells seat n (events.Grow chain) →
    HasMore places n chain places' → IsKept problem budget places' opened held found (journal ++ entry seat n (events.Grow chain) false ∷ [])
kept-grown problem budget places opened held found journal seat n chain places' k going at set =
    let s = state_of problem journal in
    let c = at.place in
    let e = entry seat n (events.Grow chain) false in
    let d = grown problem c chain in
    let to = next-own problem s seat n c (events.Grow chain) false at.is at.held in
    kept-next problem budget places opened held found journal e _ opened held found (set_cell s.cells n d) s.model k (going, inr at) (ap (λ (x : State). x.cells) to) (ap (λ (x : State). x.model) to)
    (set (place_of c) (ap (λ l. item_at l n) k.places_are ∙ place-at s.cells n c at.is) ∙ (ap (λ l. set_cell l n (place_of d)) k.places_are ∙ place-set s.cells n d))
    (found-more journal e found s.model k.found_is)
    (opens-kept s.cells n d c opened at.is refl k.opens)
    (holds-kept s.cells n d c held at.is refl k.holds)

map-both : {X Y : Type 0} (f : X → Y) (xs : List X) (a b : X) → map f xs ++ f a ∷ f b ∷ [] ≡ map f (xs ++ a ∷ b ∷ [])
map-both f [] a b = refl
map-both f (x ∷ xs) a b = ap (λ l. f x ∷ l) (map-both f xs a b)

pub length-map : {X Y : Type 0} (f : X → Y) (xs : List X) → length (map f xs) ≡ length xs
length-map f [] = refl
length-map f (x ∷ xs) = ap suc (length-map f xs)

-- the seat's leaf is split
pub kept-parted : (problem : Parts) (budget : ℕ) (places : List Place) (opened : List ℕ) (held : List Holding) (found : Option ℕ) (journal : List Entry) (seat n : ℕ) (step : Step) (places' : List Place) →
    IsKept problem budget places opened held found journal → has_answer (state_of problem journal) ≡ false → IsAt problem budget (state_of problem journal).cells seat n (events.Split step) →
    IsMarked places n (marks.Parted step (length places + 1)) places' → IsKept problem budget (places' ++ new_place n 1 ∷ new_place n 2 ∷ []) ((length places + 1) ∷ (length places + 1 + 1) ∷ opened) (without held seat) found (journal ++ entry seat n (events.Split step) false ∷ [])
kept-parted problem budget places opened held found journal seat n step places' k going at set =
    let s = state_of problem journal in
    let c = at.place in
    let e = entry seat n (events.Split step) false in
    let pair = at.suits.0.0 in
    let count : length places ≡ length s.cells = ap length k.places_are ∙ length-map place_of s.cells in
    let first = leaf n 1 (c.path ++ pair.0) (c.steps ++ taken step 1 ∷ []) in
    let second = leaf n 2 (c.path ++ pair.1) (c.steps ++ taken step 2 ∷ []) in
    let mark = marks.Parted step (length s.cells + 1) in
    let front = set_cell s.cells n (marked c mark) in
    let to : next problem s e ≡ record { cells = front ++ first ∷ second ∷ []; model = s.model } =
    next-own problem s seat n c (events.Split step) false at.is at.held ∙ ap (λ o. record { cells = front ++ offspring n c step o; model = s.model }) at.suits.0.1 in
    let long : length front ≡ length s.cells = length-set_cell s.cells n (marked c mark) in
    let one : suc (length front) ≡ length places + 1 = omega (arith, count, long) in
    let two : suc (suc (length front)) ≡ length places + 1 + 1 = omega (arith, count, long) in
    kept-next problem budget places opened held found journal e _ _ (without held seat) found (front ++ first ∷ second ∷ []) s.model k (going, inr at) (ap (λ (x : State). x.cells) to) (ap (λ (x : State). x.model) to)
    (ap (λ l. l ++ new_place n 1 ∷ new_place n 2 ∷ []) (place-marked places places' s.cells n c mark k.places_are at.is (subst (λ m. IsMarked places n (marks.Parted step (m + 1)) places') count set)) ∙ map-both place_of front first second)
    (found-more journal e found s.model k.found_is)
    (subst (λ x. ListsOpen (front ++ first ∷ second ∷ []) ((length places + 1) ∷ x ∷ opened)) two (subst (λ x. ListsOpen (front ++ first ∷ second ∷ []) (x ∷ suc (suc (length front)) ∷ opened)) one (opens-parted front first second opened refl refl (open-apart s.cells opened n c mark at.is (ap is_open at.held) refl k.opens))))
    (holds-parted front first second (without held seat) refl refl (held-given_up s.cells held seat n c mark at.is at.held refl k.holds))

-- what a tree tells of its state
pub leaf-told : (problem : Parts) (budget : ℕ) (places : List Place) (opened : List ℕ) (held : List Holding) (found : Option ℕ) (journal : List Entry) (seat : ℕ) (r : Option ℕ) → IsKept problem budget places opened held found journal → r ≡ leaf_of held seat → (n : ℕ) → HasLeaf (state_of problem journal).cells seat n ↔ (r ≡ Some n)
leaf-told problem budget places opened held found journal seat r k e n =
    (λ h. e ∙ k.holds.all seat n h, λ some. k.holds.each seat n (sym e ∙ some))

found-told : (journal : List Entry) (found : Option ℕ) (model : Option ValueMap) → IsFound journal found model → is_some found ≡ is_some model
found-told journal None model h = ap is_some (sym h)
found-told journal (Some i) model h = ap is_some (sym h.4)

pub answered-told : (problem : Parts) (budget : ℕ) (places : List Place) (opened : List ℕ) (held : List Holding) (found : Option ℕ) (journal : List Entry) → IsKept problem budget places opened held found journal → (is_some found || (is_nil opened && is_nil held)) ≡ has_answer (state_of problem journal)
answered-told problem budget places opened held found journal k =
    rw (found-told journal found (state_of problem journal).model k.found_is, lists-live (state_of problem journal).cells opened held k.opens k.holds) refl

pub top-open : (problem : Parts) (budget : ℕ) (places : List Place) (opened rest : List ℕ) (held : List Holding) (found : Option ℕ) (journal : List Entry) (n : ℕ) → IsKept problem budget places opened held found journal → opened ≡ n ∷ rest → HasMark (state_of problem journal).cells n marks.Open
top-open problem budget places opened rest held found journal n k e =
    k.opens.each n (rw e (ap (λ (t : Bool). t || is_in n rest) (nat_eq-same n)))

pub none-open : (problem : Parts) (budget : ℕ) (places : List Place) (opened : List ℕ) (held : List Holding) (found : Option ℕ) (journal : List Entry) → IsKept problem budget places opened held found journal → opened ≡ [] → NoneOpen (state_of problem journal).cells
none-open problem budget places opened held found journal k e n mark =
    false≢true (sym (ap (is_in n) e) ∙ k.opens.all n mark)

-- a cell's number is a place's
pub place-within : (problem : Parts) (budget : ℕ) (places : List Place) (opened : List ℕ) (held : List Holding) (found : Option ℕ) (journal : List Entry) (n : ℕ) (c : Cell) → IsKept problem budget places opened held found journal → item_at (state_of problem journal).cells n ≡ Some c → (1 ≤ n) × (n ≤ length places)
place-within problem budget places opened held found journal n c k is =
    let count : length places ≡ length (state_of problem journal).cells = ap length k.places_are ∙ length-map place_of (state_of problem journal).cells in
    let within = item-within (state_of problem journal).cells n c is in
    (item-first (state_of problem journal).cells n c is, omega (arith, count, within))

-- what a seat may ask at some leaf it may ask at the one that it holds
pub at-own : (problem : Parts) (budget : ℕ) (cells : List Cell) (seat leaf : ℕ) (event same : Event) → ((n : ℕ) → HasLeaf cells seat n → leaf ≡ n) → (n : ℕ) × IsAt problem budget cells seat n event → event ≡ same → IsAt problem budget cells seat leaf same
at-own problem budget cells seat leaf event same own at is =
    let number : leaf ≡ at.0 = own at.0 (at.1.place, at.1.is, at.1.held) in
    subst (λ e. IsAt problem budget cells seat leaf e) is (subst (λ n. IsAt problem budget cells seat n event) (sym number) at.1)

-- the same, by equal parts
pub kept-as : (problem : Parts) (budget : ℕ) (places : List Place) (opened opened' : List ℕ) (held held' : List Holding) (found : Option ℕ) (journal journal' : List Entry) → IsKept problem budget places opened held found journal → opened' ≡ opened → held' ≡ held → journal' ≡ journal → IsKept problem budget places opened' held' found journal'
kept-as problem budget places opened opened' held held' found journal journal' k a b c = rw (a, b, c) k

-- the room that a seat has which holds a leaf
pub room-of : (cells : List Cell) (held : List Holding) (seat n used room : ℕ) → ListsHeld cells held → HasLeaf cells seat n → used + length held ≤ room → used + length (without held seat) + 1 ≤ room
room-of cells held seat n used room lists h r =
    let f = fewer held seat n (lists.all seat n h) in
    omega (arith, f, r)

-- one more at the end is first from the end
pub reverse-pushed : (old : List ℕ) (n : ℕ) (new : List ℕ) → new ≡ old ++ n ∷ [] → reverse new ≡ n ∷ reverse old
reverse-pushed old n new e = ap reverse e ∙ reverse-append old (n ∷ [])

-- the root's leaf alone is kept at first
one-only : (n : ℕ) (b : Bool) → nat_eq n 1 ≡ b → (b || false) ≡ true → n ≡ 1
one-only n true t e = (unsigned_Decides n 1).0 t
one-only n false t e = absurd (false≢true e)

pub root-at : (problem : Parts) (n : ℕ) (c : Cell) → item_at (root_state problem).cells n ≡ Some c → (n ≡ 1) × (c ≡ root_cell problem)
root-at problem zero c e = absurd cc
root-at problem (suc zero) c e = (refl, sym (same_Some (root_cell problem) c e))
root-at problem (suc (suc n)) c e = absurd cc

pub kept-root : (problem : Parts) (budget : ℕ) → IsKept problem budget (new_place 0 0 ∷ []) (1 ∷ []) [] None []
kept-root problem budget =
    record {
      legal = tt;
      places_are = refl;
      found_is = refl;
      opens = record {
        all = λ n h. (let one = (root-at problem n h.0 h.1).0 in ap (λ (t : Bool). t || false) ((unsigned_Decides n 1).1 one));
        each = λ n e. (let one = one-only n (nat_eq n 1) refl e in subst (λ k. HasMark (root_state problem).cells k marks.Open) (sym one) (root_cell problem, refl, refl));
        once = (refl, tt);
      };
      holds = record {
        all = λ seat n h. absurd (let e : marks.Open ≡ marks.Held seat = ap (λ (c : Cell). c.mark) (sym (root-at problem n h.0 h.1).1) ∙ h.2 in cc);
        each = λ seat n e. absurd cc;
      };
    }

-- and so with what was pushed
pub kept-new : (problem : Parts) (budget : ℕ) (places : List Place) (p : Place) (opened : List ℕ) (held : List Holding) (journal : List Entry) → places ≡ [] → p ≡ new_place 0 0 → opened ≡ [] → held ≡ [] → journal ≡ [] → IsKept problem budget (places ++ p ∷ []) (reverse (opened ++ 1 ∷ [])) held None journal
kept-new problem budget places p opened held journal a b c d e = rw (a, b, c, d, e) (kept-root problem budget)

-- what a seat that holds nothing is told where there is an answer
pub ended-note : {X : Type 0} (t : Kept) (r : Result (Unit {0}) X) (new : Kept) (seat : ℕ) (event : Event) → has_answer (state t) ≡ true → HoldsNone (state t).cells seat → OnOk r (new ≡ with_entry t (entry seat 0 event true)) → OnOk r ((n : ℕ) × Adds t (entry seat n event true) new)
ended-note t (Ok x) new seat event over none e = (0, record { step = (over, inr (none, refl)); new_is = e })
ended-note t (Err x) new seat event over none e = tt

pub kept-split : (problem : Parts) (budget : ℕ) (places : List Place) (opened : List ℕ) (held : List Holding) (found : Option ℕ) (journal : List Entry) (seat n : ℕ) (step : Step) (first : ℕ) (places' : List Place) (opened' : List ℕ) (held' : List Holding) (journal' : List Entry) →
    IsKept problem budget places opened held found journal → has_answer (state_of problem journal) ≡ false → IsAt problem budget (state_of problem journal).cells seat n (events.Split step) →
    first ≡ length places + 1 → IsParted places n step places' → opened' ≡ first ∷ (first + 1) ∷ opened → held' ≡ without held seat → journal' ≡ journal ++ entry seat n (events.Split step) false ∷ [] →
    IsKept problem budget places' opened' held' found journal'
kept-split problem budget places opened held found journal seat n step first places' opened' held' journal' k going at one parted opens helds entries =
    rw (parted.2, opens, one, helds, entries) (kept-parted problem budget places opened held found journal seat n step parted.0 k going at parted.1)

-- an entry that was pushed where room was made before
pub pushed-entry : (old mid new : List Entry) (d e : Entry) → new ≡ mid ++ d ∷ [] → mid ≡ old → d ≡ e → new ≡ old ++ e ∷ []
pushed-entry old mid new d e a b c = a ∙ rw (b, c) refl

-- what was asked at the seat's own leaf was done
pub was_done : (t new : Kept) (seat n : ℕ) (event same : Event) → event ≡ same → (same ≡ events.Take → ⊥) → has_answer (state t) ≡ false → IsAt t.problem t.budget (state t).cells seat n same → new ≡ with_entry t (entry seat n same false) → (event ≢ events.Take) × (m : ℕ) × Adds t (entry seat m event false) new
was_done t new seat n event same is other going at e =
    (λ take. other (sym is ∙ take), n, record { step = (going, inr (subst (λ x. IsAt t.problem t.budget (state t).cells seat n x) (sym is) at)); new_is = e ∙ ap (λ x. with_entry t (entry seat n x false)) (sym is) })

pub was_done_ok : {X : Type 0} (t new : Kept) (r : Result (Unit {0}) X) (seat n : ℕ) (event same : Event) → event ≡ same → (same ≡ events.Take → ⊥) → has_answer (state t) ≡ false → IsAt t.problem t.budget (state t).cells seat n same → OnOk r (new ≡ with_entry t (entry seat n same false)) → OnOk r ((event ≢ events.Take) × (m : ℕ) × Adds t (entry seat m event false) new)
was_done_ok t new (Ok x) seat n event same is other going at e = was_done t new seat n event same is other going at e
was_done_ok t new (Err x) seat n event same is other going at e = tt

-- a seat that asks for what takes no room holds a leaf
pub leaf_there : (problem : Parts) (budget : ℕ) (s : State) (seat : ℕ) (event : Event) → May problem budget s seat event → takes_no_room event ≡ true → (n : ℕ) × HasLeaf s.cells seat n
leaf_there problem budget s seat events.Take may e = absurd (false≢true e)
leaf_there problem budget s seat (events.Grow chain) may e = absurd (false≢true e)
leaf_there problem budget s seat (events.Split step) may e = absurd (false≢true e)
leaf_there problem budget s seat (events.Close closing) may e = absurd (false≢true e)
leaf_there problem budget s seat (events.Spend cause) may e = (may.0, (may.1.place, may.1.is, may.1.held))
leaf_there problem budget s seat (events.Found values) may e = (may.0, (may.1.place, may.1.is, may.1.held))

pub not_ok : {A B : Type 0} (r : Result A B) (e : B) → r ≡ Err e → IsOk r → ⊥
not_ok (Ok x) e is ok = absurd cc
not_ok (Err x) e is ok = false≢true ok
