-- A pass over bytes, byte by byte.
use Rattle.std.proofs.Common.{◌≡◌, ℕ, ◌+◌, ◌-◌, ◌<◌, ◌≤◌, Bool, true, false, ◌==◌, if◌then◌else◌, List, [], ◌∷◌, ◌++◌, length, take, drop, get_or, refl, sym, ap, ◌∙◌, arith, add-one, drop-cons, eq-eqb}
use Rattle.std.proofs.lemmas.Bool.{ne_eqb}
use Rattle.std.proofs.lemmas.List.{take_more, get_or-drop, length-drop, drop_all}
use Rattle.sc_sexpr.specs.declared.item.Fault.{Fault}
use Rattle.sc_sexpr.specs.declared.state.State.{State}
use Rattle.sc_sexpr.specs.declared.state.Move.{Move}
use Rattle.sc_sexpr.specs.declared.state.Move.TheVariants as move
use Rattle.sc_sexpr.specs.declared.scan.Pass.{Pass}
use Rattle.sc_sexpr.specs.Moves.{is_idle, closed, move_of}
use Rattle.sc_sexpr.specs.Scans.{Scan, Waits, Top, Bad, text_after, scan_after, scan_past, scan}
use Rattle.sc_sexpr.specs.Passes.{text_of, IsPlaced, IsResting, Follows, Finds, found_past, scan_from}

-- one more byte of a part of the bytes
pub part_more : (bytes : List ℕ) (from at : ℕ) → from ≤ at → at < length bytes → take (at + 1 - from) (drop from bytes) ≡ take (at - from) (drop from bytes) ++ get_or bytes at 0 ∷ []
part_more bytes from at le lt =
    let more : at + 1 - from ≡ at - from + 1 = omega arith in
    let within : at - from < length (drop from bytes) = omega (arith, length-drop from bytes) in
    let there : from + (at - from) ≡ at = omega arith in
    rw more (take_more (drop from bytes) (at - from) 0 within ∙ ap (λ x. take (at - from) (drop from bytes) ++ x ∷ []) (get_or-drop from bytes (at - from) 0 ∙ ap (λ i. get_or bytes i 0) there))

-- no part behind a place
pub part_none : (bytes : List ℕ) (at : ℕ) → take (at - at) (drop at bytes) ≡ []
part_none bytes at = let none : at - at ≡ 0 = omega arith in rw none refl

idle_text : (b : Bool) (x y : List ℕ) → b ≡ true → x ≡ [] → x ≡ (if b then [] else y)
idle_text true x y e h = h
idle_text false x y e h = cc

busy_text : (b : Bool) (x y : List ℕ) → b ≡ false → x ≡ y → x ≡ (if b then [] else y)
busy_text true x y e h = cc
busy_text false x y e h = h

pub text_idle : (s : State) (bytes : List ℕ) (from at : ℕ) (text : List ℕ) (b : ℕ) → is_idle s ≡ true → from ≡ at → take (at - from) (drop from bytes) ≡ text_after s text b
text_idle s bytes from at text b idle e = idle_text (is_idle s) _ _ idle (rw e (part_none bytes at))

pub text_busy : (s : State) (bytes : List ℕ) (from at : ℕ) → is_idle s ≡ false → from ≤ at → at < length bytes → take (at + 1 - from) (drop from bytes) ≡ text_after s (take (at - from) (drop from bytes)) (get_or bytes at 0)
text_busy s bytes from at busy le lt = busy_text (is_idle s) _ _ busy (part_more bytes from at le lt)

with_room : (r : ℕ) (x y : Scan) → 0 < r → (if r == 0 then x else y) ≡ y
with_room r x y lt = ap (λ c. if c then x else y) (ne_eqb r 0 (λ e. omega arith))

no_room : (r : ℕ) (x y : Scan) → r ≡ 0 → (if r == 0 then x else y) ≡ x
no_room r x y e = ap (λ c. if c then x else y) (eq-eqb r 0 e)

pub scan-drop : (s : State) (text : List ℕ) (room : ℕ) (bytes : List ℕ) (at : ℕ) → at < length bytes → 0 < room → scan s text room (drop at bytes) ≡ scan_after (move_of s (get_or bytes at 0)) s text room (get_or bytes at 0) (drop (at + 1) bytes) (λ s' text'. scan s' text' (room - 1) (drop (at + 1) bytes))
unfolding scan
scan-drop s text room bytes at lt some = rw (add-one, drop-cons bytes at 0) (with_room room _ _ some)

scan-by : (s : State) (text : List ℕ) (room : ℕ) (bytes : List ℕ) (at : ℕ) (m : Move) → at < length bytes → 0 < room → move_of s (get_or bytes at 0) ≡ m → scan s text room (drop at bytes) ≡ scan_after m s text room (get_or bytes at 0) (drop (at + 1) bytes) (λ s' text'. scan s' text' (room - 1) (drop (at + 1) bytes))
scan-by s text room bytes at m lt some e = rw (← e) (scan-drop s text room bytes at lt some)

pub scan_goes : (bytes : List ℕ) (p q : Pass) (s : State) → p.at < length bytes → 0 < p.room → move_of p.state (get_or bytes p.at 0) ≡ move.Go s → q.state ≡ s → text_of bytes q ≡ text_after s (text_of bytes p) (get_or bytes p.at 0) → q.room + 1 ≡ p.room → q.at ≡ p.at + 1 → scan_from bytes p ≡ scan_from bytes q
scan_goes bytes p q s lt some e state text room at =
    let r : q.room ≡ p.room - 1 = omega arith in
    scan-by p.state (text_of bytes p) p.room bytes p.at (move.Go s) lt some e ∙ rw (text, state, r, at) refl

pub scan_done : (bytes : List ℕ) (p : Pass) (s : State) → IsPlaced bytes p → p.at < length bytes → 0 < p.room → move_of p.state (get_or bytes p.at 0) ≡ move.Done s → scan_from bytes p ≡ Top (take (p.at + 1 - p.from) (drop p.from bytes)) p.state.item_line s (p.room - 1) (drop (p.at + 1) bytes)
scan_done bytes p s placed lt some e =
    scan-by p.state (text_of bytes p) p.room bytes p.at (move.Done s) lt some e ∙ ap (λ x. Top x p.state.item_line s (p.room - 1) (drop (p.at + 1) bytes)) (sym (part_more bytes p.from p.at placed.order lt))

pub scan_before : (bytes : List ℕ) (p : Pass) → p.at < length bytes → 0 < p.room → move_of p.state (get_or bytes p.at 0) ≡ move.Before → scan_from bytes p ≡ Top (text_of bytes p) p.state.item_line (closed p.state) p.room (drop p.at bytes)
scan_before bytes p lt some e =
    scan-by p.state (text_of bytes p) p.room bytes p.at move.Before lt some e ∙ ap (λ x. Top (text_of bytes p) p.state.item_line (closed p.state) p.room x) (rw add-one (sym (drop-cons bytes p.at 0 lt)))

pub scan_fails : (bytes : List ℕ) (p : Pass) (f : Fault) → p.at < length bytes → 0 < p.room → move_of p.state (get_or bytes p.at 0) ≡ move.Fail f → scan_from bytes p ≡ Bad f
scan_fails bytes p f lt some e = scan-by p.state (text_of bytes p) p.room bytes p.at (move.Fail f) lt some e

scan_full : (bytes : List ℕ) (p : Pass) (m : Move) → p.at < length bytes → p.room ≡ 0 → move_of p.state (get_or bytes p.at 0) ≡ m → scan_from bytes p ≡ scan_past m p.state (text_of bytes p) (get_or bytes p.at 0) (drop (p.at + 1) bytes)
unfolding scan
scan_full bytes p m lt none e = rw (← e) (rw (add-one, drop-cons bytes p.at 0) (no_room p.room _ _ none))

-- the item at hand ends
pub ended_follows : (bytes : List ℕ) (old p : Pass) → Follows bytes old p → Follows bytes old (record p { state = closed p.state })
ended_follows bytes old p f = record { placed = record { order = f.placed.order; within = f.placed.within }; grows = f.grows; lines = f.lines; ahead = f.ahead; span = f.span }

-- what a byte past the limit shows
pub past_finds : (bytes : List ℕ) (old p : Pass) (m : Move) → Follows bytes old p → p.at < length bytes → p.room ≡ 0 → move_of p.state (get_or bytes p.at 0) ≡ m → scan_from bytes old ≡ scan_from bytes p → Finds bytes old (found_past m p) (scan_from bytes old)
past_finds bytes old p (move.Go s) f lt none e same = same ∙ scan_full bytes p (move.Go s) lt none e
past_finds bytes old p (move.Done s) f lt none e same = same ∙ scan_full bytes p (move.Done s) lt none e
past_finds bytes old p move.Before f lt none e same = (
  same ∙ scan_full bytes p move.Before lt none e
      ∙ ap (λ n. Top (text_of bytes p) p.state.item_line (closed p.state) n (get_or bytes p.at 0 ∷ drop (p.at + 1) bytes)) (sym none)
      ∙ ap (λ x. Top (text_of bytes p) p.state.item_line (closed p.state) p.room x) (rw add-one (sym (drop-cons bytes p.at 0 lt))),
  ended_follows bytes old p f,
  f.ahead,
)
past_finds bytes old p (move.Fail g) f lt none e same = same ∙ scan_full bytes p (move.Fail g) lt none e

pub scan_waits : (bytes : List ℕ) (p : Pass) → length bytes ≤ p.at → scan_from bytes p ≡ Waits p.state (text_of bytes p) p.room
unfolding scan
scan_waits bytes p le = rw (drop_all p.at bytes le) refl

grows_by : (b : Bool) (old p q : Pass) (s : State) → is_idle p.state ≡ b → old.at - old.from ≤ p.at - p.from → IsResting p → (is_idle p.state ≡ false → is_idle s ≡ false) → (is_idle s ≡ false → q.from ≡ p.from) → q.at ≡ p.at + 1 → old.at - old.from ≤ q.at - q.from
grows_by true old p q s e h rests keeps same at = let here : p.from ≡ p.at = rests e in omega arith
grows_by false old p q s e h rests keeps same at = let here : q.from ≡ p.from = same (keeps e) in omega arith

-- the bytes of an item at hand stay
pub still_grows : (old p q : Pass) (s : State) → old.at - old.from ≤ p.at - p.from → IsResting p → (is_idle p.state ≡ false → is_idle s ≡ false) → (is_idle s ≡ false → q.from ≡ p.from) → q.at ≡ p.at + 1 → old.at - old.from ≤ q.at - q.from
still_grows old p q s = grows_by (is_idle p.state) old p q s refl
