-- Through a list, token by token.
use Rattle.std.proofs.Common.{◌≡◌, ℕ, zero, suc, ◌+◌, ◌-◌, ◌<◌, ◌≤◌, Bool, true, false, ◌||◌, ◌&&◌, ◌==◌, nat_le, if◌then◌else◌, List, drop, length, get_or, refl, sym, ap, ◌∙◌, arith, subst}
use Rattle.std.proofs.lemmas.Bool.{ne_eqb, lt-leb}
use Rattle.sc_text.specs.declared.token.Kind.{Kind}
use Rattle.sc_text.specs.declared.mode.Mode.{Mode}
use Rattle.sc_text.specs.declared.mode.Mode.TheVariants as mode
use Rattle.sc_text.specs.declared.mode.Step.TheVariants as step
use Rattle.sc_text.specs.Bytes.{is_white, is_symbol_byte}
use Rattle.sc_text.specs.Modes.{is_start, step_of}
use Rattle.sc_text.proofs.Starts.{other}
use Rattle.sc_sexpr.specs.declared.state.State.{State}
use Rattle.sc_sexpr.specs.declared.state.Move.{Move}
use Rattle.sc_sexpr.specs.declared.state.Move.TheVariants as move
use Rattle.sc_sexpr.specs.declared.scan.Pass.{Pass}
use Rattle.sc_sexpr.specs.Moves.{is_idle, closed, line_after, begins, continues, fresh, move_of, Keeps}
use Rattle.sc_sexpr.specs.Scans.{Scan, scan, scan_after}
use Rattle.sc_sexpr.specs.Passes.{text_of, is_blank, IsPlaced, Skips, along, IsToken, IsBetween, AreNext, Glides}
use Rattle.sc_sexpr.proofs.Going.{scan-drop}
use Rattle.sc_sexpr.proofs.Skipping.{taken, left_out, line_stays, between_tokens}
use Rattle.sc_sexpr.proofs.Gliding.{goes}

busy : (s : State) → (s.depth == 0) ≡ false → is_idle s ≡ false
busy s e = ap (λ c. c && is_start s.mode) e

-- one byte further
one : (rest : List ℕ) (s t : State) (n : ℕ) → IsBetween s → IsBetween t → n < length rest → move_of s (get_or rest n 0) ≡ move.Go t → Keeps s (move.Go t) → Glides rest s n (t, n + 1)
one rest s t n bs bt lt e keeps = record {
  between = bt;
  order = omega arith;
  within = omega (arith, lt);
  skips = λ bytes p next k.
      goes bytes p s t n next.placed (busy s bs.inside) (omega (arith, next.within, lt)) (omega (arith, next.room, lt)) (ap (move_of s) (next.same n lt) ∙ e) keeps k;
}

left_moves : (s : State) → IsBetween s → nat_le 1000 s.depth ≡ false → move_of s 40 ≡ move.Go (record s { depth = s.depth + 1 })
unfolding move_of fresh step_of
left_moves s b few =
    left_out s.comment _ _ b.comment ∙ taken (is_start s.mode) _ _ b.start ∙ left_out (nat_le 1000 s.depth) _ _ few
    ∙ ap (λ (i : ℕ). move.Go (let t : State = record s { depth = s.depth + 1; item_line = i } in t)) (left_out (s.depth == 0) s.line s.item_line b.inside)

right_moves : (s : State) → IsBetween s → (s.depth == 1) ≡ false → move_of s 41 ≡ move.Go (record s { depth = s.depth - 1 })
unfolding move_of fresh step_of
right_moves s b more =
    left_out s.comment _ _ b.comment ∙ taken (is_start s.mode) _ _ b.start ∙ left_out (s.depth == 0) _ _ b.inside ∙ left_out (s.depth == 1) _ _ more

feed_moves : (s : State) → IsBetween s → move_of s 10 ≡ move.Go (record s { line = s.line + 1 })
unfolding move_of fresh
feed_moves s b = left_out s.comment _ _ b.comment ∙ taken (is_start s.mode) _ _ b.start

at_byte : (s : State) (x b : ℕ) (m : Move) → x ≡ b → move_of s b ≡ m → move_of s x ≡ m
at_byte s x b m e h = ap (move_of s) e ∙ h

pub left_glides : (rest : List ℕ) (s : State) (n : ℕ) → IsBetween s → n < length rest → get_or rest n 0 ≡ 40 → s.depth < 1000 → Glides rest s n (record s { depth = s.depth + 1 }, n + 1)
left_glides rest s n b lt e few =
    let le : nat_le 1000 s.depth ≡ false = lt-leb 1000 s.depth few in
    let deeper : (s.depth + 1 == 0) ≡ false = ne_eqb (s.depth + 1) 0 (λ h. omega (arith, h)) in
    one rest s (record s { depth = s.depth + 1 }) n b (record { comment = b.comment; start = b.start; inside = deeper }) lt (at_byte s _ 40 _ e (left_moves s b le))
    (omega arith, λ h. busy (record s { depth = s.depth + 1 }) deeper, λ h. h)

pub right_glides : (rest : List ℕ) (s : State) (n : ℕ) → IsBetween s → n < length rest → get_or rest n 0 ≡ 41 → 1 < s.depth → Glides rest s n (record s { depth = s.depth - 1 }, n + 1)
right_glides rest s n b lt e some =
    let inside : (s.depth - 1 == 0) ≡ false = ne_eqb (s.depth - 1) 0 (λ h. omega (arith, h, some)) in
    one rest s (record s { depth = s.depth - 1 }) n b (record { comment = b.comment; start = b.start; inside = inside }) lt
    (at_byte s _ 41 _ e (right_moves s b (ne_eqb s.depth 1 (λ h. omega (arith, h, some)))))
    (omega arith, λ h. busy (record s { depth = s.depth - 1 }) inside, λ h. h)

pub feed_glides : (rest : List ℕ) (s : State) (n : ℕ) → IsBetween s → n < length rest → get_or rest n 0 ≡ 10 → Glides rest s n (record s { line = s.line + 1 }, n + 1)
feed_glides rest s n b lt e =
    one rest s (record s { line = s.line + 1 }) n b (record { comment = b.comment; start = b.start; inside = b.inside }) lt (at_byte s _ 10 _ e (feed_moves s b))
    (omega arith, λ h. busy s b.inside, λ h. omega (arith, h))

pub blank_glides : (rest : List ℕ) (s : State) (n : ℕ) → IsBetween s → n < length rest → is_blank (get_or rest n 0) ≡ true → Glides rest s n (s, n + 1)
blank_glides rest s n b lt e =
    one rest s s n b b lt (between_tokens s (get_or rest n 0) b.comment b.start e) (omega arith, λ h. h, λ h. h)

-- Over a token.

symbol_not_white : (b : ℕ) → is_symbol_byte b ≡ true → is_white b ≡ false
unfolding is_symbol_byte
symbol_not_white b s = rw (other is_symbol_byte b 32 s refl, other is_symbol_byte b 9 s refl, other is_symbol_byte b 10 s refl, other is_symbol_byte b 13 s refl) refl

symbol_not : (b k : ℕ) → is_symbol_byte b ≡ true → is_symbol_byte k ≡ false → (b == k) ≡ false
symbol_not b k s h = other is_symbol_byte b k s h

symbol_no_comment : (b : ℕ) → is_symbol_byte b ≡ true → (b == 59) ≡ false
unfolding is_symbol_byte
symbol_no_comment b s = other is_symbol_byte b 59 s refl

symbol_no_feed : (b : ℕ) → is_symbol_byte b ≡ true → (b == 10) ≡ false
unfolding is_symbol_byte
symbol_no_feed b s = other is_symbol_byte b 10 s refl

-- a token at hand that began here
abbrev in_token : State → Mode → State
in_token s m = record s { mode = m; token_line = s.line }

first_moves : (s : State) (m : Mode) (b : ℕ) → IsBetween s → is_symbol_byte b ≡ true → step_of mode.Start b ≡ step.Go m → move_of s b ≡ move.Go (in_token s m)
unfolding move_of fresh
first_moves s m b h symbol e =
    left_out s.comment _ _ h.comment ∙ taken (is_start s.mode) _ _ h.start
    ∙ left_out (is_white b) _ _ (symbol_not_white b symbol) ∙ left_out (b == 59) _ _ (symbol_no_comment b symbol) ∙ ap (begins s b) e
    ∙ ap (λ (i : ℕ). move.Go (let t : State = record s { mode = m; token_line = s.line; item_line = i; line = line_after s b } in t)) (left_out (s.depth == 0) s.line s.item_line h.inside)
    ∙ ap (λ (l : ℕ). move.Go (let t : State = record s { mode = m; token_line = s.line; line = l } in t)) (line_stays s b (symbol_no_feed b symbol))

inner_moves : (s : State) (b : ℕ) → s.comment ≡ false → is_start s.mode ≡ false → is_symbol_byte b ≡ true → step_of s.mode b ≡ step.Go s.mode → move_of s b ≡ move.Go s
unfolding move_of
inner_moves s b c begun symbol e =
    left_out s.comment _ _ c ∙ left_out (is_start s.mode) _ _ begun ∙ ap (continues s b) e
    ∙ ap (λ (l : ℕ). move.Go (let t : State = record s { line = l } in t)) (line_stays s b (symbol_no_feed b symbol))

stop_moves : (s : State) (b : ℕ) (k : Kind) → s.comment ≡ false → is_start s.mode ≡ false → (s.depth == 0) ≡ false → step_of s.mode b ≡ step.Stop k → move_of s b ≡ move_of (closed s) b
unfolding move_of
stop_moves s b k c begun inside e =
    left_out s.comment _ _ c ∙ left_out (is_start s.mode) _ _ begun ∙ ap (continues s b) e ∙ left_out (s.depth == 0) _ _ inside ∙ sym (left_out s.comment _ _ c)

-- so many bytes further in the same state
stays_on : (bytes : List ℕ) (p : Pass) (s : State) (n k : ℕ) → IsPlaced bytes p → is_idle s ≡ false → ((i : ℕ) → i < k → move_of s (get_or bytes (p.at + (n + i)) 0) ≡ move.Go s) → p.at + (n + k) ≤ length bytes → n + k ≤ p.room → Skips bytes p (along p s n) → Skips bytes p (along p s (n + k))
stays_on bytes p s n zero placed h each within room skips = subst (λ (j : ℕ). Skips bytes p (along p s j)) (omega arith) skips
stays_on bytes p s n (suc k) placed h each within room skips =
    let before : Skips bytes p (along p s (n + k)) = stays_on bytes p s n k placed h (λ i lt. each i (omega (arith, lt))) (omega (arith, within)) (omega (arith, room)) skips in
    subst (λ (j : ℕ). Skips bytes p (along p s j)) (omega arith)
    (goes bytes p s s (n + k) placed h (omega (arith, within)) (omega (arith, room)) (each k (omega arith)) (omega arith, λ b. b, λ a. a) before)

close_same : (m : Move) (s : State) (text : List ℕ) (room b : ℕ) (bs : List ℕ) (f : State → List ℕ → Scan) → scan_after m s text room b bs f ≡ scan_after m (closed s) text room b bs f
close_same (move.Go t) s text room b bs f = refl
close_same (move.Done t) s text room b bs f = refl
close_same move.Before s text room b bs f = refl
close_same (move.Fail e) s text room b bs f = refl

-- the token at hand ends here
closes : (bytes : List ℕ) (p : Pass) (s : State) (n : ℕ) → (s.depth == 0) ≡ false → p.at + n < length bytes → n < p.room → move_of s (get_or bytes (p.at + n) 0) ≡ move_of (closed s) (get_or bytes (p.at + n) 0) → Skips bytes p (along p s n) → Skips bytes p (along p (closed s) n)
closes bytes p s n inside lt some e k =
    let more : 0 < p.room - n = omega (arith, some) in
    record {
      same =
          k.same
          ∙ scan-drop s (text_of bytes (along p s n)) (p.room - n) bytes (p.at + n) lt more
          ∙ close_same (move_of s (get_or bytes (p.at + n) 0)) s (text_of bytes (along p s n)) (p.room - n) (get_or bytes (p.at + n) 0) (drop (p.at + n + 1) bytes) (λ s' text'. scan s' text' (p.room - n - 1) (drop (p.at + n + 1) bytes))
          ∙ ap (λ (m : Move). scan_after m (closed s) (text_of bytes (along p s n)) (p.room - n) (get_or bytes (p.at + n) 0) (drop (p.at + n + 1) bytes) (λ s' text'. scan s' text' (p.room - n - 1) (drop (p.at + n + 1) bytes))) e
          ∙ sym (scan-drop (closed s) (text_of bytes (along p s n)) (p.room - n) bytes (p.at + n) lt more);
      resting = λ h. let not : is_idle (closed s) ≡ false = busy (closed s) inside in cc;
      follows = record {
        placed = record { order = k.follows.placed.order; within = k.follows.placed.within };
        grows = k.follows.grows;
        lines = k.follows.lines;
        ahead = k.follows.ahead;
        span = k.follows.span;
      };
      order = k.order;
    }

start_is : (m : Mode) → is_start m ≡ true → mode.Start ≡ m
start_is mode.Start e = refl
start_is m e = absurd cc

token_skips : (rest : List ℕ) (s : State) (n end : ℕ) → IsBetween s → IsToken rest n end → (bytes : List ℕ) (p : Pass) → AreNext bytes p rest → Skips bytes p (along p s n) → Skips bytes p (along p (record s { token_line = s.line }) end)
token_skips rest s n end b t bytes p next k =
    let order : n < end = t.order in
    let within : end < length rest = t.within in
    let fits : p.at + length rest ≤ length bytes = next.within in
    let room : length rest ≤ p.room = next.room in
    let count : n + 1 + (end - (n + 1)) ≡ end = omega arith in
    let byte : (i : ℕ) → i < length rest → get_or bytes (p.at + i) 0 ≡ get_or rest i 0 = next.same in
    let first : Skips bytes p (along p (in_token s t.reached) (n + 1)) =
    goes bytes p s (in_token s t.reached) n next.placed (busy s b.inside) (omega arith) (omega arith)
    (at_byte s _ _ _ (byte n (omega arith)) (first_moves s t.reached (get_or rest n 0) b (t.symbols n (omega arith) order) t.begins))
    (omega arith, λ h. busy (in_token s t.reached) b.inside, λ h. h) k in
    let all : Skips bytes p (along p (in_token s t.reached) (n + 1 + (end - (n + 1)))) =
    stays_on bytes p (in_token s t.reached) (n + 1) (end - (n + 1)) next.placed (busy (in_token s t.reached) b.inside)
    (λ i lt. at_byte (in_token s t.reached) _ _ _ (byte (n + 1 + i) (omega (arith, lt)))
    (inner_moves (in_token s t.reached) (get_or rest (n + 1 + i) 0) b.comment t.begun (t.symbols (n + 1 + i) (omega arith) (omega (arith, lt))) (t.goes (n + 1 + i) (omega arith) (omega (arith, lt)))))
    (omega arith) (omega arith) first in
    let there : Skips bytes p (along p (in_token s t.reached) end) = subst (λ (j : ℕ). Skips bytes p (along p (in_token s t.reached) j)) count all in
    let stop : move_of (in_token s t.reached) (get_or bytes (p.at + end) 0) ≡ move_of (closed (in_token s t.reached)) (get_or bytes (p.at + end) 0) =
    stop_moves (in_token s t.reached) (get_or bytes (p.at + end) 0) t.made b.comment t.begun b.inside (ap (step_of t.reached) (byte end within) ∙ t.stops) in
    subst (λ (m : Mode). Skips bytes p (along p (record s { mode = m; token_line = s.line }) end)) (start_is s.mode b.start)
    (closes bytes p (in_token s t.reached) end b.inside (omega arith) (omega arith) stop there)

space_by : (c : Bool) (rest : List ℕ) (s : State) (n end : ℕ) → (get_or rest end 0 == 32) ≡ c → IsBetween s → IsToken rest n end → Glides rest s n (record s { token_line = s.line }, (if c then end + 1 else end))
space_by false rest s n end e b t = record {
  between = record { comment = b.comment; start = b.start; inside = b.inside };
  order = t.order;
  within = omega (arith, t.within);
  skips = token_skips rest s n end b t;
}
space_by true rest s n end e b t =
    let u : State = record s { token_line = s.line } in
    let bu : IsBetween u = record { comment = b.comment; start = b.start; inside = b.inside } in
    let blank : is_blank (get_or rest end 0) ≡ true = ap (λ (x : Bool). x || get_or rest end 0 == 9 || get_or rest end 0 == 13) e in
    let g : Glides rest u end (u, end + 1) = blank_glides rest u end bu t.within blank in
    record {
      between = bu;
      order = omega (arith, t.order);
      within = omega (arith, t.within);
      skips = λ bytes p next k. g.skips bytes p next (token_skips rest s n end b t bytes p next k);
    }

pub token_glides : (rest : List ℕ) (s : State) (n end : ℕ) → IsBetween s → IsToken rest n end → Glides rest s n (record s { token_line = s.line }, (if get_or rest end 0 == 32 then end + 1 else end))
token_glides rest s n end b t = space_by (get_or rest end 0 == 32) rest s n end refl b t
