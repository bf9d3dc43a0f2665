-- Passing over the bytes that leave a state as it is.
use Rattle.std.proofs.Common.{◌≡◌, ℕ, zero, suc, ◌+◌, ◌-◌, ◌<◌, ◌≤◌, Bool, true, false, ◌||◌, ◌==◌, not, if◌then◌else◌, List, length, take, drop, get_or, refl, sym, ap, ◌∙◌, arith}
use Rattle.std.specs.List.{prefix_len}
use Rattle.std.proofs.lemmas.Bool.{eqb-true}
use Rattle.std.proofs.lemmas.List.{get_or-drop, length-drop}
use Rattle.std.proofs.lemmas.List.Sums.{prefix_len-le-length, prefix_len_passes}
use Rattle.sc_text.specs.declared.mode.Mode.{Mode}
use Rattle.sc_text.specs.declared.mode.Mode.TheVariants as mode
use Rattle.sc_text.specs.Bytes.{is_white, is_break, is_symbol_byte}
use Rattle.sc_text.specs.Modes.{is_start, stays}
use Rattle.sc_text.proofs.Walks.{stays_goes}
use Rattle.sc_sexpr.specs.declared.state.State.{State}
use Rattle.sc_sexpr.specs.declared.state.Move.TheVariants as move
use Rattle.sc_sexpr.specs.declared.scan.Pass.{Pass}
use Rattle.sc_sexpr.specs.Moves.{is_idle, line_after, fresh, continues, move_of}
use Rattle.sc_sexpr.specs.Passes.{text_of, IsPlaced, IsResting, Follows, scan_from, is_blank, no_break, unmoved, further, Skips}
use Rattle.sc_sexpr.specs.Scans.{text_after}
use Rattle.sc_sexpr.proofs.Going.{part_none, scan_goes, text_idle, text_busy}

pub taken : {A : Type 0} (c : Bool) (x y : A) → c ≡ true → (if c then x else y) ≡ x
taken true x y e = refl
taken false x y e = cc

pub left_out : {A : Type 0} (c : Bool) (x y : A) → c ≡ false → (if c then x else y) ≡ y
left_out true x y e = cc
left_out false x y e = refl

-- where a line feed does not pass, a byte that passes is none
no_feed_by : (x : Bool) (p : ℕ → Bool) (b : ℕ) → (b == 10) ≡ x → p 10 ≡ false → p b ≡ true → (b == 10) ≡ false
no_feed_by true p b e h there = let same : b ≡ 10 = eqb-true b 10 e in let not : p b ≡ false = ap p same ∙ h in cc
no_feed_by false p b e h there = e

pub no_feed : (p : ℕ → Bool) (b : ℕ) → p 10 ≡ false → p b ≡ true → (b == 10) ≡ false
no_feed p b = no_feed_by (b == 10) p b refl

stays_feed : (m : Mode) → stays m 10 ≡ false
unfolding is_symbol_byte
stays_feed mode.Symbol = refl
stays_feed mode.Keyword = refl
stays_feed mode.Literal = refl
stays_feed mode.Quoted = refl
stays_feed mode.Start = refl
stays_feed mode.Zero = refl
stays_feed mode.Digits = refl
stays_feed mode.Dot = refl
stays_feed mode.Decimal = refl
stays_feed mode.Hash = refl
stays_feed mode.HexStart = refl
stays_feed mode.Hex = refl
stays_feed mode.BinaryStart = refl
stays_feed mode.Binary = refl
stays_feed mode.Colon = refl
stays_feed mode.LiteralQuote = refl

pub line_stays : (s : State) (b : ℕ) → (b == 10) ≡ false → line_after s b ≡ s.line
line_stays s b e = left_out (b == 10) (s.line + 1) s.line e

pub same_state : (s : State) (c : Bool) (l : ℕ) → c ≡ s.comment → l ≡ s.line → (let t : State = record s { comment = c; line = l } in t) ≡ s
same_state s c l e f =
    ap (λ (x : Bool). let t : State = record s { comment = x; line = l } in t) e
    ∙ ap (λ (x : ℕ). let t : State = record s { line = x } in t) f

in_comment : (s : State) (b : ℕ) → s.comment ≡ true → no_break b ≡ true → move_of s b ≡ move.Go s
unfolding move_of
in_comment s b c e =
    taken s.comment _ _ c ∙ ap move.Go (same_state s (not (is_break b)) (line_after s b) (e ∙ sym c) (line_stays s b (no_feed no_break b refl e)))

blank_white : (x y z w : Bool) → (x || y || w) ≡ true → (x || y || z || w) ≡ true
blank_white true y z w e = refl
blank_white false true z w e = refl
blank_white false false true w e = refl
blank_white false false false w e = e

pub between_tokens : (s : State) (b : ℕ) → s.comment ≡ false → is_start s.mode ≡ true → is_blank b ≡ true → move_of s b ≡ move.Go s
unfolding move_of fresh
between_tokens s b c start e =
    left_out s.comment _ _ c ∙ taken (is_start s.mode) _ _ start
    ∙ taken (is_white b) _ _ (blank_white (b == 32) (b == 9) (b == 10) (b == 13) e)
    ∙ ap move.Go (same_state s s.comment (line_after s b) refl (line_stays s b (no_feed is_blank b refl e)))

in_token : (s : State) (b : ℕ) → s.comment ≡ false → is_start s.mode ≡ false → stays s.mode b ≡ true → move_of s b ≡ move.Go s
unfolding move_of
in_token s b c start e =
    left_out s.comment _ _ c ∙ left_out (is_start s.mode) _ _ start ∙ ap (continues s b) (stays_goes s.mode b e)
    ∙ ap move.Go (same_state s s.comment (line_after s b) refl (line_stays s b (no_feed (stays s.mode) b (stays_feed s.mode) e)))

unmoved_by : (c d : Bool) (s : State) (b : ℕ) → s.comment ≡ c → is_start s.mode ≡ d → (if c then no_break else if d then is_blank else stays s.mode) b ≡ true → move_of s b ≡ move.Go s
unmoved_by true d s b c start e = in_comment s b c e
unmoved_by false true s b c start e = between_tokens s b c start e
unmoved_by false false s b c start e = in_token s b c start e

pub unmoved_goes : (s : State) (b : ℕ) → unmoved s b ≡ true → move_of s b ≡ move.Go s
unmoved_goes s b e = unmoved_by s.comment (is_start s.mode) s b refl refl e

scan_same : (bytes : List ℕ) (p q : Pass) → q.state ≡ p.state → text_of bytes q ≡ text_of bytes p → q.room ≡ p.room → q.at ≡ p.at → scan_from bytes p ≡ scan_from bytes q
scan_same bytes p q state text room at = rw (text, state, room, at) refl

text_zero : (i : Bool) (bytes : List ℕ) (p : Pass) → (i ≡ true → p.from ≡ p.at) → text_of bytes (further i p 0) ≡ text_of bytes p
text_zero true bytes p h = part_none bytes (p.at + 0) ∙ sym (ap (λ f. take (p.at - f) (drop f bytes)) (h refl) ∙ part_none bytes p.at)
text_zero false bytes p h = let same : p.at + 0 ≡ p.at = omega arith in ap (λ k. take (k - p.from) (drop p.from bytes)) same

text_suc : (i : Bool) (bytes : List ℕ) (p : Pass) (n : ℕ) → is_idle p.state ≡ i → p.from ≤ p.at → p.at + n < length bytes → text_of bytes (further i p (suc n)) ≡ text_after p.state (text_of bytes (further i p n)) (get_or bytes (p.at + n) 0)
text_suc true bytes p n e le lt = text_idle p.state bytes (p.at + suc n) (p.at + suc n) _ _ e refl
text_suc false bytes p n e le lt =
    let next : p.at + suc n ≡ p.at + n + 1 = omega arith in
    let order : p.from ≤ p.at + n = omega arith in
    ap (λ k. take (k - p.from) (drop p.from bytes)) next ∙ text_busy p.state bytes p.from (p.at + n) e order lt

skips_by : (i : Bool) (bytes : List ℕ) (p : Pass) (n : ℕ) → is_idle p.state ≡ i → IsPlaced bytes p → IsResting p → n ≤ p.room → n ≤ prefix_len (unmoved p.state) (drop p.at bytes) → scan_from bytes p ≡ scan_from bytes (further i p n)
skips_by i bytes p zero e placed rests room le =
    let at : p.at + 0 ≡ p.at = omega arith in
    let left : p.room - 0 ≡ p.room = omega arith in
    scan_same bytes p (further i p 0) refl (text_zero i bytes p (λ h. rests (e ∙ h))) left at
skips_by i bytes p (suc n) e placed rests room le =
    let before : n < prefix_len (unmoved p.state) (drop p.at bytes) = omega arith in
    let within : p.at + n < length bytes = omega (arith, prefix_len-le-length (unmoved p.state) (drop p.at bytes), length-drop p.at bytes) in
    let there : unmoved p.state (get_or bytes (p.at + n) 0) ≡ true = ap (unmoved p.state) (sym (get_or-drop p.at bytes n 0)) ∙ prefix_len_passes (unmoved p.state) (drop p.at bytes) n 0 before in
    let some : 0 < p.room - n = omega arith in
    let left : p.room - suc n + 1 ≡ p.room - n = omega arith in
    let next : p.at + suc n ≡ p.at + n + 1 = omega arith in
    skips_by i bytes p n e placed rests (omega arith) (omega arith)
    ∙ scan_goes bytes (further i p n) (further i p (suc n)) p.state within some (unmoved_goes p.state (get_or bytes (p.at + n) 0) there) refl (text_suc i bytes p n e placed.order within) left next

gives_by : (i : Bool) (bytes : List ℕ) (p : Pass) (n : ℕ) → is_idle p.state ≡ i → IsPlaced bytes p → IsResting p → n ≤ p.room → n ≤ prefix_len (unmoved p.state) (drop p.at bytes) → p.at + n ≤ length bytes → Skips bytes p (further i p n)
gives_by true bytes p n e placed rests room le within = record {
  same = skips_by true bytes p n e placed rests room le;
  resting = λ h. refl;
  follows = record {
    placed = record { order = omega arith; within = within };
    grows = let here : p.from ≡ p.at = rests e in omega arith;
    lines = omega arith;
    ahead = λ h. h;
    span = omega arith;
  };
  order = omega arith;
}
gives_by false bytes p n e placed rests room le within = record {
  same = skips_by false bytes p n e placed rests room le;
  resting = λ h. cc;
  follows = record {
    placed = record { order = let order : p.from ≤ p.at = placed.order in omega arith; within = within };
    grows = omega arith;
    lines = omega arith;
    ahead = λ h. h;
    span = let order : p.from ≤ p.at = placed.order in omega arith;
  };
  order = omega arith;
}

pub skip_gives : (bytes : List ℕ) (p : Pass) (n : ℕ) → IsPlaced bytes p → IsResting p → n ≤ p.room → n ≤ prefix_len (unmoved p.state) (drop p.at bytes) → Skips bytes p (further (is_idle p.state) p n)
skip_gives bytes p n placed rests room le =
    let within : p.at + n ≤ length bytes = omega (arith, placed.within, prefix_len-le-length (unmoved p.state) (drop p.at bytes), length-drop p.at bytes) in
    gives_by (is_idle p.state) bytes p n refl placed rests room le within

pub follows_on : (bytes : List ℕ) (p q r : Pass) → Follows bytes p q → Follows bytes q r → Follows bytes p r
follows_on bytes p q r f g = record {
  placed = g.placed;
  grows = omega (arith, f.grows, g.grows);
  lines = omega (arith, f.lines, g.lines);
  ahead = λ h. g.ahead (f.ahead h);
  span = omega (arith, f.span, g.span);
}
