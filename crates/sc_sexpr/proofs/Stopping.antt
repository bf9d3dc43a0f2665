-- Where a reader stops.
use Rattle.std.proofs.Common.{◌≡◌, ℕ, zero, suc, ◌+◌, ◌-◌, ◌<◌, ◌≤◌, Bool, true, false, ◌&&◌, ◌==◌, nat_lt, if◌then◌else◌, List, [], ◌∷◌, ◌++◌, length, take, drop, Some, None, refl, sym, ap, ◌∙◌, arith}
use Rattle.std.proofs.lemmas.Bool.{ltb-true, ltb-false, lt-ltb, le-ltb}
use Rattle.std.proofs.lemmas.List.{length-drop}
use Rattle.sc_text.specs.declared.token.Kind.{Kind}
use Rattle.sc_text.specs.declared.mode.Mode.TheVariants as mode
use Rattle.sc_text.specs.declared.mode.Step.{Step}
use Rattle.sc_text.specs.declared.mode.Step.TheVariants as step
use Rattle.sc_text.specs.declared.front.Run.{Run}
use Rattle.sc_text.specs.declared.front.Run.TheVariants.{Takes, Ends, Fails}
use Rattle.sc_text.specs.declared.front.Front.TheVariants.{Token as Found}
use Rattle.sc_text.specs.Place.{Place}
use Rattle.sc_text.specs.Bytes.{line_feeds}
use Rattle.sc_text.specs.Modes.{is_start, step_of, longer, run}
use Rattle.sc_text.specs.Fronts.{gap_step, gap, gap_len, after_gap, front_of, front_at, front}
use Rattle.sc_text.specs.Answers.{token_start, token_line}
use Rattle.sc_sexpr.specs.declared.item.Fault.TheVariants.{Limit}
use Rattle.sc_sexpr.specs.declared.state.Move.TheVariants as move
use Rattle.sc_sexpr.specs.Moves.{begins, fresh}
use Rattle.sc_sexpr.specs.Scans.{stops, reads}
use Rattle.sc_sexpr.specs.Walk.{is_broken, Input, past_limit}
use Rattle.sc_sexpr.proofs.Reading.{fresh_not_before, closed_moves, past_by}
use Rattle.sc_sexpr.proofs.AtHand.{step_goes, step_stops}
use Rattle.sc_sexpr.proofs.Stretches.{St, Md, line_of, reads_suc, reads_zero, onto, start_move, gap_full, gap_within, gap_before}
use Rattle.sc_sexpr.proofs.Running.{run_full, run_cons, md_text, longer_found}
use Rattle.sc_sexpr.proofs.Walking.{At, Inside, onward, true_false, feeds_add, left_len, at_onward, gap_fits, outer, front_some, token_begins}

-- The first bytes, as many as may be read.

abbrev pub near : Input → Place → List ℕ
near i p = take (i.room - p.start) p.left

pub near_after : (i : Input) (p : Place) → At i p → token_start p ≤ i.room → after_gap (near i p) ≡ take (i.room - token_start p) (after_gap p.left)
near_after i p a room =
    let split : i.room - p.start ≡ (i.room - (p.start + gap_len p.left)) + gap_len p.left = omega arith in
    ap (λ n. after_gap (take n p.left)) split ∙ gap_before p.left false (i.room - token_start p)

nothing_broken : (c : Bool) → is_broken (front_at false c []) ≡ false
nothing_broken true = refl
nothing_broken false = refl

pub near_empty : (xs : List ℕ) → after_gap xs ≡ [] → is_broken (front false xs) ≡ false
unfolding front
near_empty xs e = ap (λ ys. is_broken (front_at false (gap false xs).comment ys)) e ∙ nothing_broken (gap false xs).comment

pub near_gap : (i : Input) (p : Place) → At i p → i.room - p.start < gap_len p.left → is_broken (front false (near i p)) ≡ false
near_gap i p a lt = near_empty (near i p) (gap_within p.left false (i.room - p.start) lt)

pub broken_run : (r : Run) → is_broken (front_of false r) ≡ true → r ≡ Fails
broken_run (Takes n k) e = cc
broken_run (Ends n m) e = cc
broken_run Fails e = refl

-- how many bytes of the token may be read
pub near_token : (i : Input) (p : Place) (b : ℕ) (bs : List ℕ) (r : ℕ) → At i p → token_start p ≤ i.room → after_gap p.left ≡ b ∷ bs → i.room - token_start p ≡ suc r → front false (near i p) ≡ front_of false (run mode.Start (b ∷ take r bs))
near_token i p b bs r a room is more =
    front_some false (near i p) b (take r bs) (near_after i p a room ∙ ap (λ n. take n (after_gap p.left)) more ∙ ap (take (suc r)) is)

-- The limit.

limit_line : (z c : Bool) (i : Input) (d top il x own start first : ℕ) → (d == 0) ≡ z → nat_lt start i.room ≡ c → ((d == 0) ≡ false → il ≡ top) → x ≡ (if c then first else own) → own ≡ i.line + line_feeds (take i.room i.text) →
    stops (Limit (if z then x else il) i.number) ≡ past_limit i d top start first
limit_line true c i d top il x own start first z lt same is mine =
    ap (λ n. stops (Limit n i.number)) (is ∙ ap (λ n. if c then first else n) mine ∙ ap (λ v. if v then first else i.line + line_feeds (take i.room i.text)) (sym lt))
    ∙ sym (ap (λ v. stops (Limit (if v then if nat_lt start i.room then first else i.line + line_feeds (take i.room i.text) else top) i.number)) z)
limit_line false c i d top il x own start first z lt same is mine =
    ap (λ n. stops (Limit n i.number)) (same z) ∙ sym (ap (λ v. stops (Limit (if v then if nat_lt start i.room then first else i.line + line_feeds (take i.room i.text) else top) i.number)) z)

and_same : (z : Bool) (x y : ℕ) → (if z && true then x else y) ≡ (if z then x else y)
and_same true x y = refl
and_same false x y = refl

own_line : (i : Input) (p : Place) → At i p → p.line + line_feeds (take (i.room - p.start) p.left) ≡ i.line + line_feeds (take i.room i.text)
own_line i p a =
    let room : p.start ≤ i.room = a.room in
    let there : p.start + (i.room - p.start) ≡ i.room = omega arith in
    let both : line_feeds (take (p.start + (i.room - p.start)) i.text) ≡ line_feeds (take p.start i.text) + line_feeds (take (i.room - p.start) (drop p.start i.text)) = feeds_add p.start (i.room - p.start) i.text in
    let same : line_feeds (take (i.room - p.start) p.left) ≡ line_feeds (take (i.room - p.start) (drop p.start i.text)) = ap (λ (xs : List ℕ). line_feeds (take (i.room - p.start) xs)) a.left in
    let line : p.line ≡ i.line + line_feeds (take p.start i.text) = a.line in
    let all : p.line + line_feeds (take (i.room - p.start) p.left) ≡ i.line + line_feeds (take (p.start + (i.room - p.start)) i.text) = omega arith in
    all ∙ ap (λ n. i.line + line_feeds (take n i.text)) there

limit_gap : (i : Input) (p : Place) (d from top tl il : ℕ) (t : List ℕ) → At i p → Inside i d from top p t il → i.room - p.start < gap_len p.left →
    reads i.number (St d tl il p.line false) t (i.room - p.start) p.left ≡ past_limit i d top (token_start p) (token_line p)
limit_gap i p d from top tl il t a h lt =
    gap_full p.left i.number d tl il false p.line t (i.room - p.start) lt
    ∙ ap (λ n. stops (Limit n i.number)) (and_same (d == 0) (p.line + line_feeds (take (i.room - p.start) p.left)) il)
    ∙ limit_line (d == 0) false i d top il (p.line + line_feeds (take (i.room - p.start) p.left)) (p.line + line_feeds (take (i.room - p.start) p.left)) (token_start p) (token_line p) refl (le-ltb (token_start p) i.room (omega (arith, lt, a.room))) h.line refl (own_line i p a)

-- no token ends here within the limit, and none is broken
pub record IsPast (i : Input) (p : Place) : Type 0 where
  pub longer : i.room < length i.text
  pub no_end : (k : Kind) (n : ℕ) → front true p.left ≡ Found k n → i.room < token_start p + n
  pub sound : is_broken (front false (near i p)) ≡ false

pub gap_done : (i : Input) (p : Place) → At i p → token_start p ≤ i.room → At i (onward p (gap_len p.left))
gap_done i p a room = at_onward i p (gap_len p.left) a (gap_fits p.left false) room

limit_first : (i : Input) (p : Place) (d from top tl il : ℕ) (t t' : List ℕ) (b : ℕ) (bs : List ℕ) → At i p → Inside i d from top p t il → i.room - token_start p ≡ 0 → token_start p ≤ i.room → reads i.number (St d tl il (token_line p) false) t' 0 (b ∷ bs) ≡ past_limit i d top (token_start p) (token_line p)
limit_first i p d from top tl il t t' b bs a h none room =
    let there : token_start p ≡ i.room = omega (arith, none, room) in
    let line : token_line p ≡ i.line + line_feeds (take (token_start p) i.text) = (gap_done i p a room).line in
    reads_zero i.number (St d tl il (token_line p) false) t' b bs (fresh (St d tl il (token_line p) false) b) (closed_moves (St d tl il (token_line p) false) b refl)
    ∙ past_by i.number (St d tl il (token_line p) false) t' (fresh (St d tl il (token_line p) false) b) (fresh_not_before (St d tl il (token_line p) false) b)
    ∙ ap (λ n. stops (Limit n i.number)) (and_same (d == 0) (token_line p) il)
    ∙ limit_line (d == 0) false i d top il (token_line p) (token_line p) (token_start p) (token_line p) refl (le-ltb (token_start p) i.room (omega (arith, there))) h.line refl (line ∙ ap (λ n. i.line + line_feeds (take n i.text)) there)

limit_token : (s : Step) (i : Input) (p : Place) (d from top tl il : ℕ) (t t' : List ℕ) (b : ℕ) (bs : List ℕ) (r : ℕ) → At i p → Inside i d from top p t il → IsPast i p → token_start p ≤ i.room → after_gap p.left ≡ b ∷ bs → gap_step false b ≡ None → i.room - token_start p ≡ suc r → step_of mode.Start b ≡ s →
    reads i.number (St d tl il (token_line p) false) t' (suc r) (b ∷ bs) ≡ past_limit i d top (token_start p) (token_line p)
limit_token (step.Go m) i p d from top tl il t t' b bs r a h past room is none more e =
    let st : is_start m ≡ false = step_goes mode.Start b m e in
    let start : run mode.Start (b ∷ bs) ≡ longer (run m bs) = run_cons mode.Start b bs (step.Go m) e in
    let begun : run mode.Start (b ∷ take r bs) ≡ longer (run m (take r bs)) = run_cons mode.Start b (take r bs) (step.Go m) e in
    let rest : length (after_gap p.left) ≡ suc (length bs) = ap (length {A = ℕ}) is in
    reads_suc i.number (St d tl il (token_line p) false) t' r b bs (move.Go (Md d (token_line p) (if d == 0 then token_line p else il) m (line_of (token_line p) b))) (start_move d tl il (token_line p) b none ∙ ap (begins (St d tl il (token_line p) false) b) e)
    ∙ ap (λ ys. reads i.number (Md d (token_line p) (if d == 0 then token_line p else il) m (line_of (token_line p) b)) ys r bs) (md_text d (token_line p) (if d == 0 then token_line p else il) (line_of (token_line p) b) b m t' st)
    ∙ run_full bs i.number d (token_line p) (if d == 0 then token_line p else il) m (line_of (token_line p) b) (t' ++ b ∷ []) r st (omega (arith, past.longer, rest, more, room, left_len i p a, length-drop (gap_len p.left) p.left, a.within, gap_fits p.left false)) (record {
      no_end = λ k n f le.
          let ends : i.room < token_start p + (n + 1) = past.no_end k (n + 1) (front_some true p.left b bs is ∙ ap (front_of true) start ∙ longer_found (run m bs) k n f) in
          omega (arith, le, more, ends);
      sound = λ f. true_false (ap is_broken (sym (near_token i p b bs r a room is more ∙ ap (front_of false) (begun ∙ ap longer f))) ∙ past.sound);
    })
    ∙ limit_line (d == 0) true i d top il (token_line p) (i.line + line_feeds (take i.room i.text)) (token_start p) (token_line p) refl (lt-ltb (token_start p) i.room (omega (arith, more))) h.line refl refl
limit_token (step.Close k) i p d from top tl il t t' b bs r a h past room is none more e =
    let ends : i.room < token_start p + 1 = past.no_end k 1 (front_some true p.left b bs is ∙ ap (front_of true) (run_cons mode.Start b bs (step.Close k) e)) in
    absurd (omega (arith, more, ends))
limit_token (step.Stop k) i p d from top tl il t t' b bs r a h past room is none more e = let never : None ≡ Some k = step_stops mode.Start b k e in cc
limit_token step.Fault i p d from top tl il t t' b bs r a h past room is none more e =
    absurd (true_false (ap is_broken (sym (near_token i p b bs r a room is more ∙ ap (front_of false) (run_cons mode.Start b (take r bs) step.Fault e))) ∙ past.sound))

limit_room : (i : Input) (p : Place) (d from top tl il : ℕ) (t t' : List ℕ) (b : ℕ) (bs : List ℕ) (r : ℕ) → At i p → Inside i d from top p t il → IsPast i p → token_start p ≤ i.room → after_gap p.left ≡ b ∷ bs → gap_step false b ≡ None → i.room - token_start p ≡ r →
    reads i.number (St d tl il (token_line p) false) t' r (b ∷ bs) ≡ past_limit i d top (token_start p) (token_line p)
limit_room i p d from top tl il t t' b bs zero a h past room is none more = limit_first i p d from top tl il t t' b bs a h more room
limit_room i p d from top tl il t t' b bs (suc r) a h past room is none more = limit_token (step_of mode.Start b) i p d from top tl il t t' b bs r a h past room is none more refl

limit_behind : (ys : List ℕ) (i : Input) (p : Place) (d from top tl il : ℕ) (t : List ℕ) → At i p → Inside i d from top p t il → IsPast i p → token_start p ≤ i.room → after_gap p.left ≡ ys →
    reads i.number (St d tl il p.line false) t (i.room - p.start) p.left ≡ past_limit i d top (token_start p) (token_line p)
limit_behind [] i p d from top tl il t a h past room is =
    absurd (omega (arith, past.longer, room, left_len i p a, a.within, length-drop (gap_len p.left) p.left, ap (length {A = ℕ}) is))
limit_behind (b ∷ bs) i p d from top tl il t a h past room is =
    token_begins i p d tl il t b bs a room is
    ∙ limit_room i p d from top tl il t (onto (d == 0 && true) t (take (gap_len p.left) p.left)) b bs (i.room - token_start p) a h past room is (outer p.left false b bs is).step refl

limit_by : (c : Bool) (i : Input) (p : Place) (d from top tl il : ℕ) (t : List ℕ) → nat_lt (i.room - p.start) (gap_len p.left) ≡ c → At i p → Inside i d from top p t il → IsPast i p →
    reads i.number (St d tl il p.line false) t (i.room - p.start) p.left ≡ past_limit i d top (token_start p) (token_line p)
limit_by true i p d from top tl il t c a h past = limit_gap i p d from top tl il t a h (ltb-true (i.room - p.start) (gap_len p.left) c)
limit_by false i p d from top tl il t c a h past = limit_behind (after_gap p.left) i p d from top tl il t a h past (omega (arith, ltb-false (i.room - p.start) (gap_len p.left) c, a.room)) refl

pub limit_reads : (i : Input) (p : Place) (d from top tl il : ℕ) (t : List ℕ) → At i p → Inside i d from top p t il → IsPast i p → reads i.number (St d tl il p.line false) t (i.room - p.start) p.left ≡ past_limit i d top (token_start p) (token_line p)
limit_reads i p d from top tl il t a h past = limit_by (nat_lt (i.room - p.start) (gap_len p.left)) i p d from top tl il t refl a h past
