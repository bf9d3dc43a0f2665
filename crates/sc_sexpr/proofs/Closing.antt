-- Where no further token stands.
use Rattle.std.proofs.Common.{◌≡◌, ℕ, zero, suc, ◌+◌, ◌-◌, ◌≤◌, Bool, true, false, ◌&&◌, ◌==◌, nat_lt, if◌then◌else◌, List, [], ◌∷◌, ◌++◌, length, take, Option, Some, None, refl, sym, ap, ◌∙◌, arith}
use Rattle.std.proofs.lemmas.Bool.{ltb-true, ltb-false}
use Rattle.std.proofs.lemmas.List.{length-drop, take_all}
use Rattle.sc_text.specs.declared.token.Kind.{Kind}
use Rattle.sc_text.specs.declared.mode.Mode.{Mode}
use Rattle.sc_text.specs.declared.mode.Mode.TheVariants as mode
use Rattle.sc_text.specs.declared.mode.Step.{Step}
use Rattle.sc_text.specs.declared.mode.Step.TheVariants as step
use Rattle.sc_text.specs.declared.front.Run.{Run}
use Rattle.sc_text.specs.declared.front.Run.TheVariants.{Takes, Ends, Fails}
use Rattle.sc_text.specs.declared.front.Front.{Front}
use Rattle.sc_text.specs.declared.front.Front.TheVariants.{Nothing, Token as Found, Open, Broken}
use Rattle.sc_text.specs.Place.{Place}
use Rattle.sc_text.specs.Modes.{is_start, is_unclosed, whole, step_of, longer, after_step, run}
use Rattle.sc_text.specs.Fronts.{gap_step, gap, gap_len, after_gap, ended, front_of, front}
use Rattle.sc_text.specs.Answers.{token_start, token_line}
use Rattle.sc_sexpr.specs.declared.item.Fault.TheVariants.{Lexical, Unclosed}
use Rattle.sc_sexpr.specs.declared.item.Last.TheVariants as last
use Rattle.sc_sexpr.specs.declared.state.Move.TheVariants as move
use Rattle.sc_sexpr.specs.declared.state.Ending.TheVariants as ending
use Rattle.sc_sexpr.specs.Moves.{begins}
use Rattle.sc_sexpr.specs.Scans.{stops, reads}
use Rattle.sc_sexpr.specs.Walk.{is_token, is_broken, is_quote, Input, past_limit, at_text_end, no_token}
use Rattle.sc_sexpr.proofs.AtHand.{step_goes, step_stops}
use Rattle.sc_sexpr.proofs.Stretches.{St, Md, line_of, reads_suc, take_nil, onto, start_move}
use Rattle.sc_sexpr.proofs.Running.{run_broken, run_cut, run_cons, md_text, reads_nil, st_ending, longer_fails}
use Rattle.sc_sexpr.proofs.Quoting.{open_quote}
use Rattle.sc_sexpr.proofs.Walking.{At, Inside, true_false, left_len, gap_fits, outer, front_some, front_none, at_token, token_begins}
use Rattle.sc_sexpr.proofs.Stopping.{near, near_after, near_empty, near_gap, near_token, broken_run, limit_reads}

-- a token that is broken within the limit

broken_token : (s : Step) (i : Input) (p : Place) (d tl il : ℕ) (t' : List ℕ) (b : ℕ) (bs : List ℕ) (r : ℕ) → gap_step false b ≡ None → step_of mode.Start b ≡ s → after_step s (λ m. run m (take r bs)) ≡ Fails →
    reads i.number (St d tl il (token_line p) false) t' (suc r) (b ∷ bs) ≡ stops (Lexical (token_line p))
broken_token (step.Go m) i p d tl il t' b bs r none e f =
    let st : is_start m ≡ false = step_goes mode.Start b m e in
    reads_suc i.number (St d tl il (token_line p) false) t' r b bs (move.Go (Md d (token_line p) (if d == 0 then token_line p else il) m (line_of (token_line p) b))) (start_move d tl il (token_line p) b none ∙ ap (begins (St d tl il (token_line p) false) b) e)
    ∙ ap (λ ys. reads i.number (Md d (token_line p) (if d == 0 then token_line p else il) m (line_of (token_line p) b)) ys r bs) (md_text d (token_line p) (if d == 0 then token_line p else il) (line_of (token_line p) b) b m t' st)
    ∙ run_broken bs i.number d (token_line p) (if d == 0 then token_line p else il) m (line_of (token_line p) b) (t' ++ b ∷ []) r st (longer_fails (run m (take r bs)) f)
broken_token (step.Close k) i p d tl il t' b bs r none e f = cc
broken_token (step.Stop k) i p d tl il t' b bs r none e f = cc
broken_token step.Fault i p d tl il t' b bs r none e f =
    reads_suc i.number (St d tl il (token_line p) false) t' r b bs (move.Fail (Lexical (token_line p))) (start_move d tl il (token_line p) b none ∙ ap (begins (St d tl il (token_line p) false) b) e)

broken_room : (i : Input) (p : Place) (d tl il : ℕ) (t' : List ℕ) (b : ℕ) (bs : List ℕ) (r : ℕ) → At i p → token_start p ≤ i.room → after_gap p.left ≡ b ∷ bs → gap_step false b ≡ None → i.room - token_start p ≡ r → is_broken (front false (near i p)) ≡ true →
    reads i.number (St d tl il (token_line p) false) t' r (b ∷ bs) ≡ stops (Lexical (token_line p))
broken_room i p d tl il t' b bs zero a room is none more w =
    absurd (true_false (sym w ∙ near_empty (near i p) (near_after i p a room ∙ ap (λ n. take n (after_gap p.left)) more)))
broken_room i p d tl il t' b bs (suc r) a room is none more w =
    let fails : run mode.Start (b ∷ take r bs) ≡ Fails = broken_run (run mode.Start (b ∷ take r bs)) (ap is_broken (sym (near_token i p b bs r a room is more)) ∙ w) in
    broken_token (step_of mode.Start b) i p d tl il t' b bs r none refl (sym (run_cons mode.Start b (take r bs) (step_of mode.Start b) refl) ∙ fails)

broken_behind : (ys : List ℕ) (i : Input) (p : Place) (d tl il : ℕ) (t : List ℕ) → At i p → token_start p ≤ i.room → after_gap p.left ≡ ys → is_broken (front false (near i p)) ≡ true →
    reads i.number (St d tl il p.line false) t (i.room - p.start) p.left ≡ stops (Lexical (token_line p))
broken_behind [] i p d tl il t a room is w =
    absurd (true_false (sym w ∙ near_empty (near i p) (near_after i p a room ∙ ap (take (i.room - token_start p)) is ∙ take_nil (i.room - token_start p))))
broken_behind (b ∷ bs) i p d tl il t a room is w =
    token_begins i p d tl il t b bs a room is
    ∙ broken_room i p d tl il (onto (d == 0 && true) t (take (gap_len p.left) p.left)) b bs (i.room - token_start p) a room is (outer p.left false b bs is).step refl w

broken_by : (c : Bool) (i : Input) (p : Place) (d tl il : ℕ) (t : List ℕ) → nat_lt (i.room - p.start) (gap_len p.left) ≡ c → At i p → is_broken (front false (near i p)) ≡ true →
    reads i.number (St d tl il p.line false) t (i.room - p.start) p.left ≡ stops (Lexical (token_line p))
broken_by true i p d tl il t c a w = absurd (true_false (sym w ∙ near_gap i p a (ltb-true (i.room - p.start) (gap_len p.left) c)))
broken_by false i p d tl il t c a w = broken_behind (after_gap p.left) i p d tl il t a (omega (arith, ltb-false (i.room - p.start) (gap_len p.left) c, a.room)) refl w

-- the end of the text

no_kind : (n : ℕ) (w : Option Kind) → is_token (ended n w) ≡ false → w ≡ None
no_kind n None e = refl
no_kind n (Some k) e = cc

not_found : (f : Front) (k : Kind) (n : ℕ) → is_token f ≡ false → f ≡ Found k n → ⊥
not_found f k n other is = true_false (ap is_token (sym is) ∙ other)

unclosed_by : (z c : Bool) (d il top first : ℕ) → (d == 0) ≡ z → ((d == 0) ≡ false → il ≡ top) →
    (if c then stops (Unclosed (if d == 0 then first else il)) else stops (Lexical first)) ≡ (if c then stops (Unclosed (if d == 0 then first else top)) else stops (Lexical first))
unclosed_by z false d il top first e same = refl
unclosed_by true true d il top first e same = ap (λ v. stops (Unclosed (if v then first else il))) e ∙ sym (ap (λ v. stops (Unclosed (if v then first else top))) e)
unclosed_by false true d il top first e same = ap (λ n. stops (Unclosed (if d == 0 then first else n))) (same e)

-- a token that the text leaves open
cut_token : (r : Run) (i : Input) (p : Place) (d from top tl il : ℕ) (t t' : List ℕ) (b : ℕ) (bs : List ℕ) (m : Mode) (n : ℕ) → Inside i d from top p t il → gap_step false b ≡ None → step_of mode.Start b ≡ step.Go m → run m bs ≡ r → is_token (front_of true (longer r)) ≡ false → (longer r ≡ Fails → ⊥) →
    reads i.number (St d tl il (token_line p) false) t' (suc (n + length bs)) (b ∷ bs) ≡ (if is_quote (b ∷ bs) then stops (Unclosed (if d == 0 then token_line p else top)) else stops (Lexical (token_line p)))
cut_token (Takes j k) i p d from top tl il t t' b bs m n h none e is other sound = cc
cut_token (Ends j m') i p d from top tl il t t' b bs m n h none e is other sound =
    let st : is_start m ≡ false = step_goes mode.Start b m e in
    reads_suc i.number (St d tl il (token_line p) false) t' (n + length bs) b bs (move.Go (Md d (token_line p) (if d == 0 then token_line p else il) m (line_of (token_line p) b))) (start_move d tl il (token_line p) b none ∙ ap (begins (St d tl il (token_line p) false) b) e)
    ∙ ap (λ ys. reads i.number (Md d (token_line p) (if d == 0 then token_line p else il) m (line_of (token_line p) b)) ys (n + length bs) bs) (md_text d (token_line p) (if d == 0 then token_line p else il) (line_of (token_line p) b) b m t' st)
    ∙ run_cut bs i.number d (token_line p) (if d == 0 then token_line p else il) m (line_of (token_line p) b) (t' ++ b ∷ []) n j m' st is (no_kind (j + 1) (whole m') other)
    ∙ unclosed_by (d == 0) (is_unclosed m') d il top (token_line p) refl h.line
    ∙ ap (λ c. if c then stops (Unclosed (if d == 0 then token_line p else top)) else stops (Lexical (token_line p))) (open_quote b bs m j m' e is (no_kind (j + 1) (whole m') other))
cut_token Fails i p d from top tl il t t' b bs m n h none e is other sound = absurd (sound refl)

not_token : (f : Front) → is_token f ≡ false → (f ≡ Nothing → ⊥) → (f ≡ Open → ⊥) → f ≡ Broken
not_token Nothing e a b = absurd (a refl)
not_token (Found k n) e a b = cc
not_token Open e a b = absurd (b refl)
not_token Broken e a b = refl

run_is_some : (r : Run) → (front_of true r ≡ Nothing → ⊥) × (front_of true r ≡ Open → ⊥)
run_is_some (Takes n k) = (λ e. cc, λ e. cc)
run_is_some (Ends n m) = by_kind (whole m)
  where
    by_kind : (w : Option Kind) → (ended n w ≡ Nothing → ⊥) × (ended n w ≡ Open → ⊥)
    by_kind None = (λ e. cc, λ e. cc)
    by_kind (Some k) = (λ e. cc, λ e. cc)
run_is_some Fails = (λ e. cc, λ e. cc)

end_token : (s : Step) (i : Input) (p : Place) (d from top tl il : ℕ) (t t' : List ℕ) (b : ℕ) (bs : List ℕ) (n : ℕ) → Inside i d from top p t il → gap_step false b ≡ None → step_of mode.Start b ≡ s → is_token (front_of true (run mode.Start (b ∷ bs))) ≡ false → (run mode.Start (b ∷ bs) ≡ Fails → ⊥) →
    reads i.number (St d tl il (token_line p) false) t' (suc (n + length bs)) (b ∷ bs) ≡ (if is_quote (b ∷ bs) then stops (Unclosed (if d == 0 then token_line p else top)) else stops (Lexical (token_line p)))
end_token (step.Go m) i p d from top tl il t t' b bs n h none e other sound =
    let start : run mode.Start (b ∷ bs) ≡ longer (run m bs) = run_cons mode.Start b bs (step.Go m) e in
    cut_token (run m bs) i p d from top tl il t t' b bs m n h none e refl (ap (λ r. is_token (front_of true r)) (sym start) ∙ other) (λ f. sound (start ∙ f))
end_token (step.Close k) i p d from top tl il t t' b bs n h none e other sound = absurd (true_false (ap (λ r. is_token (front_of true r)) (sym (run_cons mode.Start b bs (step.Close k) e)) ∙ other))
end_token (step.Stop k) i p d from top tl il t t' b bs n h none e other sound = let never : None ≡ Some k = step_stops mode.Start b k e in cc
end_token step.Fault i p d from top tl il t t' b bs n h none e other sound = absurd (sound (run_cons mode.Start b bs step.Fault e))

text_empty : (z : Bool) (i : Input) (p : Place) (d from top tl il l : ℕ) (c : Bool) (t t' : List ℕ) (r : ℕ) → (d == 0) ≡ z → Inside i d from top p t il → reads i.number (St d tl il l c) t' r [] ≡ (if d == 0 then record { tops = []; last = last.End } else stops (Unclosed top))
text_empty true i p d from top tl il l c t t' r z h =
    reads_nil i.number (St d tl il l c) t' r ending.Nothing (st_ending true d tl il l c z) ∙ sym (ap (λ v. if v then record { tops = []; last = last.End } else stops (Unclosed top)) z)
text_empty false i p d from top tl il l c t t' r z h =
    reads_nil i.number (St d tl il l c) t' r (ending.Bad (Unclosed il)) (st_ending false d tl il l c z) ∙ ap (λ n. stops (Unclosed n)) (h.line z) ∙ sym (ap (λ v. if v then record { tops = []; last = last.End } else stops (Unclosed top)) z)

end_behind : (ys : List ℕ) (i : Input) (p : Place) (d from top tl il : ℕ) (t : List ℕ) → At i p → Inside i d from top p t il → length i.text ≤ i.room → after_gap p.left ≡ ys → is_token (front true p.left) ≡ false → is_broken (front false (near i p)) ≡ false →
    reads i.number (St d tl il p.line false) t (i.room - p.start) p.left ≡ at_text_end (front true p.left) d top p
end_behind [] i p d from top tl il t a h all is other sound =
    let room : token_start p ≤ i.room = omega (arith, all, left_len i p a, a.within, gap_fits p.left false) in
    at_token i p d tl il t a room
    ∙ ap (reads i.number (St d tl il (token_line p) (gap false p.left).comment) (onto (d == 0 && true) t (take (gap_len p.left) p.left)) (i.room - token_start p)) is
    ∙ text_empty (d == 0) i p d from top tl il (token_line p) (gap false p.left).comment t (onto (d == 0 && true) t (take (gap_len p.left) p.left)) (i.room - token_start p) refl h
    ∙ ap (λ (f : Front). at_text_end f d top p) (sym (front_none p.left is))
end_behind (b ∷ bs) i p d from top tl il t a h all is other sound =
    let room : token_start p ≤ i.room = omega (arith, all, left_len i p a, a.within, gap_fits p.left false) in
    let start : front true p.left ≡ front_of true (run mode.Start (b ∷ bs)) = front_some true p.left b bs is in
    let rest : length (after_gap p.left) ≡ suc (length bs) = ap (length {A = ℕ}) is in
    let split : i.room - token_start p ≡ suc ((i.room - length i.text) + length bs) = omega (arith, all, rest, left_len i p a, a.within, length-drop (gap_len p.left) p.left, gap_fits p.left false) in
    let whole_left : near i p ≡ p.left = take_all (i.room - p.start) p.left (omega (arith, all, left_len i p a, a.within)) in
    let not_fails : run mode.Start (b ∷ bs) ≡ Fails → ⊥ = λ f. true_false (ap is_broken (sym (ap (front false) whole_left ∙ front_some false p.left b bs is ∙ ap (front_of false) f)) ∙ sound) in
    let broken : front true p.left ≡ Broken = start ∙ not_token (front_of true (run mode.Start (b ∷ bs))) (ap is_token (sym start) ∙ other) (run_is_some (run mode.Start (b ∷ bs))).0 (run_is_some (run mode.Start (b ∷ bs))).1 in
    token_begins i p d tl il t b bs a room is
    ∙ ap (λ n. reads i.number (St d tl il (token_line p) false) (onto (d == 0 && true) t (take (gap_len p.left) p.left)) n (b ∷ bs)) split
    ∙ end_token (step_of mode.Start b) i p d from top tl il t (onto (d == 0 && true) t (take (gap_len p.left) p.left)) b bs (i.room - length i.text) h (outer p.left false b bs is).step refl (ap is_token (sym start) ∙ other) not_fails
    ∙ ap (λ (ys : List ℕ). if is_quote ys then stops (Unclosed (if d == 0 then token_line p else top)) else stops (Lexical (token_line p))) (sym is)
    ∙ ap (λ (f : Front). at_text_end f d top p) (sym broken)

-- no further token

none_by : (w c : Bool) (i : Input) (p : Place) (d from top tl il : ℕ) (t : List ℕ) → is_broken (front false (near i p)) ≡ w → nat_lt i.room (length i.text) ≡ c → At i p → Inside i d from top p t il → is_token (front true p.left) ≡ false →
    reads i.number (St d tl il p.line false) t (i.room - p.start) p.left ≡ (if w then stops (Lexical (token_line p)) else if c then past_limit i d top (token_start p) (token_line p) else at_text_end (front true p.left) d top p)
none_by true c i p d from top tl il t w lt a h other = broken_by (nat_lt (i.room - p.start) (gap_len p.left)) i p d tl il t refl a w
none_by false true i p d from top tl il t w lt a h other =
    limit_reads i p d from top tl il t a h (record { longer = ltb-true i.room (length i.text) lt; no_end = λ k n f. absurd (not_found (front true p.left) k n other f); sound = w })
none_by false false i p d from top tl il t w lt a h other = end_behind (after_gap p.left) i p d from top tl il t a h (ltb-false i.room (length i.text) lt) refl other w

pub none_reads : (i : Input) (p : Place) (d from top tl il : ℕ) (t : List ℕ) → At i p → Inside i d from top p t il → is_token (front true p.left) ≡ false → reads i.number (St d tl il p.line false) t (i.room - p.start) p.left ≡ no_token i d top p
none_reads i p d from top tl il t a h other = none_by (is_broken (front false (near i p))) (nat_lt i.room (length i.text)) i p d from top tl il t refl refl a h other
