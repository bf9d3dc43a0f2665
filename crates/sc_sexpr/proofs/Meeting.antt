-- A reader meets a whole token.
use Rattle.std.proofs.Common.{◌≡◌, ℕ, suc, ◌+◌, ◌-◌, ◌<◌, ◌≤◌, Bool, true, false, ◌&&◌, ◌==◌, nat_le, if◌then◌else◌, List, [], ◌∷◌, ◌++◌, take, drop, Some, None, refl, sym, ap, ◌∙◌, arith, append_assoc, inl, inr, ◌⊎◌, subst}
use Rattle.std.proofs.lemmas.Bool.{eqb-true, eqb-false, ne_eqb}
use Rattle.sc_text.specs.declared.token.Kind.{Kind}
use Rattle.sc_text.specs.declared.token.Kind.TheVariants as kind
use Rattle.sc_text.specs.declared.mode.Mode.{Mode}
use Rattle.sc_text.specs.declared.mode.Mode.TheVariants as mode
use Rattle.sc_text.specs.declared.mode.Step.{Step}
use Rattle.sc_text.specs.declared.mode.Step.TheVariants as step
use Rattle.sc_text.specs.declared.front.Front.TheVariants.{Token as Found}
use Rattle.sc_text.specs.Place.{Place}
use Rattle.sc_text.specs.Bytes.{line_feeds}
use Rattle.sc_text.specs.Modes.{is_start, step_of, after_step, run}
use Rattle.sc_text.specs.Fronts.{gap_step, front_of}
use Rattle.sc_sexpr.specs.declared.item.Fault.TheVariants.{Unmatched, Limit}
use Rattle.sc_sexpr.specs.declared.state.Move.TheVariants as move
use Rattle.sc_sexpr.specs.Moves.{begins, move_of}
use Rattle.sc_sexpr.specs.Scans.{Reading, with_top, stops, reads}
use Rattle.sc_sexpr.specs.Walk.{Lexeme, Input, stretch, meets}
use Rattle.sc_sexpr.proofs.AtHand.{IsPlain, step_goes, step_closes, step_stops}
use Rattle.sc_sexpr.proofs.Stretches.{St, Md, line_of, feeds-cons, take_one, drop_one, reads_suc, start_move}
use Rattle.sc_sexpr.proofs.Running.{run_read, run_plain, run_cons, md_text, behind, no_feed, longer_token}
use Rattle.sc_sexpr.proofs.Walking.{At, Inside, onward, true_false, stretch_here, stretch_more}

-- the token of n bytes at a place
abbrev pub here_is : Place → Kind → ℕ → Lexeme
here_is q k n = record { kind = k; start = q.start; behind = q.start + n; line = q.line }

-- what is read from a place on
abbrev pub Goes : Input → Place → (ℕ → ℕ → ℕ → Reading) → Type 0
Goes i q rest = (d from top tl il : ℕ) (t : List ℕ) → Inside i d from top q t il → reads i.number (St d tl il q.line false) t (i.room - q.start) q.left ≡ rest d from top

abbrev pub Met : Input → Place → ℕ → ℕ → ℕ → ℕ → ℕ → List ℕ → ℕ → List ℕ → Kind → ℕ → (ℕ → ℕ → ℕ → Reading) → Type 0
Met i q d from top tl il t b bs k n rest = reads i.number (St d tl il q.line false) t (i.room - q.start) (b ∷ bs) ≡ meets k i d from top (here_is q k n) rest

meets_plain : (k : Kind) → IsPlain k → (i : Input) (d from top : ℕ) (x : Lexeme) (rest : ℕ → ℕ → ℕ → Reading) → meets k i d from top x rest ≡ (if d == 0 then with_top (stretch i x.start x.behind) x.line (rest 0 from top) else rest d from top)
meets_plain kind.Left p i d from top x rest = absurd (p.0 refl)
meets_plain kind.Right p i d from top x rest = absurd (p.1 refl)
meets_plain kind.Numeral p i d from top x rest = refl
meets_plain kind.Foreign p i d from top x rest = refl
meets_plain kind.Literal p i d from top x rest = refl
meets_plain kind.Word p i d from top x rest = refl
meets_plain kind.Quoted p i d from top x rest = refl
meets_plain kind.Keyword p i d from top x rest = refl

-- the bytes of an item with those of the next token
text_more : (i : Input) (q : Place) (d from top n : ℕ) (t : List ℕ) (il : ℕ) → At i q → Inside i d from top q t il → (d == 0) ≡ false → t ++ take n q.left ≡ stretch i from (q.start + n)
text_more i q d from top n t il a h z = ap (λ (xs : List ℕ). xs ++ take n q.left) (h.text z) ∙ stretch_more i q n from a (h.order z)

text_first : (i : Input) (q : Place) (d from top n : ℕ) (t : List ℕ) (il : ℕ) → At i q → Inside i d from top q t il → (d == 0) ≡ true → t ++ take n q.left ≡ stretch i q.start (q.start + n)
text_first i q d from top n t il a h z = ap (λ (xs : List ℕ). xs ++ take n q.left) (h.outside z) ∙ stretch_here i q n a

-- no item is at hand
pub outside_all : (i : Input) (q : Place) (d from top il : ℕ) → (d == 0) ≡ true → Inside i d from top q [] il
outside_all i q d from top il z = record { outside = λ e. refl; text = λ e. absurd (true_false (sym z ∙ e)); line = λ e. absurd (true_false (sym z ∙ e)); order = λ e. absurd (true_false (sym z ∙ e)) }

plain_outside : (i : Input) (q : Place) (d from top tl il n : ℕ) (t : List ℕ) (rest : ℕ → ℕ → ℕ → Reading) → At i q → Inside i d from top q t il → Goes i (onward q n) rest → (d == 0) ≡ true →
    with_top (t ++ take n q.left) (if d == 0 then q.line else il) (reads i.number (St d q.line (if d == 0 then q.line else il) (onward q n).line false) [] (i.room - (onward q n).start) (onward q n).left) ≡ with_top (stretch i q.start (q.start + n)) q.line (rest 0 from top)
plain_outside i q d from top tl il n t rest a h ih z =
    ap (λ (ys : List ℕ). with_top ys (if d == 0 then q.line else il) (reads i.number (St d q.line (if d == 0 then q.line else il) (onward q n).line false) [] (i.room - (onward q n).start) (onward q n).left)) (text_first i q d from top n t il a h z)
    ∙ ap (with_top (stretch i q.start (q.start + n)) (if d == 0 then q.line else il)) (ih d from top q.line (if d == 0 then q.line else il) [] (outside_all i (onward q n) d from top (if d == 0 then q.line else il) z) ∙ ap (λ x. rest x from top) (eqb-true d 0 z))
    ∙ ap (λ c. with_top (stretch i q.start (q.start + n)) (if c then q.line else il) (rest 0 from top)) z

inside_more : (i : Input) (q : Place) (d from top n : ℕ) (t : List ℕ) (il il' : ℕ) → At i q → Inside i d from top q t il → (d == 0) ≡ false → il' ≡ il → Inside i d from top (onward q n) (t ++ take n q.left) il'
inside_more i q d from top n t il il' a h z same = record {
  outside = λ e. absurd (true_false (sym e ∙ z));
  text = λ e. text_more i q d from top n t il a h z;
  line = λ e. same ∙ h.line z;
  order = λ e. omega (arith, h.order z);
}

plain_by : (z : Bool) (i : Input) (q : Place) (d from top tl il n : ℕ) (t : List ℕ) (rest : ℕ → ℕ → ℕ → Reading) → (d == 0) ≡ z → At i q → Inside i d from top q t il → Goes i (onward q n) rest →
    behind i.number d q.line (if d == 0 then q.line else il) (t ++ take n q.left) (onward q n).line (i.room - (onward q n).start) (onward q n).left ≡ (if d == 0 then with_top (stretch i q.start (q.start + n)) q.line (rest 0 from top) else rest d from top)
plain_by true i q d from top tl il n t rest z a h ih =
    ap (λ c. if c then with_top (t ++ take n q.left) (if d == 0 then q.line else il) (reads i.number (St d q.line (if d == 0 then q.line else il) (onward q n).line false) [] (i.room - (onward q n).start) (onward q n).left) else reads i.number (St d q.line (if d == 0 then q.line else il) (onward q n).line false) (t ++ take n q.left) (i.room - (onward q n).start) (onward q n).left) z
    ∙ plain_outside i q d from top tl il n t rest a h ih z
    ∙ sym (ap (λ c. if c then with_top (stretch i q.start (q.start + n)) q.line (rest 0 from top) else rest d from top) z)
plain_by false i q d from top tl il n t rest z a h ih =
    ap (λ c. if c then with_top (t ++ take n q.left) (if d == 0 then q.line else il) (reads i.number (St d q.line (if d == 0 then q.line else il) (onward q n).line false) [] (i.room - (onward q n).start) (onward q n).left) else reads i.number (St d q.line (if d == 0 then q.line else il) (onward q n).line false) (t ++ take n q.left) (i.room - (onward q n).start) (onward q n).left) z
    ∙ ih d from top q.line (if d == 0 then q.line else il) (t ++ take n q.left) (inside_more i q d from top n t il (if d == 0 then q.line else il) a h z (ap (λ c. if c then q.line else il) z))
    ∙ sym (ap (λ c. if c then with_top (stretch i q.start (q.start + n)) q.line (rest 0 from top) else rest d from top) z)

-- a token that is no parenthesis
go_case : (i : Input) (q : Place) (d from top tl il : ℕ) (t : List ℕ) (b : ℕ) (bs : List ℕ) (m : Mode) (k : Kind) (n : ℕ) (rest : ℕ → ℕ → ℕ → Reading) → At i q → Inside i d from top q t il → q.left ≡ b ∷ bs → gap_step false b ≡ None → step_of mode.Start b ≡ step.Go m →
    front_of true (run mode.Start (b ∷ bs)) ≡ Found k n → q.start + n ≤ i.room → Goes i (onward q n) rest → Met i q d from top tl il t b bs k n rest
go_case i q d from top tl il t b bs m k n rest a h is none e f room ih =
    let st : is_start m ≡ false = step_goes mode.Start b m e in
    let one : (j : ℕ) × (n ≡ j + 1) × (front_of true (run m bs) ≡ Found k j) = longer_token (run m bs) k n (ap (front_of true) (sym (run_cons mode.Start b bs (step.Go m) e)) ∙ f) in
    let split : i.room - q.start ≡ suc ((i.room - (q.start + n)) + one.0) = omega (arith, one.1, room) in
    let taken : b ∷ take one.0 bs ≡ take n q.left = sym (take_one one.0 b bs) ∙ ap (λ x. take x (b ∷ bs)) (sym one.1) ∙ ap (take n) (sym is) in
    let left : drop one.0 bs ≡ drop n q.left = sym (drop_one one.0 b bs) ∙ ap (λ x. drop x (b ∷ bs)) (sym one.1) ∙ ap (drop n) (sym is) in
    ap (λ x. reads i.number (St d tl il q.line false) t x (b ∷ bs)) split
    ∙ reads_suc i.number (St d tl il q.line false) t ((i.room - (q.start + n)) + one.0) b bs (move.Go (Md d q.line (if d == 0 then q.line else il) m (line_of q.line b))) (start_move d tl il q.line b none ∙ ap (begins (St d tl il q.line false) b) e)
    ∙ ap (λ ys. reads i.number (Md d q.line (if d == 0 then q.line else il) m (line_of q.line b)) ys ((i.room - (q.start + n)) + one.0) bs) (md_text d q.line (if d == 0 then q.line else il) (line_of q.line b) b m t st)
    ∙ run_read bs i.number d q.line (if d == 0 then q.line else il) m (line_of q.line b) (t ++ b ∷ []) (i.room - (q.start + n)) k one.0 st one.2
    ∙ ap (λ ys. behind i.number d q.line (if d == 0 then q.line else il) ys (line_of q.line b + line_feeds (take one.0 bs)) (i.room - (q.start + n)) (drop one.0 bs)) (append_assoc t (b ∷ []) (take one.0 bs))
    ∙ ap (λ x. behind i.number d q.line (if d == 0 then q.line else il) (t ++ b ∷ take one.0 bs) x (i.room - (q.start + n)) (drop one.0 bs)) (feeds-cons q.line b (take one.0 bs))
    ∙ ap (λ (ys : List ℕ). behind i.number d q.line (if d == 0 then q.line else il) (t ++ ys) (q.line + line_feeds ys) (i.room - (q.start + n)) (drop one.0 bs)) taken
    ∙ ap (behind i.number d q.line (if d == 0 then q.line else il) (t ++ take n q.left) (onward q n).line (i.room - (q.start + n))) left
    ∙ plain_by (d == 0) i q d from top tl il n t rest refl a h ih
    ∙ sym (meets_plain k (run_plain bs m k one.0 st one.2) i d from top (here_is q k n) rest)

-- a parenthesis

not_none : (n : ℕ) → 0 < n → (n == 0) ≡ false
not_none n lt = ne_eqb n 0 (λ e. omega arith)

-- one byte further on
one_on : (i : Input) (q : Place) (d tl il : ℕ) (t : List ℕ) (b : ℕ) (bs : List ℕ) → q.left ≡ b ∷ bs → line_of q.line b ≡ q.line →
    reads i.number (St d tl il q.line false) (t ++ b ∷ []) (i.room - (q.start + 1)) bs ≡ reads i.number (St d tl il (onward q 1).line false) (t ++ take 1 q.left) (i.room - (onward q 1).start) (onward q 1).left
one_on i q d tl il t b bs is same =
    let first : b ∷ [] ≡ take 1 q.left = ap (take 1) (sym is) in
    let left : bs ≡ drop 1 q.left = ap (drop 1) (sym is) in
    ap (λ x. reads i.number (St d tl il x false) (t ++ b ∷ []) (i.room - (q.start + 1)) bs) (no_feed q.line b same)
    ∙ ap (λ (ys : List ℕ). reads i.number (St d tl il (q.line + line_feeds ys) false) (t ++ ys) (i.room - (q.start + 1)) bs) first
    ∙ ap (reads i.number (St d tl il (onward q 1).line false) (t ++ take 1 q.left) (i.room - (q.start + 1))) left

inside_first : (z : Bool) (i : Input) (q : Place) (d from top : ℕ) (t : List ℕ) (il : ℕ) → (d == 0) ≡ z → At i q → Inside i d from top q t il → Inside i (d + 1) (if z then q.start else from) (if z then q.line else top) (onward q 1) (t ++ take 1 q.left) (if z then q.line else il)
inside_first true i q d from top t il z a h = record {
  outside = λ e. absurd (true_false (sym e ∙ not_none (d + 1) (omega arith)));
  text = λ e. text_first i q d from top 1 t il a h z;
  line = λ e. refl;
  order = λ e. omega arith;
}
inside_first false i q d from top t il z a h = record {
  outside = λ e. absurd (true_false (sym e ∙ not_none (d + 1) (omega arith)));
  text = λ e. text_more i q d from top 1 t il a h z;
  line = λ e. h.line z;
  order = λ e. omega (arith, h.order z);
}

left_by : (w : Bool) (i : Input) (q : Place) (d from top tl il : ℕ) (t : List ℕ) (b : ℕ) (bs : List ℕ) (r : ℕ) (rest : ℕ → ℕ → ℕ → Reading) → nat_le 1000 d ≡ w → At i q → Inside i d from top q t il → q.left ≡ b ∷ bs → line_of q.line b ≡ q.line → i.room - (q.start + 1) ≡ r →
    move_of (St d tl il q.line false) b ≡ (if w then move.Fail (Limit q.line 1000) else move.Go (St (d + 1) tl (if d == 0 then q.line else il) q.line false)) → Goes i (onward q 1) rest →
    reads i.number (St d tl il q.line false) t (suc r) (b ∷ bs) ≡ (if w then stops (Limit q.line 1000) else rest (d + 1) (if d == 0 then q.start else from) (if d == 0 then q.line else top))
left_by true i q d from top tl il t b bs r rest w a h is same room e ih = reads_suc i.number (St d tl il q.line false) t r b bs (move.Fail (Limit q.line 1000)) e
left_by false i q d from top tl il t b bs r rest w a h is same room e ih =
    reads_suc i.number (St d tl il q.line false) t r b bs (move.Go (St (d + 1) tl (if d == 0 then q.line else il) q.line false)) e
    ∙ ap (λ c. reads i.number (St (d + 1) tl (if d == 0 then q.line else il) q.line false) (if c && true then [] else t ++ b ∷ []) r bs) (not_none (d + 1) (omega arith))
    ∙ ap (λ x. reads i.number (St (d + 1) tl (if d == 0 then q.line else il) q.line false) (t ++ b ∷ []) x bs) (sym room)
    ∙ one_on i q (d + 1) tl (if d == 0 then q.line else il) t b bs is same
    ∙ ih (d + 1) (if d == 0 then q.start else from) (if d == 0 then q.line else top) tl (if d == 0 then q.line else il) (t ++ take 1 q.left) (inside_first (d == 0) i q d from top t il refl a h)

left_case : (i : Input) (q : Place) (d from top tl il : ℕ) (t : List ℕ) (b : ℕ) (bs : List ℕ) (rest : ℕ → ℕ → ℕ → Reading) → At i q → Inside i d from top q t il → q.left ≡ b ∷ bs → gap_step false b ≡ None → step_of mode.Start b ≡ step.Close kind.Left → b ≡ 40 →
    q.start + 1 ≤ i.room → Goes i (onward q 1) rest → Met i q d from top tl il t b bs kind.Left 1 rest
left_case i q d from top tl il t b bs rest a h is none e byte room ih =
    let split : i.room - q.start ≡ suc (i.room - (q.start + 1)) = omega (arith, room) in
    ap (λ x. reads i.number (St d tl il q.line false) t x (b ∷ bs)) split
    ∙ left_by (nat_le 1000 d) i q d from top tl il t b bs (i.room - (q.start + 1)) rest refl a h is (ap (line_of q.line) byte) refl (start_move d tl il q.line b none ∙ ap (begins (St d tl il q.line false) b) e) ih

right_by : (z o : Bool) (i : Input) (q : Place) (d from top tl il : ℕ) (t : List ℕ) (b : ℕ) (bs : List ℕ) (r : ℕ) (rest : ℕ → ℕ → ℕ → Reading) → (d == 0) ≡ z → (d == 1) ≡ o → At i q → Inside i d from top q t il → q.left ≡ b ∷ bs → line_of q.line b ≡ q.line → i.room - (q.start + 1) ≡ r →
    move_of (St d tl il q.line false) b ≡ (if z then move.Fail (Unmatched q.line) else if o then move.Done (St 0 tl il q.line false) else move.Go (St (d - 1) tl il q.line false)) → Goes i (onward q 1) rest →
    reads i.number (St d tl il q.line false) t (suc r) (b ∷ bs) ≡ (if z then stops (Unmatched q.line) else if o then with_top (stretch i from (q.start + 1)) top (rest 0 from top) else rest (d - 1) from top)
right_by true o i q d from top tl il t b bs r rest z w a h is same room e ih = reads_suc i.number (St d tl il q.line false) t r b bs (move.Fail (Unmatched q.line)) e
right_by false true i q d from top tl il t b bs r rest z w a h is same room e ih =
    let first : b ∷ [] ≡ take 1 q.left = ap (take 1) (sym is) in
    let left : bs ≡ drop 1 q.left = ap (drop 1) (sym is) in
    reads_suc i.number (St d tl il q.line false) t r b bs (move.Done (St 0 tl il q.line false)) e
    ∙ ap (λ (ys : List ℕ). with_top (t ++ ys) il (reads i.number (St 0 tl il q.line false) [] r bs)) first
    ∙ ap (λ (ys : List ℕ). with_top ys il (reads i.number (St 0 tl il q.line false) [] r bs)) (text_more i q d from top 1 t il a h z)
    ∙ ap (λ x. with_top (stretch i from (q.start + 1)) x (reads i.number (St 0 tl il q.line false) [] r bs)) (h.line z)
    ∙ ap (with_top (stretch i from (q.start + 1)) top)
    (ap (λ x. reads i.number (St 0 tl il q.line false) [] x bs) (sym room)
    ∙ ap (λ x. reads i.number (St 0 tl il x false) [] (i.room - (q.start + 1)) bs) (no_feed q.line b same)
    ∙ ap (λ (ys : List ℕ). reads i.number (St 0 tl il (q.line + line_feeds ys) false) [] (i.room - (q.start + 1)) bs) first
    ∙ ap (reads i.number (St 0 tl il (onward q 1).line false) [] (i.room - (q.start + 1))) left
    ∙ ih 0 from top tl il [] (outside_all i (onward q 1) 0 from top il refl))
right_by false false i q d from top tl il t b bs r rest z w a h is same room e ih =
    let not_zero : d ≡ 0 → ⊥ = eqb-false d 0 z in
    let not_one : d ≡ 1 → ⊥ = eqb-false d 1 w in
    let deep : (d - 1 == 0) ≡ false = not_none (d - 1) (omega arith) in
    reads_suc i.number (St d tl il q.line false) t r b bs (move.Go (St (d - 1) tl il q.line false)) e
    ∙ ap (λ c. reads i.number (St (d - 1) tl il q.line false) (if c && true then [] else t ++ b ∷ []) r bs) deep
    ∙ ap (λ x. reads i.number (St (d - 1) tl il q.line false) (t ++ b ∷ []) x bs) (sym room)
    ∙ one_on i q (d - 1) tl il t b bs is same
    ∙ ih (d - 1) from top tl il (t ++ take 1 q.left) (record {
      outside = λ e'. absurd (true_false (sym e' ∙ deep));
      text = λ e'. text_more i q d from top 1 t il a h z;
      line = λ e'. h.line z;
      order = λ e'. omega (arith, h.order z);
    })

right_case : (i : Input) (q : Place) (d from top tl il : ℕ) (t : List ℕ) (b : ℕ) (bs : List ℕ) (rest : ℕ → ℕ → ℕ → Reading) → At i q → Inside i d from top q t il → q.left ≡ b ∷ bs → gap_step false b ≡ None → step_of mode.Start b ≡ step.Close kind.Right → b ≡ 41 →
    q.start + 1 ≤ i.room → Goes i (onward q 1) rest → Met i q d from top tl il t b bs kind.Right 1 rest
right_case i q d from top tl il t b bs rest a h is none e byte room ih =
    let split : i.room - q.start ≡ suc (i.room - (q.start + 1)) = omega (arith, room) in
    ap (λ x. reads i.number (St d tl il q.line false) t x (b ∷ bs)) split
    ∙ right_by (d == 0) (d == 1) i q d from top tl il t b bs (i.room - (q.start + 1)) rest refl refl a h is (ap (line_of q.line) byte) refl (start_move d tl il q.line b none ∙ ap (begins (St d tl il q.line false) b) e) ih

paren_by : (c e : Bool) (b : ℕ) (k : Kind) → (b == 40) ≡ c → (b == 41) ≡ e → (if c then Some kind.Left else if e then Some kind.Right else None) ≡ Some k → ((k ≡ kind.Left) × (b ≡ 40)) ⊎ ((k ≡ kind.Right) × (b ≡ 41))
paren_by true e b k is other h = inl (cc, eqb-true b 40 is)
paren_by false true b k is other h = inr (cc, eqb-true b 41 other)
paren_by false false b k is other h = cc

close_case : (i : Input) (q : Place) (d from top tl il : ℕ) (t : List ℕ) (b : ℕ) (bs : List ℕ) (k : Kind) (rest : ℕ → ℕ → ℕ → Reading) → At i q → Inside i d from top q t il → q.left ≡ b ∷ bs → gap_step false b ≡ None → step_of mode.Start b ≡ step.Close k →
    q.start + 1 ≤ i.room → Goes i (onward q 1) rest → ((k ≡ kind.Left) × (b ≡ 40)) ⊎ ((k ≡ kind.Right) × (b ≡ 41)) → Met i q d from top tl il t b bs k 1 rest
close_case i q d from top tl il t b bs k rest a h is none e room ih (inl (l, byte)) =
    left_case i q d from top tl il t b bs rest a h is none (e ∙ ap step.Close l) byte room ih ∙ ap (λ x. meets x i d from top (here_is q kind.Left 1) rest) (sym l)
    ∙ ap (λ x. meets k i d from top (here_is q x 1) rest) (sym l)
close_case i q d from top tl il t b bs k rest a h is none e room ih (inr (r, byte)) =
    right_case i q d from top tl il t b bs rest a h is none (e ∙ ap step.Close r) byte room ih ∙ ap (λ x. meets x i d from top (here_is q kind.Right 1) rest) (sym r)
    ∙ ap (λ x. meets k i d from top (here_is q x 1) rest) (sym r)

met_by : (s : Step) (i : Input) (q : Place) (d from top tl il : ℕ) (t : List ℕ) (b : ℕ) (bs : List ℕ) (k : Kind) (n : ℕ) (rest : ℕ → ℕ → ℕ → Reading) → At i q → Inside i d from top q t il → q.left ≡ b ∷ bs → gap_step false b ≡ None → step_of mode.Start b ≡ s →
    front_of true (run mode.Start (b ∷ bs)) ≡ Found k n → q.start + n ≤ i.room → Goes i (onward q n) rest → Met i q d from top tl il t b bs k n rest
met_by (step.Go m) i q d from top tl il t b bs k n rest a h is none e f room ih = go_case i q d from top tl il t b bs m k n rest a h is none e f room ih
met_by (step.Close k') i q d from top tl il t b bs k n rest a h is none e f room ih =
    let found : Found k' 1 ≡ Found k n = ap (front_of true) (sym (run_cons mode.Start b bs (step.Close k') e)) ∙ f in
    let kind : k' ≡ k = cc in
    let len : 1 ≡ n = cc in
    subst (λ x. Met i q d from top tl il t b bs k x rest) len
    (close_case i q d from top tl il t b bs k rest a h is none (e ∙ ap step.Close kind) (omega (arith, room, len)) (subst (λ x. Goes i (onward q x) rest) (sym len) ih) (paren_by (b == 40) (b == 41) b k refl refl (step_closes mode.Start b k (e ∙ ap step.Close kind))))
met_by (step.Stop k') i q d from top tl il t b bs k n rest a h is none e f room ih = let never : None ≡ Some k' = step_stops mode.Start b k' e in cc
met_by step.Fault i q d from top tl il t b bs k n rest a h is none e f room ih = absurd (broken (ap (front_of true) (sym (run_cons mode.Start b bs step.Fault e)) ∙ f))
  where
    broken : front_of true (after_step step.Fault (λ x. run x bs)) ≡ Found k n → ⊥
    broken x = cc

-- a token that ends within the limit
pub met : (i : Input) (q : Place) (d from top tl il : ℕ) (t : List ℕ) (b : ℕ) (bs : List ℕ) (k : Kind) (n : ℕ) (rest : ℕ → ℕ → ℕ → Reading) → At i q → Inside i d from top q t il → q.left ≡ b ∷ bs → gap_step false b ≡ None →
    front_of true (run mode.Start (b ∷ bs)) ≡ Found k n → q.start + n ≤ i.room → Goes i (onward q n) rest → Met i q d from top tl il t b bs k n rest
met i q d from top tl il t b bs k n rest a h is none f room ih = met_by (step_of mode.Start b) i q d from top tl il t b bs k n rest a h is none refl f room ih
