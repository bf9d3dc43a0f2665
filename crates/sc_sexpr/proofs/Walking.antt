-- A reader's items are those that the tokens make.
use Rattle.std.proofs.Common.{◌≡◌, ℕ, suc, ◌+◌, ◌-◌, ◌≤◌, Bool, true, false, cond, ◌&&◌, ◌==◌, List, [], ◌∷◌, ◌++◌, length, take, drop, Option, Some, None, refl, sym, ap, ◌∙◌, arith, drop-drop, take-add, subst}
use Rattle.std.proofs.lemmas.List.{length-drop}
use Rattle.std.proofs.lemmas.List.Sums.{sum_by-append}
use Rattle.sc_text.specs.declared.mode.Mode.TheVariants as mode
use Rattle.sc_text.specs.declared.front.Gap.{Gap}
use Rattle.sc_text.specs.declared.front.Front.TheVariants.{Nothing}
use Rattle.sc_text.specs.Place.{Place}
use Rattle.sc_text.specs.Bytes.{line_feeds}
use Rattle.sc_text.specs.Modes.{run}
use Rattle.sc_text.specs.Fronts.{gap_step, after_gap_step, gap, gap_len, after_gap, front_of, front_at, front}
use Rattle.sc_text.specs.Answers.{token_start, token_line}
use Rattle.sc_sexpr.specs.Scans.{reads}
use Rattle.sc_sexpr.specs.Walk.{Input, stretch}
use Rattle.sc_sexpr.proofs.Stretches.{St, no_gap_len, gap_nil, gap-cons, drop_one, onto, onto_none, onto_some, gap_read}

-- Places of the text.

abbrev pub onward : Place → ℕ → Place
onward p n = record { left = drop n p.left; start = p.start + n; line = p.line + line_feeds (take n p.left); last = p.last }

-- a place of a text that may be read
pub record At (i : Input) (p : Place) : Type 0 where
  pub left : p.left ≡ drop p.start i.text
  pub room : p.start ≤ i.room
  pub within : p.start ≤ length i.text
  pub line : p.line ≡ i.line + line_feeds (take p.start i.text)
  pub last : p.last ≡ true

-- so many lists are open, the item at hand begins at this place and line, and these are its bytes so far
pub record Inside (i : Input) (d from top : ℕ) (p : Place) (t : List ℕ) (il : ℕ) : Type 0 where
  pub outside : (d == 0) ≡ true → t ≡ []
  pub text : (d == 0) ≡ false → t ≡ stretch i from p.start
  pub line : (d == 0) ≡ false → il ≡ top
  pub order : (d == 0) ≡ false → from ≤ p.start

pub true_false : true ≡ false → ⊥
true_false e = cc

pub feeds_add : (m n : ℕ) (xs : List ℕ) → line_feeds (take (m + n) xs) ≡ line_feeds (take m xs) + line_feeds (take n (drop m xs))
feeds_add m n xs = ap line_feeds (take-add m n xs) ∙ sum_by-append (λ (b : ℕ). cond (b == 10) 1 0) (take m xs) (take n (drop m xs))

pub left_len : (i : Input) (p : Place) → At i p → length p.left ≡ length i.text - p.start
left_len i p a = ap (length {A = ℕ}) a.left ∙ length-drop p.start i.text

pub at_onward : (i : Input) (p : Place) (n : ℕ) → At i p → n ≤ length p.left → p.start + n ≤ i.room → At i (onward p n)
at_onward i p n a fits room = record {
  left = ap (drop n) a.left ∙ drop-drop n p.start i.text;
  room = room;
  within = omega (arith, left_len i p a, a.within);
  line =
      let more : line_feeds (take (p.start + n) i.text) ≡ line_feeds (take p.start i.text) + line_feeds (take n (drop p.start i.text)) = feeds_add p.start n i.text in
      let same : line_feeds (take n p.left) ≡ line_feeds (take n (drop p.start i.text)) = ap (λ (xs : List ℕ). line_feeds (take n xs)) a.left in
      let line : p.line ≡ i.line + line_feeds (take p.start i.text) = a.line in
      omega arith;
  last = a.last;
}

-- the bytes from a place on
pub stretch_here : (i : Input) (p : Place) (n : ℕ) → At i p → take n p.left ≡ stretch i p.start (p.start + n)
stretch_here i p n a = let len : n ≡ p.start + n - p.start = omega arith in ap (λ (xs : List ℕ). take n xs) a.left ∙ ap (λ k. take k (drop p.start i.text)) len

pub stretch_more : (i : Input) (p : Place) (n from : ℕ) → At i p → from ≤ p.start → stretch i from p.start ++ take n p.left ≡ stretch i from (p.start + n)
stretch_more i p n from a order =
    let len : (p.start - from) + n ≡ p.start + n - from = omega arith in
    let there : from + (p.start - from) ≡ p.start = omega arith in
    ap (λ (xs : List ℕ). stretch i from p.start ++ take n xs) (a.left ∙ ap (λ k. drop k i.text) (sym there) ∙ sym (drop-drop (p.start - from) from i.text))
    ∙ sym (take-add (p.start - from) n (drop from i.text))
    ∙ ap (λ k. take k (drop from i.text)) len

pub inside_gap : (z : Bool) (i : Input) (d from line : ℕ) (p : Place) (t : List ℕ) (il n : ℕ) → (d == 0) ≡ z → At i p → Inside i d from line p t il → Inside i d from line (onward p n) (onto (z && true) t (take n p.left)) il
inside_gap true i d from line p t il n z a h = record {
  outside = λ e. ap (λ (xs : List ℕ). onto true xs (take n p.left)) (h.outside z) ∙ onto_none (take n p.left);
  text = λ e. absurd (true_false (sym z ∙ e));
  line = λ e. absurd (true_false (sym z ∙ e));
  order = λ e. absurd (true_false (sym z ∙ e));
}
inside_gap false i d from line p t il n z a h = record {
  outside = λ e. absurd (true_false (sym e ∙ z));
  text = λ e. onto_some t (take n p.left) ∙ ap (λ (xs : List ℕ). xs ++ take n p.left) (h.text z) ∙ stretch_more i p n from a (h.order z);
  line = h.line;
  order = λ e. omega (arith, h.order z);
}

-- What stands behind a gap.

pub gap_fits : (xs : List ℕ) (c : Bool) → (gap c xs).len ≤ length xs
gap_fits [] c = let none : (gap c []).len ≡ 0 = no_gap_len c in omega arith
gap_fits (b ∷ bs) c = subst (λ (g : Gap). g.len ≤ suc (length bs)) (sym (gap-cons c b bs (gap_step c b) refl)) (by_step (gap_step c b) (λ c'. gap_fits bs c'))
  where
    by_step : (s : Option Bool) → ((c' : Bool) → (gap c' bs).len ≤ length bs) → (after_gap_step c s (λ x. gap x bs)).len ≤ suc (length bs)
    by_step None ih = omega arith
    by_step (Some c') ih = omega (arith, ih c')

-- the first byte behind a gap is none of it
pub record Outer (c : Bool) (b : ℕ) (end : Bool) : Type 0 where
  pub step : gap_step false b ≡ None
  pub comment : end ≡ false

none_outside : (c : Bool) (b : ℕ) → gap_step c b ≡ None → c ≡ false
none_outside true b e = cc
none_outside false b e = refl

outer_by : (s : Option Bool) (c : Bool) (b0 b : ℕ) (bs0 bs : List ℕ) → gap_step c b0 ≡ s → ((c' : Bool) → drop (gap c' bs0).len bs0 ≡ b ∷ bs → Outer c' b (gap c' bs0).comment) →
    drop (after_gap_step c s (λ x. gap x bs0)).len (b0 ∷ bs0) ≡ b ∷ bs → Outer c b (after_gap_step c s (λ x. gap x bs0)).comment
outer_by None c b0 b bs0 bs e ih is =
    let same : b0 ≡ b = cc in
    let out : c ≡ false = none_outside c b0 e in
    record { step = ap (gap_step false) (sym same) ∙ ap (λ x. gap_step x b0) (sym out) ∙ e; comment = out }
outer_by (Some c') c b0 b bs0 bs e ih is = let h : Outer c' b (gap c' bs0).comment = ih c' (sym (drop_one (gap c' bs0).len b0 bs0) ∙ is) in record { step = h.step; comment = h.comment }

pub outer : (xs : List ℕ) (c : Bool) (b : ℕ) (bs : List ℕ) → drop (gap c xs).len xs ≡ b ∷ bs → Outer c b (gap c xs).comment
outer [] c b bs is = let none : [] ≡ b ∷ bs = sym (ap (λ (g : Gap). drop g.len []) (gap_nil c)) ∙ is in cc
outer (b0 ∷ bs0) c b bs is =
    subst (λ (g : Gap). Outer c b g.comment) (sym (gap-cons c b0 bs0 (gap_step c b0) refl))
    (outer_by (gap_step c b0) c b0 b bs0 bs refl (λ c'. outer bs0 c' b bs) (ap (λ (g : Gap). drop g.len (b0 ∷ bs0)) (sym (gap-cons c b0 bs0 (gap_step c b0) refl)) ∙ is))

pub front_some : (last : Bool) (xs : List ℕ) (b : ℕ) (bs : List ℕ) → after_gap xs ≡ b ∷ bs → front last xs ≡ front_of last (run mode.Start (b ∷ bs))
unfolding front
front_some last xs b bs e = ap (front_at last (gap false xs).comment) e

pub front_none : (xs : List ℕ) → after_gap xs ≡ [] → front true xs ≡ Nothing
unfolding front
front_none xs e = ap (front_at true (gap false xs).comment) e ∙ by_comment (gap false xs).comment
  where
    by_comment : (c : Bool) → front_at true c [] ≡ Nothing
    by_comment true = refl
    by_comment false = refl

-- the gap before a token is read
pub at_token : (i : Input) (p : Place) (d tl il : ℕ) (t : List ℕ) → At i p → token_start p ≤ i.room →
    reads i.number (St d tl il p.line false) t (i.room - p.start) p.left ≡ reads i.number (St d tl il (token_line p) (gap false p.left).comment) (onto (d == 0 && true) t (take (gap_len p.left) p.left)) (i.room - token_start p) (after_gap p.left)
at_token i p d tl il t a room =
    let split : i.room - p.start ≡ (i.room - (p.start + gap_len p.left)) + gap_len p.left = omega arith in
    ap (λ n. reads i.number (St d tl il p.line false) t n p.left) split ∙ gap_read p.left i.number d tl il false p.line t (i.room - token_start p)

-- a token begins with a byte
pub token_begins : (i : Input) (p : Place) (d tl il : ℕ) (t : List ℕ) (b : ℕ) (bs : List ℕ) → At i p → token_start p ≤ i.room → after_gap p.left ≡ b ∷ bs →
    reads i.number (St d tl il p.line false) t (i.room - p.start) p.left ≡ reads i.number (St d tl il (token_line p) false) (onto (d == 0 && true) t (take (gap_len p.left) p.left)) (i.room - token_start p) (b ∷ bs)
token_begins i p d tl il t b bs a room is =
    at_token i p d tl il t a room
    ∙ ap (reads i.number (St d tl il (token_line p) (gap false p.left).comment) (onto (d == 0 && true) t (take (gap_len p.left) p.left)) (i.room - token_start p)) is
    ∙ ap (λ c. reads i.number (St d tl il (token_line p) c) (onto (d == 0 && true) t (take (gap_len p.left) p.left)) (i.room - token_start p) (b ∷ bs)) (outer p.left false b bs is).comment
