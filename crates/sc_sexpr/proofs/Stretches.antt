-- What a reader does over white space, comments and one token.
use Rattle.std.proofs.Common.{◌≡◌, ℕ, zero, suc, ◌+◌, ◌-◌, ◌<◌, Bool, true, false, cond, not, ◌&&◌, ◌==◌, if◌then◌else◌, List, [], ◌∷◌, ◌++◌, take, drop, Option, Some, None, refl, sym, ap, ◌∙◌, arith, append_assoc, append-nil, add-one, subst}
use Rattle.std.proofs.lemmas.Bool.{ne_eqb, eqb-true}
use Rattle.std.proofs.lemmas.List.Sums.{sum_by-cons}
use Rattle.sc_text.specs.declared.mode.Mode.{Mode}
use Rattle.sc_text.specs.declared.mode.Mode.TheVariants as mode
use Rattle.sc_text.specs.declared.front.Gap.{Gap}
use Rattle.sc_text.specs.Bytes.{is_white, is_break, line_feeds}
use Rattle.sc_text.specs.Modes.{step_of}
use Rattle.sc_text.specs.Fronts.{gap_step, after_gap_step, gap}
use Rattle.sc_sexpr.specs.declared.item.Fault.TheVariants.{Limit}
use Rattle.sc_sexpr.specs.declared.state.State.{State}
use Rattle.sc_sexpr.specs.declared.state.Move.{Move}
use Rattle.sc_sexpr.specs.declared.state.Move.TheVariants as move
use Rattle.sc_sexpr.specs.Moves.{begins, fresh, move_of}
use Rattle.sc_sexpr.specs.Scans.{stops, reads_after, reads_past, reads}
use Rattle.sc_sexpr.proofs.Reading.{skip, reads_room, reads_none}

-- between tokens, and within one
abbrev pub St : ℕ → ℕ → ℕ → ℕ → Bool → State
St d tl il l c = record { mode = mode.Start; comment = c; depth = d; line = l; token_line = tl; item_line = il }

abbrev pub Md : ℕ → ℕ → ℕ → Mode → ℕ → State
Md d tl il m l = record { mode = m; comment = false; depth = d; line = l; token_line = tl; item_line = il }

abbrev pub line_of : ℕ → ℕ → ℕ
line_of l b = if b == 10 then l + 1 else l

feeds_by : (c : Bool) (l n : ℕ) → (if c then l + 1 else l) + n ≡ l + (cond c 1 0 + n)
feeds_by true l n = omega arith
feeds_by false l n = omega arith

pub feeds-cons : (l b : ℕ) (bs : List ℕ) → line_of l b + line_feeds bs ≡ l + line_feeds (b ∷ bs)
feeds-cons l b bs = feeds_by (b == 10) l (line_feeds bs) ∙ ap (λ n. l + n) (sym (sum_by-cons (λ (x : ℕ). cond (x == 10) 1 0) b bs))

pub feeds-nil : (l : ℕ) → l ≡ l + line_feeds []
feeds-nil l = omega arith

pub suc_some : (r : ℕ) → (suc r == 0) ≡ false
suc_some r = ne_eqb (suc r) 0 (λ e. omega arith)

pub reads_suc : (number : ℕ) (s : State) (t : List ℕ) (r b : ℕ) (bs : List ℕ) (m : Move) → move_of s b ≡ m → reads number s t (suc r) (b ∷ bs) ≡ reads_after m s t b (λ s' t'. reads number s' t' r bs)
reads_suc number s t r b bs m e =
    let back : suc r - 1 ≡ r = omega arith in
    reads_room number s t (suc r) b bs (suc_some r) ∙ ap (λ n. reads_after (move_of s b) s t b (λ s' t'. reads number s' t' n bs)) back ∙ ap (λ x. reads_after x s t b (λ s' t'. reads number s' t' r bs)) e

pub reads_zero : (number : ℕ) (s : State) (t : List ℕ) (b : ℕ) (bs : List ℕ) (m : Move) → move_of s b ≡ m → reads number s t 0 (b ∷ bs) ≡ reads_past m number s t
reads_zero number s t b bs m e = reads_none number s t b bs ∙ ap (λ x. reads_past x number s t) e

-- white space and comments

-- the text at hand, where these bytes come
abbrev pub onto : Bool → List ℕ → List ℕ → List ℕ
onto i t [] = t
onto i t (b ∷ bs) = onto i (if i then [] else t ++ b ∷ []) bs

pub onto_none : (xs : List ℕ) → onto true [] xs ≡ []
onto_none [] = refl
onto_none (x ∷ xs) = onto_none xs

pub onto_some : (t xs : List ℕ) → onto false t xs ≡ t ++ xs
onto_some t [] = sym (append-nil t)
onto_some t (x ∷ xs) = onto_some (t ++ x ∷ []) xs ∙ append_assoc t (x ∷ []) xs

comment_move : (d tl il l b : ℕ) (c' : Bool) → not (is_break b) ≡ c' → move_of (St d tl il l true) b ≡ move.Go (St d tl il (line_of l b) c')
unfolding move_of
comment_move d tl il l b c' e = ap (λ c. move.Go (St d tl il (line_of l b) c)) e

semicolon_by : (s : Bool) (d tl il l b : ℕ) (c' : Bool) (x : Move) → (b == 59) ≡ s → (if s then Some true else None) ≡ Some c' → (if s then move.Go (St d tl il l true) else x) ≡ move.Go (St d tl il (line_of l b) c')
semicolon_by true d tl il l b c' x is e =
    let there : b ≡ 59 = eqb-true b 59 is in
    let comment : true ≡ c' = cc in
    ap (λ n. move.Go (St d tl il (line_of l n) true)) (sym there) ∙ ap (λ c. move.Go (St d tl il (line_of l b) c)) comment
semicolon_by false d tl il l b c' x is e = cc

white_by : (w : Bool) (d tl il l b : ℕ) (c' : Bool) (x : Move) → (if w then Some false else if b == 59 then Some true else None) ≡ Some c' →
    (if w then move.Go (St d tl il (line_of l b) false) else if b == 59 then move.Go (St d tl il l true) else x) ≡ move.Go (St d tl il (line_of l b) c')
white_by true d tl il l b c' x e = let none : false ≡ c' = cc in ap (λ c. move.Go (St d tl il (line_of l b) c)) none
white_by false d tl il l b c' x e = semicolon_by (b == 59) d tl il l b c' x refl e

gap_move : (c : Bool) (d tl il l b : ℕ) (c' : Bool) → gap_step c b ≡ Some c' → move_of (St d tl il l c) b ≡ move.Go (St d tl il (line_of l b) c')
unfolding move_of fresh
gap_move true d tl il l b c' e = let same : not (is_break b) ≡ c' = cc in comment_move d tl il l b c' same
gap_move false d tl il l b c' e = white_by (is_white b) d tl il l b c' _ e

black_by : (w s : Bool) → (if w then Some false else if s then Some true else None) ≡ None → (w ≡ false) × (s ≡ false)
black_by true s e = cc
black_by false true e = cc
black_by false false e = (refl, refl)

pub start_move : (d tl il l b : ℕ) → gap_step false b ≡ None → move_of (St d tl il l false) b ≡ begins (St d tl il l false) b (step_of mode.Start b)
unfolding move_of fresh
start_move d tl il l b e = skip (is_white b) _ _ (black_by (is_white b) (b == 59) e).0 ∙ skip (b == 59) _ _ (black_by (is_white b) (b == 59) e).1

pub gap_nil : (c : Bool) → gap c [] ≡ record { len = 0; comment = c }
unfolding gap
gap_nil c = refl

pub gap-cons : (c : Bool) (b : ℕ) (bs : List ℕ) (s : Option Bool) → gap_step c b ≡ s → gap c (b ∷ bs) ≡ after_gap_step c s (λ x. gap x bs)
unfolding gap
gap-cons c b bs s e = ap (λ x. after_gap_step c x (λ y. gap y bs)) e

pub take_one : (n b : ℕ) (bs : List ℕ) → take (n + 1) (b ∷ bs) ≡ b ∷ take n bs
take_one n b bs = rw add-one refl

pub drop_one : (n b : ℕ) (bs : List ℕ) → drop (n + 1) (b ∷ bs) ≡ drop n bs
drop_one n b bs = rw add-one refl

-- the gap is read
abbrev GapRead : ℕ → ℕ → ℕ → ℕ → Gap → List ℕ → Bool → ℕ → List ℕ → ℕ → Type 0
GapRead number d tl il g xs c l t r = reads number (St d tl il l c) t (r + g.len) xs ≡ reads number (St d tl il (l + line_feeds (take g.len xs)) g.comment) (onto (d == 0 && true) t (take g.len xs)) r (drop g.len xs)

gap_nothing : (number d tl il l r : ℕ) (c : Bool) (t xs : List ℕ) → GapRead number d tl il (record { len = 0; comment = c }) xs c l t r
gap_nothing number d tl il l r c t xs =
    let same : r + 0 ≡ r = omega arith in
    ap (λ n. reads number (St d tl il l c) t n xs) same ∙ ap (λ n. reads number (St d tl il n c) t r xs) (feeds-nil l)

gap_read_by : (s : Option Bool) (number d tl il : ℕ) (c : Bool) (l b : ℕ) (t bs : List ℕ) (r : ℕ) → gap_step c b ≡ s → ((c' : Bool) (l' : ℕ) (t' : List ℕ) → GapRead number d tl il (gap c' bs) bs c' l' t' r) →
    GapRead number d tl il (after_gap_step c s (λ x. gap x bs)) (b ∷ bs) c l t r
gap_read_by None number d tl il c l b t bs r e ih = gap_nothing number d tl il l r c t (b ∷ bs)
gap_read_by (Some c') number d tl il c l b t bs r e ih =
    let one : r + ((gap c' bs).len + 1) ≡ suc (r + (gap c' bs).len) = omega arith in
    ap (λ k. reads number (St d tl il l c) t k (b ∷ bs)) one
    ∙ reads_suc number (St d tl il l c) t (r + (gap c' bs).len) b bs (move.Go (St d tl il (line_of l b) c')) (gap_move c d tl il l b c' e)
    ∙ ih c' (line_of l b) (if d == 0 && true then [] else t ++ b ∷ [])
    ∙ ap (λ k. reads number (St d tl il k (gap c' bs).comment) (onto (d == 0 && true) (if d == 0 && true then [] else t ++ b ∷ []) (take (gap c' bs).len bs)) r (drop (gap c' bs).len bs)) (feeds-cons l b (take (gap c' bs).len bs))
    ∙ ap (λ (ys : List ℕ). reads number (St d tl il (l + line_feeds ys) (gap c' bs).comment) (onto (d == 0 && true) t ys) r (drop (gap c' bs).len bs)) (sym (take_one (gap c' bs).len b bs))
    ∙ ap (λ (ys : List ℕ). reads number (St d tl il (l + line_feeds (take ((gap c' bs).len + 1) (b ∷ bs))) (gap c' bs).comment) (onto (d == 0 && true) t (take ((gap c' bs).len + 1) (b ∷ bs))) r ys) (sym (drop_one (gap c' bs).len b bs))

pub gap_read : (xs : List ℕ) (number d tl il : ℕ) (c : Bool) (l : ℕ) (t : List ℕ) (r : ℕ) → GapRead number d tl il (gap c xs) xs c l t r
gap_read [] number d tl il c l t r = subst (λ (g : Gap). GapRead number d tl il g [] c l t r) (sym (gap_nil c)) (gap_nothing number d tl il l r c t [])
gap_read (b ∷ bs) number d tl il c l t r =
    subst (λ (g : Gap). GapRead number d tl il g (b ∷ bs) c l t r) (sym (gap-cons c b bs (gap_step c b) refl)) (gap_read_by (gap_step c b) number d tl il c l b t bs r refl (λ c' l' t'. gap_read bs number d tl il c' l' t' r))

-- the limit comes within the gap

abbrev GapFull : ℕ → ℕ → ℕ → ℕ → Gap → List ℕ → Bool → ℕ → List ℕ → ℕ → Type 0
GapFull number d tl il g xs c l t r = r < g.len → reads number (St d tl il l c) t r xs ≡ stops (Limit (if d == 0 && true then l + line_feeds (take r xs) else il) number)

gap_full_by : (s : Option Bool) (number d tl il : ℕ) (c : Bool) (l b : ℕ) (t bs : List ℕ) (r : ℕ) → gap_step c b ≡ s → ((c' : Bool) (l' : ℕ) (t' : List ℕ) (r' : ℕ) → GapFull number d tl il (gap c' bs) bs c' l' t' r') →
    GapFull number d tl il (after_gap_step c s (λ x. gap x bs)) (b ∷ bs) c l t r
gap_full_by None number d tl il c l b t bs r e ih lt = absurd (omega arith)
gap_full_by (Some c') number d tl il c l b t bs zero e ih lt =
    reads_zero number (St d tl il l c) t b bs (move.Go (St d tl il (line_of l b) c')) (gap_move c d tl il l b c' e) ∙ ap (λ k. stops (Limit (if d == 0 && true then k else il) number)) (feeds-nil l)
gap_full_by (Some c') number d tl il c l b t bs (suc r) e ih lt =
    reads_suc number (St d tl il l c) t r b bs (move.Go (St d tl il (line_of l b) c')) (gap_move c d tl il l b c' e)
    ∙ ih c' (line_of l b) (if d == 0 && true then [] else t ++ b ∷ []) r (omega arith)
    ∙ ap (λ k. stops (Limit (if d == 0 && true then k else il) number)) (feeds-cons l b (take r bs))

pub no_gap_len : (c : Bool) → (gap c []).len ≡ 0
no_gap_len c = ap (λ (g : Gap). g.len) (gap_nil c)

pub gap_full : (xs : List ℕ) (number d tl il : ℕ) (c : Bool) (l : ℕ) (t : List ℕ) (r : ℕ) → GapFull number d tl il (gap c xs) xs c l t r
gap_full [] number d tl il c l t r lt = let none : (gap c []).len ≡ 0 = no_gap_len c in absurd (omega arith)
gap_full (b ∷ bs) number d tl il c l t r lt =
    gap_full_by (gap_step c b) number d tl il c l b t bs r refl (λ c' l' t' r'. gap_full bs number d tl il c' l' t' r') (subst (λ (g : Gap). r < g.len) (gap-cons c b bs (gap_step c b) refl) lt)

-- the gap of the first bytes

gap_within_by : (s : Option Bool) (c : Bool) (b : ℕ) (bs : List ℕ) (r : ℕ) → gap_step c b ≡ s → ((c' : Bool) (r' : ℕ) → r' < (gap c' bs).len → drop (gap c' (take r' bs)).len (take r' bs) ≡ []) →
    r < (after_gap_step c s (λ x. gap x bs)).len → drop (gap c (take r (b ∷ bs))).len (take r (b ∷ bs)) ≡ []
gap_within_by None c b bs r e ih lt = absurd (omega arith)
gap_within_by (Some c') c b bs zero e ih lt = ap (λ (g : Gap). drop g.len []) (gap_nil c)
gap_within_by (Some c') c b bs (suc r) e ih lt =
    ap (λ (g : Gap). drop g.len (b ∷ take r bs)) (gap-cons c b (take r bs) (Some c') e) ∙ drop_one (gap c' (take r bs)).len b (take r bs) ∙ ih c' r (omega arith)

pub gap_within : (xs : List ℕ) (c : Bool) (r : ℕ) → r < (gap c xs).len → drop (gap c (take r xs)).len (take r xs) ≡ []
gap_within [] c r lt = let none : (gap c []).len ≡ 0 = no_gap_len c in absurd (omega arith)
gap_within (b ∷ bs) c r lt = gap_within_by (gap_step c b) c b bs r refl (λ c' r'. gap_within bs c' r') (subst (λ (g : Gap). r < g.len) (gap-cons c b bs (gap_step c b) refl) lt)

pub take_nil : (r : ℕ) → take r (let none : List ℕ = [] in none) ≡ []
take_nil zero = refl
take_nil (suc r) = refl

abbrev Before : ℕ → Gap → Bool → List ℕ → Type 0
Before r g c xs = drop (gap c (take (r + g.len) xs)).len (take (r + g.len) xs) ≡ take r (drop g.len xs)

before_none : (c : Bool) (b : ℕ) (bs : List ℕ) (k : ℕ) → gap_step c b ≡ None → drop (gap c (take k (b ∷ bs))).len (take k (b ∷ bs)) ≡ take k (b ∷ bs)
before_none c b bs zero e = ap (λ (g : Gap). drop g.len []) (gap_nil c)
before_none c b bs (suc k) e = ap (λ (g : Gap). drop g.len (b ∷ take k bs)) (gap-cons c b (take k bs) None e)

gap_before_by : (s : Option Bool) (c : Bool) (b : ℕ) (bs : List ℕ) (r : ℕ) → gap_step c b ≡ s → ((c' : Bool) → Before r (gap c' bs) c' bs) → Before r (after_gap_step c s (λ x. gap x bs)) c (b ∷ bs)
gap_before_by None c b bs r e ih =
    let same : r + 0 ≡ r = omega arith in
    ap (λ k. drop (gap c (take k (b ∷ bs))).len (take k (b ∷ bs))) same ∙ before_none c b bs r e
gap_before_by (Some c') c b bs r e ih =
    let one : r + ((gap c' bs).len + 1) ≡ suc (r + (gap c' bs).len) = omega arith in
    ap (λ k. drop (gap c (take k (b ∷ bs))).len (take k (b ∷ bs))) one
    ∙ ap (λ (g : Gap). drop g.len (b ∷ take (r + (gap c' bs).len) bs)) (gap-cons c b (take (r + (gap c' bs).len) bs) (Some c') e)
    ∙ drop_one (gap c' (take (r + (gap c' bs).len) bs)).len b (take (r + (gap c' bs).len) bs)
    ∙ ih c'
    ∙ ap (take r) (sym (drop_one (gap c' bs).len b bs))

pub gap_before : (xs : List ℕ) (c : Bool) (r : ℕ) → Before r (gap c xs) c xs
gap_before [] c r =
    ap (λ ys. drop (gap c ys).len ys) (take_nil (r + (gap c []).len)) ∙ ap (λ (g : Gap). drop g.len []) (gap_nil c) ∙ sym (take_nil r) ∙ ap (λ (g : Gap). take r (drop g.len [])) (sym (gap_nil c))
gap_before (b ∷ bs) c r = subst (λ (g : Gap). Before r g c (b ∷ bs)) (sym (gap-cons c b bs (gap_step c b) refl)) (gap_before_by (gap_step c b) c b bs r refl (λ c'. gap_before bs c' r))
