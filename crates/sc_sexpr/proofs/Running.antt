-- What a reader does over one token.
use Rattle.std.proofs.Common.{◌≡◌, ℕ, zero, suc, ◌+◌, ◌-◌, ◌<◌, ◌≤◌, Bool, true, false, ◌&&◌, ◌==◌, if◌then◌else◌, List, [], ◌∷◌, ◌++◌, length, take, drop, Option, Some, None, refl, sym, ap, ◌∙◌, arith, append_assoc, append-nil, subst}
use Rattle.std.proofs.lemmas.Bool.{eqb-true}
use Rattle.sc_text.specs.declared.token.Kind.{Kind}
use Rattle.sc_text.specs.declared.token.Kind.TheVariants as kind
use Rattle.sc_text.specs.declared.mode.Mode.{Mode}
use Rattle.sc_text.specs.declared.mode.Mode.TheVariants as mode
use Rattle.sc_text.specs.declared.mode.Step.{Step}
use Rattle.sc_text.specs.declared.mode.Step.TheVariants as step
use Rattle.sc_text.specs.declared.front.Run.{Run}
use Rattle.sc_text.specs.declared.front.Run.TheVariants.{Takes, Ends, Fails}
use Rattle.sc_text.specs.declared.front.Front.TheVariants.{Token as Found}
use Rattle.sc_text.specs.Bytes.{line_feeds}
use Rattle.sc_text.specs.Modes.{is_start, is_unclosed, whole, closing, step_of, longer, after_step, run}
use Rattle.sc_text.specs.Fronts.{ended, front_of}
use Rattle.sc_sexpr.specs.declared.item.Fault.TheVariants.{Lexical, Unclosed, Limit}
use Rattle.sc_sexpr.specs.declared.state.State.{State}
use Rattle.sc_sexpr.specs.declared.state.Move.{Move}
use Rattle.sc_sexpr.specs.declared.state.Move.TheVariants as move
use Rattle.sc_sexpr.specs.declared.state.Ending.{Ending}
use Rattle.sc_sexpr.specs.declared.state.Ending.TheVariants as ending
use Rattle.sc_sexpr.specs.Moves.{is_idle, here, fresh, continues, move_of, ends_token, ending_of}
use Rattle.sc_sexpr.specs.Scans.{Reading, with_top, stops, text_after, ends_with, reads_after, reads}
use Rattle.sc_sexpr.proofs.Reading.{skip, and_false, fresh_not_before, closed_moves, reads_room, past_by, past_again, closed_again}
use Rattle.sc_sexpr.proofs.AtHand.{IsPlain, step_goes, step_closes, step_stops, closing_is, whole_plain, quoted_plain}
use Rattle.sc_sexpr.proofs.Stretches.{St, Md, line_of, feeds-cons, feeds-nil, suc_some, reads_suc, reads_zero, take_one, drop_one}

-- a token is at hand

md_idle : (d tl il l : ℕ) (m : Mode) → is_start m ≡ false → is_idle (Md d tl il m l) ≡ false
md_idle d tl il l m e = and_false (d == 0) (is_start m) e

md_move : (d tl il l b : ℕ) (m : Mode) (s : Step) → is_start m ≡ false → step_of m b ≡ s → move_of (Md d tl il m l) b ≡ continues (Md d tl il m l) b s
unfolding move_of
md_move d tl il l b m s e is = skip (is_start m) _ _ e ∙ ap (continues (Md d tl il m l) b) is

pub md_text : (d tl il l b : ℕ) (m : Mode) (t : List ℕ) → is_start m ≡ false → text_after (Md d tl il m l) t b ≡ t ++ b ∷ []
md_text d tl il l b m t e = skip (is_idle (Md d tl il m l)) _ _ (md_idle d tl il l m e)

md_here : (d tl il l : ℕ) (m : Mode) → is_start m ≡ false → here (Md d tl il m l) ≡ il
md_here d tl il l m e = skip (is_idle (Md d tl il m l)) _ _ (md_idle d tl il l m e)

-- the token goes on with a byte
go_on : (number d tl il l b r : ℕ) (m n : Mode) (t bs : List ℕ) → is_start m ≡ false → step_of m b ≡ step.Go n → reads number (Md d tl il m l) t (suc r) (b ∷ bs) ≡ reads number (Md d tl il n (line_of l b)) (t ++ b ∷ []) r bs
go_on number d tl il l b r m n t bs e is =
    reads_suc number (Md d tl il m l) t r b bs (move.Go (Md d tl il n (line_of l b))) (md_move d tl il l b m (step.Go n) e is)
    ∙ ap (λ ys. reads number (Md d tl il n (line_of l b)) ys r bs) (md_text d tl il (line_of l b) b n t (step_goes m b n is))

-- behind a token
abbrev pub behind : ℕ → ℕ → ℕ → ℕ → List ℕ → ℕ → ℕ → List ℕ → Reading
behind number d tl il t l r zs = if d == 0 then with_top t il (reads number (St d tl il l false) [] r zs) else reads number (St d tl il l false) t r zs

-- the token ends with a byte
close_by : (z : Bool) (number d tl il l b r : ℕ) (m : Mode) (k : Kind) (t bs : List ℕ) → (d == 0) ≡ z → is_start m ≡ false → step_of m b ≡ step.Close k →
    reads number (Md d tl il m l) t (suc r) (b ∷ bs) ≡ (if z then with_top (t ++ b ∷ []) il (reads number (St d tl il l false) [] r bs) else reads number (St d tl il l false) (t ++ b ∷ []) r bs)
close_by true number d tl il l b r m k t bs z e is =
    reads_suc number (Md d tl il m l) t r b bs (move.Done (St d tl il l false)) (md_move d tl il l b m (step.Close k) e is ∙ ap (λ c. if c then move.Done (St d tl il l false) else move.Go (St d tl il l false)) z)
close_by false number d tl il l b r m k t bs z e is =
    reads_suc number (Md d tl il m l) t r b bs (move.Go (St d tl il l false)) (md_move d tl il l b m (step.Close k) e is ∙ ap (λ c. if c then move.Done (St d tl il l false) else move.Go (St d tl il l false)) z)
    ∙ ap (λ c. reads number (St d tl il l false) (if c && true then [] else t ++ b ∷ []) r bs) z

close_reads : (number d tl il l b r : ℕ) (m : Mode) (k : Kind) (t bs : List ℕ) → is_start m ≡ false → step_of m b ≡ step.Close k → reads number (Md d tl il m l) t (suc r) (b ∷ bs) ≡ behind number d tl il (t ++ b ∷ []) l r bs
close_reads number d tl il l b r m k t bs e is = close_by (d == 0) number d tl il l b r m k t bs refl e is

-- the token ends before a byte

stop_outside : (number d tl il l b r : ℕ) (m : Mode) (t bs : List ℕ) → move_of (Md d tl il m l) b ≡ move.Before → reads number (Md d tl il m l) t r (b ∷ bs) ≡ with_top t il (reads number (St d tl il l false) [] r (b ∷ bs))
stop_outside number d tl il l b zero m t bs e = reads_zero number (Md d tl il m l) t b bs move.Before e ∙ ap (with_top t il) (past_again number (Md d tl il m l) b bs e)
stop_outside number d tl il l b (suc r) m t bs e =
    reads_room number (Md d tl il m l) t (suc r) b bs (suc_some r) ∙ ap (λ x. reads_after x (Md d tl il m l) t b (λ s' t'. reads number s' t' (suc r - 1) bs)) e
    ∙ ap (with_top t il) (closed_again number (Md d tl il m l) (suc r) b bs (suc_some r) e)

same_after : (x : Move) (d tl il l b : ℕ) (m : Mode) (t : List ℕ) (rest : State → List ℕ → Reading) → reads_after x (Md d tl il m l) t b rest ≡ reads_after x (St d tl il l false) t b rest
same_after (move.Go s) d tl il l b m t rest = refl
same_after (move.Done s) d tl il l b m t rest = refl
same_after move.Before d tl il l b m t rest = refl
same_after (move.Fail f) d tl il l b m t rest = refl

stop_within : (number d tl il l b r : ℕ) (m : Mode) (t bs : List ℕ) → is_start m ≡ false → (d == 0) ≡ false → move_of (Md d tl il m l) b ≡ fresh (St d tl il l false) b → reads number (Md d tl il m l) t r (b ∷ bs) ≡ reads number (St d tl il l false) t r (b ∷ bs)
stop_within number d tl il l b zero m t bs st z e =
    let again : move_of (St d tl il l false) b ≡ fresh (St d tl il l false) b = closed_moves (Md d tl il m l) b refl in
    reads_zero number (Md d tl il m l) t b bs _ e
    ∙ past_by number (Md d tl il m l) t (fresh (St d tl il l false) b) (fresh_not_before (St d tl il l false) b)
    ∙ ap (λ n. stops (Limit n number)) (md_here d tl il l m st ∙ sym (ap (λ c. if c && true then l else il) z))
    ∙ sym (past_by number (St d tl il l false) t (fresh (St d tl il l false) b) (fresh_not_before (St d tl il l false) b))
    ∙ sym (reads_zero number (St d tl il l false) t b bs _ again)
stop_within number d tl il l b (suc r) m t bs st z e =
    let again : move_of (St d tl il l false) b ≡ fresh (St d tl il l false) b = closed_moves (Md d tl il m l) b refl in
    reads_suc number (Md d tl il m l) t r b bs _ e ∙ same_after (fresh (St d tl il l false) b) d tl il l b m t (λ s' t'. reads number s' t' r bs) ∙ sym (reads_suc number (St d tl il l false) t r b bs _ again)

stop_by : (z : Bool) (number d tl il l b r : ℕ) (m : Mode) (k : Kind) (t bs : List ℕ) → (d == 0) ≡ z → is_start m ≡ false → step_of m b ≡ step.Stop k →
    reads number (Md d tl il m l) t r (b ∷ bs) ≡ (if z then with_top t il (reads number (St d tl il l false) [] r (b ∷ bs)) else reads number (St d tl il l false) t r (b ∷ bs))
stop_by true number d tl il l b r m k t bs z e is =
    stop_outside number d tl il l b r m t bs (md_move d tl il l b m (step.Stop k) e is ∙ ap (λ c. if c then move.Before else fresh (St d tl il l false) b) z)
stop_by false number d tl il l b r m k t bs z e is =
    stop_within number d tl il l b r m t bs e z (md_move d tl il l b m (step.Stop k) e is ∙ ap (λ c. if c then move.Before else fresh (St d tl il l false) b) z)

stop_reads : (number d tl il l b r : ℕ) (m : Mode) (k : Kind) (t bs : List ℕ) → is_start m ≡ false → step_of m b ≡ step.Stop k → reads number (Md d tl il m l) t r (b ∷ bs) ≡ behind number d tl il t l r (b ∷ bs)
stop_reads number d tl il l b r m k t bs e is = stop_by (d == 0) number d tl il l b r m k t bs refl e is

-- the token ends with the text

pub reads_nil : (number : ℕ) (s : State) (t : List ℕ) (r : ℕ) (e : Ending) → ending_of s ≡ e → reads number s t r [] ≡ ends_with e s t
unfolding reads
reads_nil number s t r e is = ap (λ x. ends_with x s t) is

md_ending : (d tl il l : ℕ) (m : Mode) (w : Option Kind) → is_start m ≡ false → whole m ≡ w → ending_of (Md d tl il m l) ≡ ends_token (Md d tl il m l) w
md_ending d tl il l m w e is = skip (is_idle (Md d tl il m l)) _ _ (md_idle d tl il l m e) ∙ ap (ends_token (Md d tl il m l)) is

pub st_ending : (z : Bool) (d tl il l : ℕ) (c : Bool) → (d == 0) ≡ z → ending_of (St d tl il l c) ≡ (if z then ending.Nothing else ending.Bad (Unclosed il))
st_ending true d tl il l c z = ap (λ x. if x && true then ending.Nothing else ending.Bad (Unclosed il)) z
st_ending false d tl il l c z = ap (λ x. if x && true then ending.Nothing else ending.Bad (Unclosed il)) z

end_by : (z : Bool) (number d tl il l r r' : ℕ) (m : Mode) (k : Kind) (t : List ℕ) → (d == 0) ≡ z → is_start m ≡ false → whole m ≡ Some k →
    reads number (Md d tl il m l) t r [] ≡ (if z then with_top t il (reads number (St d tl il l false) [] r' []) else reads number (St d tl il l false) t r' [])
end_by true number d tl il l r r' m k t z e w =
    reads_nil number (Md d tl il m l) t r ending.Whole (md_ending d tl il l m (Some k) e w ∙ ap (λ c. if c then ending.Whole else ending.Bad (Unclosed il)) z)
    ∙ ap (with_top t il) (sym (reads_nil number (St d tl il l false) [] r' ending.Nothing (st_ending true d tl il l false z)))
end_by false number d tl il l r r' m k t z e w =
    reads_nil number (Md d tl il m l) t r (ending.Bad (Unclosed il)) (md_ending d tl il l m (Some k) e w ∙ ap (λ c. if c then ending.Whole else ending.Bad (Unclosed il)) z)
    ∙ sym (reads_nil number (St d tl il l false) t r' (ending.Bad (Unclosed il)) (st_ending false d tl il l false z))

-- a whole token

pub longer_token : (r : Run) (k : Kind) (n : ℕ) → front_of true (longer r) ≡ Found k n → (i : ℕ) × (n ≡ i + 1) × (front_of true r ≡ Found k i)
longer_token (Takes j k') k n e = let kind : k' ≡ k = cc in (j, cc, ap (λ x. Found x j) kind)
longer_token (Ends j m) k n e = by_kind (whole m) e
  where
    by_kind : (w : Option Kind) → ended (j + 1) w ≡ Found k n → (i : ℕ) × (n ≡ i + 1) × (ended j w ≡ Found k i)
    by_kind None e = cc
    by_kind (Some k') e = let kind : k' ≡ k = cc in (j, cc, ap (λ x. Found x j) kind)
longer_token Fails k n e = cc

pub run_cons : (m : Mode) (b : ℕ) (bs : List ℕ) (s : Step) → step_of m b ≡ s → run m (b ∷ bs) ≡ after_step s (λ n. run n bs)
unfolding run
run_cons m b bs s e = ap (λ x. after_step x (λ n. run n bs)) e

pub run_empty : (m : Mode) → run m [] ≡ Ends 0 m
unfolding run
run_empty m = refl

ended_token : (w : Option Kind) (k : Kind) (n : ℕ) → ended 0 w ≡ Found k n → (w ≡ Some k) × (n ≡ 0)
ended_token None k n e = cc
ended_token (Some k') k n e = let kind : k' ≡ k = cc in (ap Some kind, cc)

bar_by : (c : Bool) (b : ℕ) (k : Kind) → (b == 124) ≡ c → (if c then Some kind.Quoted else None) ≡ Some k → b ≡ 124
bar_by true b k is e = eqb-true b 124 is
bar_by false b k is e = cc

-- only a bar ends a token of its own accord
closing_bar : (m : Mode) (b : ℕ) (k : Kind) → is_start m ≡ false → closing m b ≡ Some k → b ≡ 124
closing_bar mode.Start b k s e = cc
closing_bar mode.Symbol b k s e = cc
closing_bar mode.Zero b k s e = cc
closing_bar mode.Digits b k s e = cc
closing_bar mode.Dot b k s e = cc
closing_bar mode.Decimal b k s e = cc
closing_bar mode.Hash b k s e = cc
closing_bar mode.HexStart b k s e = cc
closing_bar mode.Hex b k s e = cc
closing_bar mode.BinaryStart b k s e = cc
closing_bar mode.Binary b k s e = cc
closing_bar mode.Colon b k s e = cc
closing_bar mode.Keyword b k s e = cc
closing_bar mode.Literal b k s e = cc
closing_bar mode.LiteralQuote b k s e = cc
closing_bar mode.Quoted b k s e = bar_by (b == 124) b k refl e

pub no_feed : (l b : ℕ) → line_of l b ≡ l → l ≡ l + line_feeds (b ∷ [])
no_feed l b e = sym e ∙ feeds-nil (line_of l b) ∙ feeds-cons l b []

bar_line : (l b : ℕ) → b ≡ 124 → line_of l b ≡ l
bar_line l b e = ap (line_of l) e

abbrev RunRead : ℕ → ℕ → ℕ → ℕ → Mode → ℕ → List ℕ → ℕ → List ℕ → ℕ → Type 0
RunRead number d tl il m l t r xs n = reads number (Md d tl il m l) t (r + n) xs ≡ behind number d tl il (t ++ take n xs) (l + line_feeds (take n xs)) r (drop n xs)

run_read_by : (s : Step) (number d tl il : ℕ) (m : Mode) (l b : ℕ) (t bs : List ℕ) (r : ℕ) (k : Kind) (n : ℕ) → is_start m ≡ false → step_of m b ≡ s → front_of true (after_step s (λ x. run x bs)) ≡ Found k n →
    ((m' : Mode) (l' : ℕ) (t' : List ℕ) (n' : ℕ) → is_start m' ≡ false → front_of true (run m' bs) ≡ Found k n' → RunRead number d tl il m' l' t' r bs n') → RunRead number d tl il m l t r (b ∷ bs) n
run_read_by (step.Go m') number d tl il m l b t bs r k n st e f ih =
    let one : (i : ℕ) × (n ≡ i + 1) × (front_of true (run m' bs) ≡ Found k i) = longer_token (run m' bs) k n f in
    let more : r + (one.0 + 1) ≡ suc (r + one.0) = omega arith in
    subst (λ x. RunRead number d tl il m l t r (b ∷ bs) x) (sym one.1)
    (ap (λ x. reads number (Md d tl il m l) t x (b ∷ bs)) more
    ∙ go_on number d tl il l b (r + one.0) m m' t bs st e
    ∙ ih m' (line_of l b) (t ++ b ∷ []) one.0 (step_goes m b m' e) one.2
    ∙ ap (λ ys. behind number d tl il ys (line_of l b + line_feeds (take one.0 bs)) r (drop one.0 bs)) (append_assoc t (b ∷ []) (take one.0 bs))
    ∙ ap (λ x. behind number d tl il (t ++ b ∷ take one.0 bs) x r (drop one.0 bs)) (feeds-cons l b (take one.0 bs))
    ∙ ap (λ (ys : List ℕ). behind number d tl il (t ++ ys) (l + line_feeds ys) r (drop one.0 bs)) (sym (take_one one.0 b bs))
    ∙ ap (behind number d tl il (t ++ take (one.0 + 1) (b ∷ bs)) (l + line_feeds (take (one.0 + 1) (b ∷ bs))) r) (sym (drop_one one.0 b bs)))
run_read_by (step.Close k') number d tl il m l b t bs r k n st e f ih =
    let one : 1 ≡ n = cc in
    let more : r + 1 ≡ suc r = omega arith in
    subst (λ x. RunRead number d tl il m l t r (b ∷ bs) x) one
    (ap (λ x. reads number (Md d tl il m l) t x (b ∷ bs)) more ∙ close_reads number d tl il l b r m k' t bs st e
    ∙ ap (λ x. behind number d tl il (t ++ b ∷ []) x r bs) (no_feed l b (bar_line l b (closing_bar m b k' st (step_closes m b k' e)))))
run_read_by (step.Stop k') number d tl il m l b t bs r k n st e f ih =
    let none : 0 ≡ n = cc in
    let same : r + 0 ≡ r = omega arith in
    subst (λ x. RunRead number d tl il m l t r (b ∷ bs) x) none
    (ap (λ x. reads number (Md d tl il m l) t x (b ∷ bs)) same ∙ stop_reads number d tl il l b r m k' t bs st e
    ∙ ap (λ ys. behind number d tl il ys l r (b ∷ bs)) (sym (append-nil t)) ∙ ap (λ x. behind number d tl il (t ++ []) x r (b ∷ bs)) (feeds-nil l))
run_read_by step.Fault number d tl il m l b t bs r k n st e f ih = cc

pub run_read : (xs : List ℕ) (number d tl il : ℕ) (m : Mode) (l : ℕ) (t : List ℕ) (r : ℕ) (k : Kind) (n : ℕ) → is_start m ≡ false → front_of true (run m xs) ≡ Found k n → RunRead number d tl il m l t r xs n
run_read [] number d tl il m l t r k n st f =
    let told : (whole m ≡ Some k) × (n ≡ 0) = ended_token (whole m) k n (ap (front_of true) (sym (run_empty m)) ∙ f) in
    subst (λ x. RunRead number d tl il m l t r [] x) (sym told.1)
    (end_by (d == 0) number d tl il l (r + 0) r m k t refl st told.0
    ∙ ap (λ ys. behind number d tl il ys l r []) (sym (append-nil t)) ∙ ap (λ x. behind number d tl il (t ++ []) x r []) (feeds-nil l))
run_read (b ∷ bs) number d tl il m l t r k n st f =
    run_read_by (step_of m b) number d tl il m l b t bs r k n st refl (ap (front_of true) (sym (run_cons m b bs (step_of m b) refl)) ∙ f) (λ m' l' t' n' st' f'. run_read bs number d tl il m' l' t' r k n' st' f')

-- the limit comes within the token

pub longer_found : (r : Run) (k : Kind) (n : ℕ) → front_of true r ≡ Found k n → front_of true (longer r) ≡ Found k (n + 1)
longer_found (Takes j k') k n e = let kind : k' ≡ k = cc in let len : j ≡ n = cc in ap (λ x. Found x (j + 1)) kind ∙ ap (λ x. Found k (x + 1)) len
longer_found (Ends j m) k n e = by_kind (whole m) e
  where
    by_kind : (w : Option Kind) → ended j w ≡ Found k n → ended (j + 1) w ≡ Found k (n + 1)
    by_kind None e = cc
    by_kind (Some k') e = let kind : k' ≡ k = cc in let len : j ≡ n = cc in ap (λ x. Found x (j + 1)) kind ∙ ap (λ x. Found k (x + 1)) len
longer_found Fails k n e = cc

-- no token ends within so many bytes, and what they hold may still become one
pub record IsLong (run_of all : Run) (r : ℕ) : Type 0 where
  pub no_end : (k : Kind) (n : ℕ) → front_of true all ≡ Found k n → n ≤ r → ⊥
  pub sound : run_of ≡ Fails → ⊥

abbrev RunFull : ℕ → ℕ → ℕ → ℕ → Mode → ℕ → List ℕ → ℕ → List ℕ → Type 0
RunFull number d tl il m l t r xs = reads number (Md d tl il m l) t r xs ≡ stops (Limit il number)

full_zero : (s : Step) (number d tl il : ℕ) (m : Mode) (l b : ℕ) (t bs : List ℕ) → is_start m ≡ false → step_of m b ≡ s → IsLong (run m []) (after_step s (λ x. run x bs)) 0 → RunFull number d tl il m l t 0 (b ∷ bs)
full_zero (step.Go m') number d tl il m l b t bs st e h =
    reads_zero number (Md d tl il m l) t b bs (move.Go (Md d tl il m' (line_of l b))) (md_move d tl il l b m (step.Go m') st e) ∙ ap (λ n. stops (Limit n number)) (md_here d tl il l m st)
full_zero (step.Close k) number d tl il m l b t bs st e h =
    reads_zero number (Md d tl il m l) t b bs _ (md_move d tl il l b m (step.Close k) st e) ∙ past_by number (Md d tl il m l) t _ (not_before (d == 0)) ∙ ap (λ n. stops (Limit n number)) (md_here d tl il l m st)
  where
    not_before : (c : Bool) → (if c then move.Done (St d tl il l false) else move.Go (St d tl il l false)) ≡ move.Before → ⊥
    not_before true x = cc
    not_before false x = cc
full_zero (step.Stop k) number d tl il m l b t bs st e h = absurd (h.no_end k 0 refl (omega arith))
full_zero step.Fault number d tl il m l b t bs st e h =
    reads_zero number (Md d tl il m l) t b bs (move.Fail (Lexical tl)) (md_move d tl il l b m step.Fault st e) ∙ ap (λ n. stops (Limit n number)) (md_here d tl il l m st)

full_suc : (s : Step) (number d tl il : ℕ) (m : Mode) (l b : ℕ) (t bs : List ℕ) (r : ℕ) → is_start m ≡ false → step_of m b ≡ s → IsLong (after_step s (λ x. run x (take r bs))) (after_step s (λ x. run x bs)) (suc r) →
    ((m' : Mode) (l' : ℕ) (t' : List ℕ) → is_start m' ≡ false → IsLong (run m' (take r bs)) (run m' bs) r → RunFull number d tl il m' l' t' r bs) → RunFull number d tl il m l t (suc r) (b ∷ bs)
full_suc (step.Go m') number d tl il m l b t bs r st e h ih =
    go_on number d tl il l b r m m' t bs st e
    ∙ ih m' (line_of l b) (t ++ b ∷ []) (step_goes m b m' e) (record {
      no_end = λ k n f le. h.no_end k (n + 1) (longer_found (run m' bs) k n f) (omega (arith, le));
      sound = λ f. h.sound (ap longer f);
    })
full_suc (step.Close k) number d tl il m l b t bs r st e h ih = absurd (h.no_end k 1 refl (omega arith))
full_suc (step.Stop k) number d tl il m l b t bs r st e h ih = absurd (h.no_end k 0 refl (omega arith))
full_suc step.Fault number d tl il m l b t bs r st e h ih = absurd (h.sound refl)

pub run_full : (xs : List ℕ) (number d tl il : ℕ) (m : Mode) (l : ℕ) (t : List ℕ) (r : ℕ) → is_start m ≡ false → r < length xs → IsLong (run m (take r xs)) (run m xs) r → RunFull number d tl il m l t r xs
run_full [] number d tl il m l t r st lt h = absurd (omega arith)
run_full (b ∷ bs) number d tl il m l t zero st lt h =
    full_zero (step_of m b) number d tl il m l b t bs st refl (subst (λ (x : Run). IsLong (run m []) x 0) (run_cons m b bs (step_of m b) refl) h)
run_full (b ∷ bs) number d tl il m l t (suc r) st lt h =
    full_suc (step_of m b) number d tl il m l b t bs r st refl
    (subst (λ (x : Run). IsLong (after_step (step_of m b) (λ n. run n (take r bs))) x (suc r)) (run_cons m b bs (step_of m b) refl) (subst (λ (x : Run). IsLong x (run m (b ∷ bs)) (suc r)) (run_cons m b (take r bs) (step_of m b) refl) h))
    (λ m' l' t' st' h'. run_full bs number d tl il m' l' t' r st' (omega arith) h')

-- the token is broken

pub longer_fails : (r : Run) → longer r ≡ Fails → r ≡ Fails
longer_fails (Takes n k) e = cc
longer_fails (Ends n m) e = cc
longer_fails Fails e = refl

abbrev RunBroken : ℕ → ℕ → ℕ → ℕ → Mode → ℕ → List ℕ → ℕ → List ℕ → Type 0
RunBroken number d tl il m l t r xs = reads number (Md d tl il m l) t r xs ≡ stops (Lexical tl)

broken_by : (s : Step) (number d tl il : ℕ) (m : Mode) (l b : ℕ) (t bs : List ℕ) (r : ℕ) → is_start m ≡ false → step_of m b ≡ s → after_step s (λ x. run x (take r bs)) ≡ Fails →
    ((m' : Mode) (l' : ℕ) (t' : List ℕ) → is_start m' ≡ false → run m' (take r bs) ≡ Fails → RunBroken number d tl il m' l' t' r bs) → RunBroken number d tl il m l t (suc r) (b ∷ bs)
broken_by (step.Go m') number d tl il m l b t bs r st e f ih =
    go_on number d tl il l b r m m' t bs st e ∙ ih m' (line_of l b) (t ++ b ∷ []) (step_goes m b m' e) (longer_fails (run m' (take r bs)) f)
broken_by (step.Close k) number d tl il m l b t bs r st e f ih = cc
broken_by (step.Stop k) number d tl il m l b t bs r st e f ih = cc
broken_by step.Fault number d tl il m l b t bs r st e f ih = reads_suc number (Md d tl il m l) t r b bs (move.Fail (Lexical tl)) (md_move d tl il l b m step.Fault st e)

empty_runs : (m : Mode) → run m [] ≡ Fails → ⊥
empty_runs m e = let none : Ends 0 m ≡ Fails = sym (run_empty m) ∙ e in cc

pub run_broken : (xs : List ℕ) (number d tl il : ℕ) (m : Mode) (l : ℕ) (t : List ℕ) (r : ℕ) → is_start m ≡ false → run m (take r xs) ≡ Fails → RunBroken number d tl il m l t r xs
run_broken xs number d tl il m l t zero st f = absurd (empty_runs m f)
run_broken [] number d tl il m l t (suc r) st f = absurd (empty_runs m f)
run_broken (b ∷ bs) number d tl il m l t (suc r) st f =
    broken_by (step_of m b) number d tl il m l b t bs r st refl (sym (run_cons m b (take r bs) (step_of m b) refl) ∙ f) (λ m' l' t' st' f'. run_broken bs number d tl il m' l' t' r st' f')

-- the text ends within the token

pub longer_ends : (r : Run) (n : ℕ) (m : Mode) → longer r ≡ Ends n m → (i : ℕ) × (r ≡ Ends i m)
longer_ends (Takes j k) n m e = cc
longer_ends (Ends j m') n m e = let same : m' ≡ m = cc in (j, ap (Ends j) same)
longer_ends Fails n m e = cc

abbrev RunCut : ℕ → ℕ → ℕ → ℕ → Mode → ℕ → List ℕ → ℕ → List ℕ → Mode → Type 0
RunCut number d tl il m l t r xs m' = reads number (Md d tl il m l) t (r + length xs) xs ≡ (if is_unclosed m' then stops (Unclosed il) else stops (Lexical tl))

cut_nil : (number d tl il : ℕ) (m : Mode) (l : ℕ) (t : List ℕ) (r : ℕ) → is_start m ≡ false → whole m ≡ None → reads number (Md d tl il m l) t r [] ≡ (if is_unclosed m then stops (Unclosed il) else stops (Lexical tl))
cut_nil number d tl il m l t r st w =
    reads_nil number (Md d tl il m l) t r _ (md_ending d tl il l m None st w ∙ skip (is_start m) _ _ st) ∙ by_mode (is_unclosed m)
  where
    by_mode : (c : Bool) → ends_with (if c then ending.Bad (Unclosed il) else ending.Bad (Lexical tl)) (Md d tl il m l) t ≡ (if c then stops (Unclosed il) else stops (Lexical tl))
    by_mode true = refl
    by_mode false = refl

cut_by : (s : Step) (number d tl il : ℕ) (m : Mode) (l b : ℕ) (t bs : List ℕ) (r n : ℕ) (m' : Mode) → is_start m ≡ false → step_of m b ≡ s → after_step s (λ x. run x bs) ≡ Ends n m' →
    ((m'' : Mode) (l' : ℕ) (t' : List ℕ) (n' : ℕ) → is_start m'' ≡ false → run m'' bs ≡ Ends n' m' → RunCut number d tl il m'' l' t' r bs m') → RunCut number d tl il m l t r (b ∷ bs) m'
cut_by (step.Go m'') number d tl il m l b t bs r n m' st e f ih =
    let one : r + suc (length bs) ≡ suc (r + length bs) = omega arith in
    let inner : (i : ℕ) × (run m'' bs ≡ Ends i m') = longer_ends (run m'' bs) n m' f in
    ap (λ x. reads number (Md d tl il m l) t x (b ∷ bs)) one
    ∙ go_on number d tl il l b (r + length bs) m m'' t bs st e ∙ ih m'' (line_of l b) (t ++ b ∷ []) inner.0 (step_goes m b m'' e) inner.1
cut_by (step.Close k) number d tl il m l b t bs r n m' st e f ih = cc
cut_by (step.Stop k) number d tl il m l b t bs r n m' st e f ih = cc
cut_by step.Fault number d tl il m l b t bs r n m' st e f ih = cc

pub run_cut : (xs : List ℕ) (number d tl il : ℕ) (m : Mode) (l : ℕ) (t : List ℕ) (r n : ℕ) (m' : Mode) → is_start m ≡ false → run m xs ≡ Ends n m' → whole m' ≡ None → RunCut number d tl il m l t r xs m'
run_cut [] number d tl il m l t r n m' st f w =
    let same : m ≡ m' = ends_same (sym (run_empty m) ∙ f) in
    subst (λ (x : Mode). RunCut number d tl il m l t r [] x) same (cut_nil number d tl il m l t (r + 0) st (ap whole same ∙ w))
  where
    ends_same : Ends 0 m ≡ Ends n m' → m ≡ m'
    ends_same e = cc
run_cut (b ∷ bs) number d tl il m l t r n m' st f w =
    cut_by (step_of m b) number d tl il m l b t bs r n m' st refl (sym (run_cons m b bs (step_of m b) refl) ∙ f) (λ m'' l' t' n' st' f'. run_cut bs number d tl il m'' l' t' r n' m' st' f' w)

-- a token that goes on is no parenthesis

plain_by : (s : Step) (m : Mode) (b : ℕ) (bs : List ℕ) (k : Kind) (n : ℕ) → is_start m ≡ false → step_of m b ≡ s → front_of true (after_step s (λ x. run x bs)) ≡ Found k n →
    ((m' : Mode) (n' : ℕ) → is_start m' ≡ false → front_of true (run m' bs) ≡ Found k n' → IsPlain k) → IsPlain k
plain_by (step.Go m') m b bs k n st e f ih = let one : (i : ℕ) × (n ≡ i + 1) × (front_of true (run m' bs) ≡ Found k i) = longer_token (run m' bs) k n f in ih m' one.0 (step_goes m b m' e) one.2
plain_by (step.Close k') m b bs k n st e f ih = let kind : k' ≡ k = cc in quoted_plain k (sym kind ∙ closing_is m b k' st (step_closes m b k' e))
plain_by (step.Stop k') m b bs k n st e f ih = let kind : k' ≡ k = cc in whole_plain m k (step_stops m b k' e ∙ ap Some kind)
plain_by step.Fault m b bs k n st e f ih = cc

pub run_plain : (xs : List ℕ) (m : Mode) (k : Kind) (n : ℕ) → is_start m ≡ false → front_of true (run m xs) ≡ Found k n → IsPlain k
run_plain [] m k n st f = whole_plain m k (ended_token (whole m) k n (ap (front_of true) (sym (run_empty m)) ∙ f)).0
run_plain (b ∷ bs) m k n st f = plain_by (step_of m b) m b bs k n st refl (ap (front_of true) (sym (run_cons m b bs (step_of m b) refl)) ∙ f) (λ m' n' st' f'. run_plain bs m' k n' st' f')
