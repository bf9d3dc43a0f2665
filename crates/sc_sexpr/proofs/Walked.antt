-- The items of a text are those that its tokens make.
use Rattle.std.proofs.Common.{◌≡◌, ℕ, zero, suc, ◌+◌, ◌-◌, ◌<◌, ◌≤◌, Bool, true, false, ◌&&◌, ◌==◌, nat_lt, if◌then◌else◌, List, [], ◌∷◌, ◌++◌, length, take, drop, Option, Some, None, refl, sym, ap, ◌∙◌, arith, subst}
use Rattle.std.proofs.lemmas.Bool.{eqb-true, ltb-true, ltb-false}
use Rattle.std.proofs.lemmas.List.{length-drop, take-append-drop}
use Rattle.sc_text.specs.declared.token.Kind.{Kind}
use Rattle.sc_text.specs.declared.mode.Mode.{Mode}
use Rattle.sc_text.specs.declared.mode.Mode.TheVariants as mode
use Rattle.sc_text.specs.declared.mode.Step.{Step}
use Rattle.sc_text.specs.declared.mode.Step.TheVariants as step
use Rattle.sc_text.specs.declared.front.Front.{Front}
use Rattle.sc_text.specs.declared.front.Front.TheVariants.{Nothing, Token as Found, Open, Broken}
use Rattle.sc_text.specs.Place.{Place}
use Rattle.sc_text.specs.Modes.{is_start, whole, step_of, after_step, run}
use Rattle.sc_text.specs.Fronts.{gap_len, after_gap, ended, front_of, front}
use Rattle.sc_text.specs.Answers.{token_start, token_line}
use Rattle.sc_text.proofs.Settled.{settled}
use Rattle.sc_sexpr.specs.declared.state.State.{State}
use Rattle.sc_sexpr.specs.Scans.{Reading, reads}
use Rattle.sc_sexpr.specs.Trees.{behind_token, place_of}
use Rattle.sc_sexpr.specs.Walk.{Lexeme, lexeme, Stand, is_token, is_broken, AreAll, Input, past_limit, no_token, meets, walk, IsBetween, AreWalked}
use Rattle.sc_sexpr.proofs.AtHand.{step_stops}
use Rattle.sc_sexpr.proofs.Stretches.{St, feeds-nil, onto}
use Rattle.sc_sexpr.proofs.Running.{run_cons, run_empty, longer_token}
use Rattle.sc_sexpr.proofs.Walking.{At, Inside, onward, left_len, at_onward, inside_gap, gap_fits, outer, front_some, front_none, token_begins}
use Rattle.sc_sexpr.proofs.Meeting.{Goes, met, outside_all}
use Rattle.sc_sexpr.proofs.Stopping.{near, limit_reads, gap_done}
use Rattle.sc_sexpr.proofs.Closing.{none_reads}

-- The bytes of a token.

fits_by : (s : Step) (m : Mode) (b : ℕ) (bs : List ℕ) (k : Kind) (n : ℕ) → front_of true (after_step s (λ x. run x bs)) ≡ Found k n → ((m' : Mode) (j : ℕ) → front_of true (run m' bs) ≡ Found k j → j ≤ length bs) → n ≤ suc (length bs)
fits_by (step.Go m') m b bs k n f ih = let one : (j : ℕ) × (n ≡ j + 1) × (front_of true (run m' bs) ≡ Found k j) = longer_token (run m' bs) k n f in omega (arith, one.1, ih m' one.0 one.2)
fits_by (step.Close k') m b bs k n f ih = let len : 1 ≡ n = cc in omega arith
fits_by (step.Stop k') m b bs k n f ih = let len : 0 ≡ n = cc in omega arith
fits_by step.Fault m b bs k n f ih = cc

empty_fits : (m : Mode) (k : Kind) (n : ℕ) → front_of true (run m []) ≡ Found k n → n ≤ 0
empty_fits m k n f = by_kind (whole m) (ap (front_of true) (sym (run_empty m)) ∙ f)
  where
    by_kind : (w : Option Kind) → ended 0 w ≡ Found k n → n ≤ 0
    by_kind None e = cc
    by_kind (Some k') e = let len : 0 ≡ n = cc in omega arith

run_fits : (xs : List ℕ) (m : Mode) (k : Kind) (n : ℕ) → front_of true (run m xs) ≡ Found k n → n ≤ length xs
run_fits [] m k n f = empty_fits m k n f
run_fits (b ∷ bs) m k n f = fits_by (step_of m b) m b bs k n (ap (front_of true) (sym (run_cons m b bs (step_of m b) refl)) ∙ f) (λ m' j f'. run_fits bs m' k j f')

some_by : (s : Step) (b : ℕ) (bs : List ℕ) (k : Kind) (n : ℕ) → step_of mode.Start b ≡ s → front_of true (after_step s (λ x. run x bs)) ≡ Found k n → 0 < n
some_by (step.Go m) b bs k n e f = let one : (j : ℕ) × (n ≡ j + 1) × (front_of true (run m bs) ≡ Found k j) = longer_token (run m bs) k n f in omega (arith, one.1)
some_by (step.Close k') b bs k n e f = let len : 1 ≡ n = cc in omega arith
some_by (step.Stop k') b bs k n e f = let never : None ≡ Some k' = step_stops mode.Start b k' e in cc
some_by step.Fault b bs k n e f = cc

-- what a token is
pub record Begins (xs : List ℕ) (k : Kind) (n : ℕ) : Type 0 where
  pub first : ℕ
  pub rest : List ℕ
  pub is : after_gap xs ≡ first ∷ rest
  pub found : front_of true (run mode.Start (first ∷ rest)) ≡ Found k n
  pub fits : n ≤ suc (length rest)
  pub some : 0 < n

begins_by : (ys xs : List ℕ) (k : Kind) (n : ℕ) → after_gap xs ≡ ys → front true xs ≡ Found k n → Begins xs k n
begins_by [] xs k n is f = let none : Nothing ≡ Found k n = sym (front_none xs is) ∙ f in cc
begins_by (b ∷ bs) xs k n is f =
    let found : front_of true (run mode.Start (b ∷ bs)) ≡ Found k n = sym (front_some true xs b bs is) ∙ f in
    record { first = b; rest = bs; is = is; found = found; fits = run_fits (b ∷ bs) mode.Start k n found; some = some_by (step_of mode.Start b) b bs k n refl (ap (front_of true) (sym (run_cons mode.Start b bs (step_of mode.Start b) refl)) ∙ found) }

begins : (xs : List ℕ) (k : Kind) (n : ℕ) → front true xs ≡ Found k n → Begins xs k n
begins xs k n f = begins_by (after_gap xs) xs k n refl f

pub token_fits : (xs : List ℕ) (k : Kind) (n : ℕ) → front true xs ≡ Found k n → n ≤ length (after_gap xs)
token_fits xs k n f = let b : Begins xs k n = begins xs k n f in omega (arith, b.fits, ap (length {A = ℕ}) b.is)

-- A token that the limit cuts off.

sound_by : (f : Front) (i : Input) (p : Place) (k : Kind) (n : ℕ) → front true p.left ≡ Found k n → front false (near i p) ≡ f → is_broken f ≡ false
sound_by Nothing i p k n e is = refl
sound_by (Found k' n') i p k n e is = refl
sound_by Open i p k n e is = refl
sound_by Broken i p k n e is =
    let all : near i p ++ drop (i.room - p.start) p.left ≡ p.left = take-append-drop (i.room - p.start) p.left in
    let broken : Broken ≡ Found k n = sym (ap (front true) (sym all) ∙ settled.broken (near i p) (drop (i.room - p.start) p.left) true is) ∙ e in
    cc

past_reads : (i : Input) (p : Place) (d from top tl il : ℕ) (t : List ℕ) (k : Kind) (n : ℕ) → At i p → Inside i d from top p t il → front true p.left ≡ Found k n → i.room < token_start p + n →
    reads i.number (St d tl il p.line false) t (i.room - p.start) p.left ≡ past_limit i d top (token_start p) (token_line p)
past_reads i p d from top tl il t k n a h f lt =
    limit_reads i p d from top tl il t a h (record {
      longer = omega (arith, lt, token_fits p.left k n f, left_len i p a, a.within, length-drop (gap_len p.left) p.left, gap_fits p.left false);
      no_end = λ k' n' f'. let found : Found k n ≡ Found k' n' = sym f ∙ f' in let len : n ≡ n' = cc in subst (λ x. i.room < token_start p + x) len lt;
      sound = sound_by (front false (near i p)) i p k n f refl;
    })

-- A token and what follows it.

token_reads : (i : Input) (p : Place) (d from top tl il : ℕ) (t : List ℕ) (k : Kind) (n : ℕ) (rest : ℕ → ℕ → ℕ → Reading) → At i p → Inside i d from top p t il → front true p.left ≡ Found k n → token_start p + n ≤ i.room → (At i (behind_token p n) → Goes i (behind_token p n) rest) →
    reads i.number (St d tl il p.line false) t (i.room - p.start) p.left ≡ meets k i d from top (lexeme p k n) rest
token_reads i p d from top tl il t k n rest a h f room ih =
    let b : Begins p.left k n = begins p.left k n f in
    let start : token_start p ≤ i.room = omega (arith, room) in
    let there : At i (onward p (gap_len p.left)) = gap_done i p a start in
    token_begins i p d tl il t b.first b.rest a start b.is
    ∙ met i (onward p (gap_len p.left)) d from top tl il (onto (d == 0 && true) t (take (gap_len p.left) p.left)) b.first b.rest k n rest there (inside_gap (d == 0) i d from top p t il (gap_len p.left) refl a h) b.is (outer p.left false b.first b.rest b.is).step b.found room
    (ih (at_onward i (onward p (gap_len p.left)) n there (token_fits p.left k n f) room))

walk_by : (c : Bool) (i : Input) (p q : Place) (d from top tl il : ℕ) (t : List ℕ) (k : Kind) (n : ℕ) (ts : List Lexeme) → nat_lt i.room (token_start p + n) ≡ c → At i p → Inside i d from top p t il → front true p.left ≡ Found k n →
    (At i (behind_token p n) → Goes i (behind_token p n) (λ d' f' l'. walk i d' f' l' ts q)) →
    reads i.number (St d tl il p.line false) t (i.room - p.start) p.left ≡ (if c then past_limit i d top (token_start p) (token_line p) else meets k i d from top (lexeme p k n) (λ d' f' l'. walk i d' f' l' ts q))
walk_by true i p q d from top tl il t k n ts c a h f ih = past_reads i p d from top tl il t k n a h f (ltb-true i.room (token_start p + n) c)
walk_by false i p q d from top tl il t k n ts c a h f ih = token_reads i p d from top tl il t k n (λ d' f' l'. walk i d' f' l' ts q) a h f (ltb-false i.room (token_start p + n) c) ih

walk_reads : (ts : List Lexeme) (i : Input) (p q : Place) (d from top tl il : ℕ) (t : List ℕ) → At i p → Inside i d from top p t il → Stand p ts q → is_token (front q.last q.left) ≡ false →
    reads i.number (St d tl il p.line false) t (i.room - p.start) p.left ≡ walk i d from top ts q
walk_reads [] i p q d from top tl il t a h e end =
    none_reads i p d from top tl il t a h (ap (λ l. is_token (front l p.left)) (sym a.last) ∙ ap (λ (x : Place). is_token (front x.last x.left)) e ∙ end) ∙ ap (no_token i d top) e
walk_reads (x ∷ ts) i p q d from top tl il t a h (k, n, f, is, rest) end =
    walk_by (nat_lt i.room (token_start p + n)) i p q d from top tl il t k n ts refl a h (ap (λ l. front l p.left) (sym a.last) ∙ f) (λ there d' from' top' tl' il' t' h'. walk_reads ts i (behind_token p n) q d' from' top' tl' il' t' there h' rest end)
    ∙ ap (λ (y : Lexeme). walk i d from top (y ∷ ts) q) (sym is)

-- Between items.

start_is : (m : Mode) → is_start m ≡ true → m ≡ mode.Start
start_is mode.Start e = refl
start_is mode.Symbol e = cc
start_is mode.Zero e = cc
start_is mode.Digits e = cc
start_is mode.Dot e = cc
start_is mode.Decimal e = cc
start_is mode.Hash e = cc
start_is mode.HexStart e = cc
start_is mode.Hex e = cc
start_is mode.BinaryStart e = cc
start_is mode.Binary e = cc
start_is mode.Colon e = cc
start_is mode.Keyword e = cc
start_is mode.Literal e = cc
start_is mode.LiteralQuote e = cc
start_is mode.Quoted e = cc

between : (s : State) → IsBetween s → s ≡ St 0 s.token_line s.item_line s.line false
between s b =
    ap (λ (m : Mode). let x : State = record { mode = m; comment = s.comment; depth = s.depth; line = s.line; token_line = s.token_line; item_line = s.item_line } in x) (start_is s.mode b.start)
    ∙ ap (λ (c : Bool). St s.depth s.token_line s.item_line s.line c) b.comment
    ∙ ap (λ (d : ℕ). St d s.token_line s.item_line s.line false) (eqb-true s.depth 0 b.outside)

items_walk : (number room : ℕ) (s : State) (text : List ℕ) (ts : List Lexeme) (q : Place) → IsBetween s → AreAll (place_of text s.line) ts q →
    reads number s [] room text ≡ walk (record { text = text; line = s.line; room = room; number = number }) 0 0 0 ts q
items_walk number room s text ts q b all =
    let i : Input = record { text = text; line = s.line; room = room; number = number } in
    let same : room ≡ room - 0 = omega arith in
    ap (λ (x : State). reads number x [] room text) (between s b)
    ∙ ap (λ n. reads number (St 0 s.token_line s.item_line s.line false) [] n text) same
    ∙ walk_reads ts (record { text = text; line = s.line; room = room; number = number }) (place_of text s.line) q 0 0 0 s.token_line s.item_line [] (record { left = refl; room = omega arith; within = omega arith; line = feeds-nil s.line; last = refl }) (outside_all (record { text = text; line = s.line; room = room; number = number }) (place_of text s.line) 0 0 0 s.item_line refl) all.stand all.ends

-- Each text has its tokens.

abbrev Lexed : Place → Type 0
Lexed p = (ts : List Lexeme) × (q : Place) × AreAll p ts q

lex_by : (f : Front) (p : Place) → p.last ≡ true → front p.last p.left ≡ f → ((n : ℕ) → length (behind_token p n).left < length p.left → Lexed (behind_token p n)) → Lexed p
lex_by Nothing p l e ih = ([], p, record { stand = refl; ends = ap is_token e })
lex_by (Found k n) p l e ih =
    let b : Begins p.left k n = begins p.left k n (ap (λ x. front x p.left) (sym l) ∙ e) in
    let rest : Lexed (behind_token p n) = ih n (omega (arith, b.some, b.fits, ap (length {A = ℕ}) b.is, length-drop n (after_gap p.left), length-drop (gap_len p.left) p.left)) in
    (lexeme p k n ∷ rest.0, rest.1, record { stand = (k, n, e, refl, rest.2.stand); ends = rest.2.ends })
lex_by Open p l e ih = ([], p, record { stand = refl; ends = ap is_token e })
lex_by Broken p l e ih = ([], p, record { stand = refl; ends = ap is_token e })

lex : (fuel : ℕ) (p : Place) → p.last ≡ true → length p.left < fuel → Lexed p
lex zero p l lt = absurd (omega arith)
lex (suc fuel) p l lt = lex_by (front p.last p.left) p l refl (λ n less. lex fuel (behind_token p n) l (omega (arith, less, lt)))

pub walked : AreWalked
walked = record {
  tokens = λ text line. lex (suc (length text)) (place_of text line) refl (omega arith);
  items = items_walk;
}
