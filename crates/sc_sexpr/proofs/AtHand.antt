-- A splitter's items are items for a reader of trees.
use Rattle.std.proofs.Common.{◌≡◌, ℕ, ◌+◌, ◌-◌, ◌<◌, Bool, true, false, not, ◌&&◌, ◌==◌, nat_le, if◌then◌else◌, List, [], ◌∷◌, ◌++◌, length, drop, Option, Some, None, refl, sym, ap, ◌∙◌, arith, append-nil, subst}
use Rattle.std.proofs.lemmas.Bool.{eqb-false, eqb-true}
use Rattle.sc_text.specs.declared.token.Kind.{Kind}
use Rattle.sc_text.specs.declared.token.Kind.TheVariants as kind
use Rattle.sc_text.specs.declared.mode.Mode.{Mode}
use Rattle.sc_text.specs.declared.mode.Mode.TheVariants as mode
use Rattle.sc_text.specs.declared.mode.Step.{Step}
use Rattle.sc_text.specs.declared.mode.Step.TheVariants as step
use Rattle.sc_text.specs.Bytes.{is_white, is_break, is_digit, is_hex_digit, is_binary_digit, is_symbol_byte}
use Rattle.sc_text.specs.Modes.{is_start, whole, first_mode, next_mode, closing, going, stopped, closed as closed_step, step_of, run}
use Rattle.sc_text.specs.Fronts.{gap, ended, front_of}
use Rattle.sc_sexpr.specs.declared.item.Fault.{Fault}
use Rattle.sc_sexpr.specs.declared.item.Last.{Last}
use Rattle.sc_sexpr.specs.declared.item.Last.TheVariants as last
use Rattle.sc_sexpr.specs.declared.item.Item.TheVariants as item
use Rattle.sc_sexpr.specs.declared.state.State.{State}
use Rattle.sc_sexpr.specs.declared.state.Move.{Move}
use Rattle.sc_sexpr.specs.declared.state.Move.TheVariants as move
use Rattle.sc_sexpr.specs.declared.state.Ending.{Ending}
use Rattle.sc_sexpr.specs.declared.state.Ending.TheVariants as ending
use Rattle.sc_sexpr.specs.Moves.{line_after, is_idle, line_of_item, closed, begun, begins, fresh, continues, move_of, ends_token, ending_of}
use Rattle.sc_sexpr.specs.Scans.{Scan, Waits, Top, Full, Bad, text_after, scan_after, scan_past, scan}
use Rattle.sc_sexpr.specs.Trees.{Mark, Closes, Word, mark, closes, IsItem}
use Rattle.sc_sexpr.specs.View.{View, Answer, item_of, at_end, shows, scan_of, answer}
use Rattle.sc_sexpr.specs.Spots.{Spot, IsGap, IsPart, Pending, Reached, at_hand_by, AtHand}
use Rattle.sc_sexpr.specs.Laws.{GivesItem, AreItems}
use Rattle.sc_sexpr.proofs.Trees.{mark-other}
use Rattle.sc_sexpr.proofs.ReadTree.{item_goes_on, not_zero}
use Rattle.sc_sexpr.proofs.Reading.{skip, and_false, and_true, whole_is, answer_over, answer_none}
use Rattle.sc_sexpr.proofs.Spots.{look_ahead, move_on, spot_start, Ended, token_within, token_last, comment_more, white_more, semicolon_more, part_begins, single_ends, part_goes, part_closes, part_stops}

pick : {n : Mode} (c : Bool) (x y : Option Mode) → (x ≡ Some n → is_start n ≡ false) → (y ≡ Some n → is_start n ≡ false) → (if c then x else y) ≡ Some n → is_start n ≡ false
pick true x y p q e = p e
pick false x y p q e = q e

first_goes : (b : ℕ) (n : Mode) → first_mode b ≡ Some n → is_start n ≡ false
first_goes b n = (pick (b == 34) _ _ (λ e. let h : n ≡ mode.Literal = cc in ap is_start h) (pick (b == 124) _ _ (λ e. let h : n ≡ mode.Quoted = cc in ap is_start h) (pick (b == 58) _ _ (λ e. let h : n ≡ mode.Colon = cc in ap is_start h) (pick (b == 35) _ _ (λ e. let h : n ≡ mode.Hash = cc in ap is_start h) (pick (b == 48) _ _ (λ e. let h : n ≡ mode.Zero = cc in ap is_start h) (pick (is_digit b) _ _ (λ e. let h : n ≡ mode.Digits = cc in ap is_start h) (pick (is_symbol_byte b) _ _ (λ e. let h : n ≡ mode.Symbol = cc in ap is_start h) (λ e. cc))))))))

next_goes : (m : Mode) (b : ℕ) (n : Mode) → next_mode m b ≡ Some n → is_start n ≡ false
next_goes mode.Start b n = first_goes b n
next_goes mode.Symbol b n = (pick (is_symbol_byte b) _ _ (λ e. let h : n ≡ mode.Symbol = cc in ap is_start h) (λ e. cc))
next_goes mode.Zero b n = (pick (b == 46) _ _ (λ e. let h : n ≡ mode.Dot = cc in ap is_start h) (λ e. cc))
next_goes mode.Digits b n = (pick (is_digit b) _ _ (λ e. let h : n ≡ mode.Digits = cc in ap is_start h) (pick (b == 46) _ _ (λ e. let h : n ≡ mode.Dot = cc in ap is_start h) (λ e. cc)))
next_goes mode.Dot b n = (pick (is_digit b) _ _ (λ e. let h : n ≡ mode.Decimal = cc in ap is_start h) (λ e. cc))
next_goes mode.Decimal b n = (pick (is_digit b) _ _ (λ e. let h : n ≡ mode.Decimal = cc in ap is_start h) (λ e. cc))
next_goes mode.Hash b n = (pick (b == 120) _ _ (λ e. let h : n ≡ mode.HexStart = cc in ap is_start h) (pick (b == 98) _ _ (λ e. let h : n ≡ mode.BinaryStart = cc in ap is_start h) (λ e. cc)))
next_goes mode.HexStart b n = (pick (is_hex_digit b) _ _ (λ e. let h : n ≡ mode.Hex = cc in ap is_start h) (λ e. cc))
next_goes mode.Hex b n = (pick (is_hex_digit b) _ _ (λ e. let h : n ≡ mode.Hex = cc in ap is_start h) (λ e. cc))
next_goes mode.BinaryStart b n = (pick (is_binary_digit b) _ _ (λ e. let h : n ≡ mode.Binary = cc in ap is_start h) (λ e. cc))
next_goes mode.Binary b n = (pick (is_binary_digit b) _ _ (λ e. let h : n ≡ mode.Binary = cc in ap is_start h) (λ e. cc))
next_goes mode.Colon b n = (pick (is_symbol_byte b) _ _ (λ e. let h : n ≡ mode.Keyword = cc in ap is_start h) (λ e. cc))
next_goes mode.Keyword b n = (pick (is_symbol_byte b) _ _ (λ e. let h : n ≡ mode.Keyword = cc in ap is_start h) (λ e. cc))
next_goes mode.Literal b n = pick (b == 34) _ _ (λ e. let h : n ≡ mode.LiteralQuote = cc in ap is_start h) (λ e. let h : n ≡ mode.Literal = cc in ap is_start h)
next_goes mode.LiteralQuote b n = (pick (b == 34) _ _ (λ e. let h : n ≡ mode.Literal = cc in ap is_start h) (λ e. cc))
next_goes mode.Quoted b n = pick (b == 92) _ _ (λ e. cc) (λ e. let h : n ≡ mode.Quoted = cc in ap is_start h)

goes_by : (c : Option Kind) (x : Option Mode) (q : Bool) (w : Option Kind) (n : Mode) → closed_step c (going x (stopped q w)) ≡ step.Go n → x ≡ Some n
goes_by (Some k) x q w n e = cc
goes_by None (Some m) q w n e = cc
goes_by None None q None n e = cc
goes_by None None true (Some k) n e = cc
goes_by None None false (Some k) n e = cc

-- a token that goes on has begun
pub step_goes : (m : Mode) (b : ℕ) (n : Mode) → step_of m b ≡ step.Go n → is_start n ≡ false
unfolding step_of
step_goes m b n e = next_goes m b n (goes_by (closing m b) (next_mode m b) _ (whole m) n e)

pub step_next : (m : Mode) (b : ℕ) (n : Mode) → step_of m b ≡ step.Go n → next_mode m b ≡ Some n
unfolding step_of
step_next m b n e = goes_by (closing m b) (next_mode m b) _ (whole m) n e

stops_by : (c : Option Kind) (x : Option Mode) (q : Bool) (w : Option Kind) (k : Kind) → closed_step c (going x (stopped q w)) ≡ step.Stop k → w ≡ Some k
stops_by (Some j) x q w k e = cc
stops_by None (Some m) q w k e = cc
stops_by None None q None k e = cc
stops_by None None true (Some j) k e = cc
stops_by None None false (Some j) k e = cc

pub step_stops : (m : Mode) (b : ℕ) (k : Kind) → step_of m b ≡ step.Stop k → whole m ≡ Some k
unfolding step_of
step_stops m b k e = stops_by (closing m b) (next_mode m b) _ (whole m) k e

closes_by : (c : Option Kind) (x : Option Mode) (q : Bool) (w : Option Kind) (k : Kind) → closed_step c (going x (stopped q w)) ≡ step.Close k → c ≡ Some k
closes_by (Some j) x q w k e = cc
closes_by None (Some m) q w k e = cc
closes_by None None q None k e = cc
closes_by None None true (Some j) k e = cc
closes_by None None false (Some j) k e = cc

pub step_closes : (m : Mode) (b : ℕ) (k : Kind) → step_of m b ≡ step.Close k → closing m b ≡ Some k
unfolding step_of
step_closes m b k e = closes_by (closing m b) (next_mode m b) _ (whole m) k e

quoted_by : (c : Bool) (k : Kind) → (if c then Some kind.Quoted else None) ≡ Some k → k ≡ kind.Quoted
quoted_by true k e = cc
quoted_by false k e = cc

pub closing_is : (m : Mode) (b : ℕ) (k : Kind) → is_start m ≡ false → closing m b ≡ Some k → k ≡ kind.Quoted
closing_is mode.Start b k s e = cc
closing_is mode.Symbol b k s e = cc
closing_is mode.Zero b k s e = cc
closing_is mode.Digits b k s e = cc
closing_is mode.Dot b k s e = cc
closing_is mode.Decimal b k s e = cc
closing_is mode.Hash b k s e = cc
closing_is mode.HexStart b k s e = cc
closing_is mode.Hex b k s e = cc
closing_is mode.BinaryStart b k s e = cc
closing_is mode.Binary b k s e = cc
closing_is mode.Colon b k s e = cc
closing_is mode.Keyword b k s e = cc
closing_is mode.Literal b k s e = cc
closing_is mode.LiteralQuote b k s e = cc
closing_is mode.Quoted b k s e = quoted_by (b == 124) k e

-- a token that isn't a parenthesis

abbrev pub IsPlain : Kind → Type 0
IsPlain k = (k ≡ kind.Left → ⊥) × (k ≡ kind.Right → ⊥)

pub whole_plain : (m : Mode) (k : Kind) → whole m ≡ Some k → IsPlain k
whole_plain mode.Start k e = (λ h. cc, λ h. cc)
whole_plain mode.Symbol k e = (λ h. cc, λ h. cc)
whole_plain mode.Zero k e = (λ h. cc, λ h. cc)
whole_plain mode.Digits k e = (λ h. cc, λ h. cc)
whole_plain mode.Dot k e = (λ h. cc, λ h. cc)
whole_plain mode.Decimal k e = (λ h. cc, λ h. cc)
whole_plain mode.Hash k e = (λ h. cc, λ h. cc)
whole_plain mode.HexStart k e = (λ h. cc, λ h. cc)
whole_plain mode.Hex k e = (λ h. cc, λ h. cc)
whole_plain mode.BinaryStart k e = (λ h. cc, λ h. cc)
whole_plain mode.Binary k e = (λ h. cc, λ h. cc)
whole_plain mode.Colon k e = (λ h. cc, λ h. cc)
whole_plain mode.Keyword k e = (λ h. cc, λ h. cc)
whole_plain mode.Literal k e = (λ h. cc, λ h. cc)
whole_plain mode.LiteralQuote k e = (λ h. cc, λ h. cc)
whole_plain mode.Quoted k e = (λ h. cc, λ h. cc)

pub quoted_plain : (k : Kind) → k ≡ kind.Quoted → IsPlain k
quoted_plain k e = (λ h. cc, λ h. cc)

word_within : (k : Kind) (d : ℕ) → IsPlain k → 0 < d → (t : List ℕ) (start line : ℕ) (m : Mark) (ms : List Mark) → closes d (mark k t start line ∷ m ∷ ms) ≡ closes d (m ∷ ms)
word_within k d p lt t start line m ms = ap (λ x. closes d (x ∷ m ∷ ms)) (mark-other k t start line p.0 p.1) ∙ item_goes_on d _ _ lt

word_last : (k : Kind) (d : ℕ) → IsPlain k → d ≡ 0 → (t : List ℕ) (start line : ℕ) → closes d (mark k t start line ∷ []) ≡ true
word_last k d p z t start line = ap (λ x. closes d (x ∷ [])) (mark-other k t start line p.0 p.1) ∙ ap (λ x. closes x (Word k t start line ∷ [])) z

-- what a byte does, seen from the tokens
abbrev pub Steps : Move → State → List ℕ → ℕ → Type 0
Steps (move.Go s') s text b = AtHand s' (text_after s' text b)
Steps (move.Done s') s text b = IsItem (text ++ b ∷ []) s.item_line × (is_idle s' ≡ true) × (s'.comment ≡ false)
Steps move.Before s text b = IsItem text s.item_line × (is_idle (closed s) ≡ true) × (s.comment ≡ false)
Steps (move.Fail f) s text b = Unit {0}

hand_by : (c : Bool) (s : State) (text : List ℕ) (b : ℕ) → (c ≡ false → Reached s (text ++ b ∷ [])) → at_hand_by c s (if c then [] else text ++ b ∷ [])
hand_by true s text b r = refl
hand_by false s text b r = r refl

-- an item is at hand
hand : (s : State) (text : List ℕ) (b : ℕ) → (is_idle s ≡ false → Reached s (text ++ b ∷ [])) → AtHand s (text_after s text b)
hand s text b r = hand_by (is_idle s) s text b r

started : (m : Mode) → is_start m ≡ true → (comment : Bool) (rest : List ℕ) → IsGap rest comment → Pending (is_start m) m comment rest
started m e comment rest g = subst (λ c. Pending c m comment rest) (sym e) g

parted : (m : Mode) → is_start m ≡ false → (comment : Bool) (rest : List ℕ) → comment ≡ false → IsPart m rest → Pending (is_start m) m comment rest
parted m e comment rest c p = subst (λ x. Pending x m comment rest) (sym e) (p, c)

no_gap : IsGap [] false
unfolding gap
no_gap = refl

-- where an item is at hand, its line stays
line_busy : (s : State) → (s.depth == 0) ≡ false → line_of_item s ≡ s.item_line
line_busy s e = ap (λ c. if c then s.line else s.item_line) e

busy_deep : (c d : Bool) → (c && d) ≡ false → d ≡ true → c ≡ false
busy_deep true d e f = cc
busy_deep false d e f = refl

-- white space and comments between the tokens of an item
gap_step_hand : (s s' : State) (text rest : List ℕ) (b : ℕ) → Spot (line_of_item s) s.depth text rest (b ∷ []) → is_start s.mode ≡ true → s'.mode ≡ s.mode → s'.depth ≡ s.depth → s'.item_line ≡ s.item_line → IsGap (rest ++ b ∷ []) s'.comment → AtHand s' (text_after s' text b)
gap_step_hand s s' text rest b spot st m d l g =
    hand s' text b (λ busy.
    let start : is_start s'.mode ≡ true = ap is_start m ∙ st in
    let deep : (s.depth == 0) ≡ false = ap (λ n. n == 0) (sym d) ∙ busy_deep (s'.depth == 0) (is_start s'.mode) busy start in
    record {
      rest = rest ++ b ∷ [];
      spot = subst (λ x. Spot x s'.depth (text ++ b ∷ []) (rest ++ b ∷ []) []) (line_busy s deep ∙ sym l) (subst (λ x. Spot (line_of_item s) x (text ++ b ∷ []) (rest ++ b ∷ []) []) (sym d) (move_on (line_of_item s) s.depth text rest b spot));
      pending = started s'.mode start s'.comment (rest ++ b ∷ []) g;
    })

opens_by : (c : Bool) (s : State) (text rest : List ℕ) (b : ℕ) → Spot (line_of_item s) (s.depth + 1) (text ++ b ∷ []) [] [] → is_start s.mode ≡ true → s.comment ≡ false →
    (f : Fault) → Steps (if c then move.Fail f else move.Go (record s { depth = s.depth + 1; item_line = line_of_item s })) s text b
opens_by true s text rest b spot st c f = tt
opens_by false s text rest b spot st c f =
    hand (record s { depth = s.depth + 1; item_line = line_of_item s }) text b (λ busy. record {
      rest = [];
      spot = spot;
      pending = started s.mode st s.comment [] (subst (λ x. IsGap [] x) (sym c) no_gap);
    })

closes_within : (d : ℕ) → (d == 0) ≡ false → (d == 1) ≡ false → (t : List ℕ) (start line : ℕ) (m : Mark) (ms : List Mark) → closes d (mark kind.Right t start line ∷ m ∷ ms) ≡ closes (d - 1) (m ∷ ms)
closes_within d z o t start line m ms =
    let not_one : d ≡ 1 → ⊥ = eqb-false d 1 o in
    let not_none : 0 < d = not_zero d z in
    skip (d == 0) _ _ z ∙ item_goes_on (d - 1) _ _ (omega arith)

closes_last : (d : ℕ) → d ≡ 1 → (t : List ℕ) (start line : ℕ) → closes d (mark kind.Right t start line ∷ []) ≡ true
closes_last d e t start line = ap (λ x. closes x (Closes ∷ [])) e

shuts_by : (z o : Bool) (s : State) (text rest : List ℕ) (b : ℕ) (f : Fault) → (s.depth == 0) ≡ z → (s.depth == 1) ≡ o → is_start s.mode ≡ true → s.comment ≡ false →
    Spot (line_of_item s) s.depth (text ++ b ∷ []) (rest ++ b ∷ []) [] → ((more : List ℕ) → Ended (rest ++ b ∷ []) more (length rest) kind.Right) →
    Steps (if z then move.Fail f else if o then move.Done (record s { depth = 0 }) else move.Go (record s { depth = s.depth - 1 })) s text b
shuts_by true o s text rest b f z1 o1 st c spot e = tt
shuts_by false true s text rest b f z1 o1 st c spot e =
    (subst (λ x. IsItem (text ++ b ∷ []) x) (line_busy s z1) (token_last (line_of_item s) s.depth (text ++ b ∷ []) (rest ++ b ∷ []) spot (length rest) kind.Right (e []) (closes_last s.depth (eqb-true s.depth 1 o1))), st, c)
shuts_by false false s text rest b f z1 o1 st c spot e =
    hand (record s { depth = s.depth - 1 }) text b (λ busy. record {
      rest = [];
      spot = subst (λ x. Spot x (s.depth - 1) (text ++ b ∷ []) [] []) (line_busy s z1) (token_within (line_of_item s) s.depth (s.depth - 1) (text ++ b ∷ []) (rest ++ b ∷ []) [] spot (length rest) kind.Right e (closes_within s.depth z1 o1));
      pending = started s.mode st s.comment [] (subst (λ x. IsGap [] x) (sym c) no_gap);
    })

begin_steps : (t : Step) (s : State) (text rest : List ℕ) (b : ℕ) → step_of mode.Start b ≡ t → is_white b ≡ false → (b == 59) ≡ false → is_start s.mode ≡ true → s.comment ≡ false →
    Spot (line_of_item s) s.depth text rest (b ∷ []) → IsGap rest false → Steps (begins s b t) s text b
begin_steps (step.Go m) s text rest b e w c st out spot g =
    hand (begun s b m) text b (λ busy. record {
      rest = rest ++ b ∷ [];
      spot = move_on (line_of_item s) s.depth text rest b spot;
      pending = parted m (step_goes mode.Start b m e) s.comment (rest ++ b ∷ []) out (part_begins rest b m w c e g);
    })
begin_steps (step.Close kind.Left) s text rest b e w c st out spot g =
    opens_by (nat_le 1000 s.depth) s text rest b
    (token_within (line_of_item s) s.depth (s.depth + 1) (text ++ b ∷ []) (rest ++ b ∷ []) [] (move_on (line_of_item s) s.depth text rest b spot) (length rest) kind.Left (λ more. single_ends rest b kind.Left more w c e g) (λ t start line m ms. refl))
    st out _
begin_steps (step.Close kind.Right) s text rest b e w c st out spot g =
    shuts_by (s.depth == 0) (s.depth == 1) s text rest b _ refl refl st out (move_on (line_of_item s) s.depth text rest b spot) (λ more. single_ends rest b kind.Right more w c e g)
begin_steps (step.Close kind.Numeral) s text rest b e w c st out spot g = tt
begin_steps (step.Close kind.Foreign) s text rest b e w c st out spot g = tt
begin_steps (step.Close kind.Literal) s text rest b e w c st out spot g = tt
begin_steps (step.Close kind.Word) s text rest b e w c st out spot g = tt
begin_steps (step.Close kind.Quoted) s text rest b e w c st out spot g = tt
begin_steps (step.Close kind.Keyword) s text rest b e w c st out spot g = tt
begin_steps (step.Stop k) s text rest b e w c st out spot g = tt
begin_steps step.Fault s text rest b e w c st out spot g = tt

semicolon_steps : (c : Bool) (s : State) (text rest : List ℕ) (b : ℕ) → (b == 59) ≡ c → is_white b ≡ false → is_start s.mode ≡ true → s.comment ≡ false →
    Spot (line_of_item s) s.depth text rest (b ∷ []) → IsGap rest false → Steps (if c then move.Go (record s { comment = true }) else begins s b (step_of mode.Start b)) s text b
semicolon_steps true s text rest b c w st out spot g = gap_step_hand s (record s { comment = true }) text rest b spot st refl refl refl (semicolon_more rest b w c g)
semicolon_steps false s text rest b c w st out spot g = begin_steps (step_of mode.Start b) s text rest b refl w c st out spot g

white_steps : (w : Bool) (s : State) (text rest : List ℕ) (b : ℕ) → is_white b ≡ w → is_start s.mode ≡ true → s.comment ≡ false →
    Spot (line_of_item s) s.depth text rest (b ∷ []) → IsGap rest false →
    Steps (if w then move.Go (record s { line = line_after s b }) else if b == 59 then move.Go (record s { comment = true }) else begins s b (step_of mode.Start b)) s text b
white_steps true s text rest b w st out spot g =
    gap_step_hand s (record s { line = line_after s b }) text rest b spot st refl refl refl (subst (λ x. IsGap (rest ++ b ∷ []) x) (sym out) (white_more rest b w g))
white_steps false s text rest b w st out spot g = semicolon_steps (b == 59) s text rest b refl w st out spot g

-- a byte between tokens
fresh_steps : (s : State) (text rest : List ℕ) (b : ℕ) → is_start s.mode ≡ true → s.comment ≡ false → Spot (line_of_item s) s.depth text rest (b ∷ []) → IsGap rest false → Steps (fresh s b) s text b
unfolding fresh
fresh_steps s text rest b st out spot g = white_steps (is_white b) s text rest b refl st out spot g

steps_closed : (m : Move) (s : State) (text : List ℕ) (b : ℕ) → Steps m (closed s) text b → Steps m s text b
steps_closed (move.Go s') s text b h = h
steps_closed (move.Done s') s text b h = h
steps_closed move.Before s text b h = h
steps_closed (move.Fail f) s text b h = h

outside : (d : ℕ) → (d == 0) ≡ true → d ≡ 0
outside d e = eqb-true d 0 e

-- the token that ends before a byte ends with the text too
part_ends : (m : Mode) (k : Kind) (rest : List ℕ) → whole m ≡ Some k → (p : IsPart m rest) → Ended rest [] p.gap_len k
part_ends m k rest w p = record {
  before = ap (gap false) (append-nil rest) ∙ p.before;
  begun = p.begun;
  takes = ap (λ xs. front_of true (run mode.Start xs)) (append-nil (drop p.gap_len rest)) ∙ ap (front_of true) p.goes ∙ ap (ended (length (drop p.gap_len rest))) w;
}

close_steps : (c : Bool) (s : State) (k : Kind) (text rest : List ℕ) (b : ℕ) → (s.depth == 0) ≡ c → s.comment ≡ false → step_of s.mode b ≡ step.Close k → is_start s.mode ≡ false →
    Spot s.item_line s.depth text rest [] → IsPart s.mode rest → Steps (if c then move.Done (closed s) else move.Go (closed s)) s text b
close_steps true s k text rest b z out e st spot p =
    let plain : IsPlain k = quoted_plain k (closing_is s.mode b k st (step_closes s.mode b k e)) in (
      token_last s.item_line s.depth (text ++ b ∷ []) (rest ++ b ∷ []) (move_on s.item_line s.depth text rest b (look_ahead s.item_line s.depth text rest b spot)) p.gap_len k (part_closes s.mode k rest b [] e p) (word_last k s.depth plain (outside s.depth z)),
      and_true (s.depth == 0) z,
      out,
    )
close_steps false s k text rest b z out e st spot p =
    let plain : IsPlain k = quoted_plain k (closing_is s.mode b k st (step_closes s.mode b k e)) in
    hand (closed s) text b (λ busy. record {
      rest = [];
      spot = token_within s.item_line s.depth s.depth (text ++ b ∷ []) (rest ++ b ∷ []) [] (move_on s.item_line s.depth text rest b (look_ahead s.item_line s.depth text rest b spot)) p.gap_len k (λ more. part_closes s.mode k rest b more e p) (word_within k s.depth plain (not_zero s.depth z));
      pending = subst (λ x. IsGap [] x) (sym out) no_gap;
    })

stop_steps : (c : Bool) (s : State) (k : Kind) (text rest : List ℕ) (b : ℕ) → (s.depth == 0) ≡ c → s.comment ≡ false → step_of s.mode b ≡ step.Stop k →
    Spot s.item_line s.depth text rest [] → IsPart s.mode rest → Steps (if c then move.Before else fresh (closed s) b) s text b
stop_steps true s k text rest b z out e spot p =
    let plain : IsPlain k = whole_plain s.mode k (step_stops s.mode b k e) in
    (token_last s.item_line s.depth text rest spot p.gap_len k (part_ends s.mode k rest (step_stops s.mode b k e) p) (word_last k s.depth plain (outside s.depth z)), and_true (s.depth == 0) z, out)
stop_steps false s k text rest b z out e spot p =
    let plain : IsPlain k = whole_plain s.mode k (step_stops s.mode b k e) in
    let next : Spot s.item_line s.depth text [] (b ∷ []) = token_within s.item_line s.depth s.depth text rest (b ∷ []) (look_ahead s.item_line s.depth text rest b spot) p.gap_len k (λ more. part_stops s.mode k rest b more e p) (word_within k s.depth plain (not_zero s.depth z)) in
    steps_closed (fresh (closed s) b) s text b
    (fresh_steps (closed s) text [] b refl out (subst (λ x. Spot x s.depth text [] (b ∷ [])) (sym (line_busy (closed s) z)) next) no_gap)

continue_steps : (t : Step) (s : State) (text rest : List ℕ) (b : ℕ) → step_of s.mode b ≡ t → s.comment ≡ false → is_start s.mode ≡ false →
    Spot s.item_line s.depth text rest [] → IsPart s.mode rest → Steps (continues s b t) s text b
continue_steps (step.Go m) s text rest b e out st spot p =
    hand (record s { mode = m; line = line_after s b }) text b (λ busy. record {
      rest = rest ++ b ∷ [];
      spot = move_on s.item_line s.depth text rest b (look_ahead s.item_line s.depth text rest b spot);
      pending = parted m (step_goes s.mode b m e) s.comment (rest ++ b ∷ []) out (part_goes s.mode m rest b e p);
    })
continue_steps (step.Close k) s text rest b e out st spot p = close_steps (s.depth == 0) s k text rest b refl out e st spot p
continue_steps (step.Stop k) s text rest b e out st spot p = stop_steps (s.depth == 0) s k text rest b refl out e spot p
continue_steps step.Fault s text rest b e out st spot p = tt

-- what is at hand, by whether a token has begun

at_busy : (s : State) (text : List ℕ) → is_idle s ≡ false → AtHand s text → Reached s text
at_busy s text e h = subst (λ c. at_hand_by c s text) e h

at_idle : (s : State) (text : List ℕ) → is_idle s ≡ true → AtHand s text → text ≡ []
at_idle s text e h = subst (λ c. at_hand_by c s text) e h

idle_deep : (c d : Bool) → (c && d) ≡ true → c ≡ true
idle_deep true d e = refl
idle_deep false d e = cc

idle_start : (c d : Bool) → (c && d) ≡ true → d ≡ true
idle_start true d e = e
idle_start false d e = cc

line_at : (s : State) (text rest : List ℕ) → (s.depth == 0) ≡ false → Spot s.item_line s.depth text rest [] → Spot (line_of_item s) s.depth text rest []
line_at s text rest e spot = subst (λ x. Spot x s.depth text rest []) (sym (line_busy s e)) spot

start_steps : (c : Bool) (s : State) (text : List ℕ) (b : ℕ) → is_idle s ≡ c → s.comment ≡ false → is_start s.mode ≡ true → AtHand s text → Steps (fresh s b) s text b
start_steps true s text b i out st h =
    let none : text ≡ [] = at_idle s text i h in
    let deep : s.depth ≡ 0 = outside s.depth (idle_deep (s.depth == 0) (is_start s.mode) i) in
    let spot : Spot (line_of_item s) s.depth [] [] [] = subst (λ d. Spot (line_of_item s) d [] [] []) (sym deep) (spot_start (line_of_item s)) in
    subst (λ t. Steps (fresh s b) s t b) (sym none) (fresh_steps s [] [] b st out (look_ahead (line_of_item s) s.depth [] [] b spot) no_gap)
start_steps false s text b i out st h =
    let r : Reached s text = at_busy s text i h in
    let deep : (s.depth == 0) ≡ false = busy_deep (s.depth == 0) (is_start s.mode) i st in
    let g : IsGap r.rest false = subst (λ c. IsGap r.rest c) out (subst (λ c. Pending c s.mode s.comment r.rest) st r.pending) in
    fresh_steps s text r.rest b st out (look_ahead (line_of_item s) s.depth text r.rest b (line_at s text r.rest deep r.spot)) g

mode_steps : (c : Bool) (s : State) (text : List ℕ) (b : ℕ) → is_start s.mode ≡ c → s.comment ≡ false → AtHand s text → Steps (if c then fresh s b else continues s b (step_of s.mode b)) s text b
mode_steps true s text b st out h = start_steps (is_idle s) s text b refl out st h
mode_steps false s text b st out h =
    let r : Reached s text = at_busy s text (and_false (s.depth == 0) (is_start s.mode) st) h in
    let p : IsPart s.mode r.rest × (s.comment ≡ false) = subst (λ c. Pending c s.mode s.comment r.rest) st r.pending in
    continue_steps (step_of s.mode b) s text r.rest b refl out st r.spot p.0

comment_busy : (c : Bool) (s : State) (text : List ℕ) (b : ℕ) → is_start s.mode ≡ c → s.comment ≡ true → is_idle s ≡ false → Reached s text → Reached (record s { comment = not (is_break b); line = line_after s b }) (text ++ b ∷ [])
comment_busy true s text b st at i r =
    let g : IsGap r.rest true = subst (λ c. IsGap r.rest c) at (subst (λ c. Pending c s.mode s.comment r.rest) st r.pending) in
    record {
      rest = r.rest ++ b ∷ [];
      spot = move_on s.item_line s.depth text r.rest b (look_ahead s.item_line s.depth text r.rest b r.spot);
      pending = started s.mode st (not (is_break b)) (r.rest ++ b ∷ []) (comment_more r.rest b g);
    }
comment_busy false s text b st at i r =
    let p : IsPart s.mode r.rest × (s.comment ≡ false) = subst (λ c. Pending c s.mode s.comment r.rest) st r.pending in
    let never : s.comment ≡ false = p.1 in
    absurd (cc)

comment_steps : (c : Bool) (s : State) (text : List ℕ) (b : ℕ) → s.comment ≡ c → AtHand s text →
    Steps (if c then move.Go (record s { comment = not (is_break b); line = line_after s b }) else if is_start s.mode then fresh s b else continues s b (step_of s.mode b)) s text b
comment_steps true s text b at h =
    hand (record s { comment = not (is_break b); line = line_after s b }) text b (λ busy. comment_busy (is_start s.mode) s text b refl at busy (at_busy s text busy h))
comment_steps false s text b out h = mode_steps (is_start s.mode) s text b refl out h

-- what a byte does
pub steps : (s : State) (text : List ℕ) (b : ℕ) → AtHand s text → Steps (move_of s b) s text b
unfolding move_of
steps s text b h = comment_steps s.comment s text b refl h

-- what the first bytes show, seen from the tokens
abbrev pub Shown : Scan → Type 0
Shown (Waits s text room) = AtHand s text
Shown (Top text line s room rest) = IsItem text line × (is_idle s ≡ true) × (s.comment ≡ false)
Shown (Full line) = Unit {0}
Shown (Bad f) = Unit {0}

step_shown : (m : Move) (s : State) (text : List ℕ) (room b : ℕ) (bs : List ℕ) → Steps m s text b → ((s' : State) (text' : List ℕ) (room' : ℕ) → AtHand s' text' → Shown (scan s' text' room' bs)) →
    Shown (scan_after m s text room b bs (λ s' text'. scan s' text' (room - 1) bs))
step_shown (move.Go s') s text room b bs h ih = ih s' (text_after s' text b) (room - 1) h
step_shown (move.Done s') s text room b bs h ih = h
step_shown move.Before s text room b bs h ih = h
step_shown (move.Fail f) s text room b bs h ih = tt

past_shown : (m : Move) (s : State) (text : List ℕ) (b : ℕ) (bs : List ℕ) → Steps m s text b → Shown (scan_past m s text b bs)
past_shown (move.Go s') s text b bs h = tt
past_shown (move.Done s') s text b bs h = tt
past_shown move.Before s text b bs h = h
past_shown (move.Fail f) s text b bs h = tt

room_shown : (c : Bool) (s : State) (text : List ℕ) (room b : ℕ) (bs : List ℕ) → Steps (move_of s b) s text b → Shown (scan_after (move_of s b) s text room b bs (λ s' text'. scan s' text' (room - 1) bs)) →
    Shown (if c then scan_past (move_of s b) s text b bs else scan_after (move_of s b) s text room b bs (λ s' text'. scan s' text' (room - 1) bs))
room_shown true s text room b bs t h = past_shown (move_of s b) s text b bs t
room_shown false s text room b bs t h = h

pub scan_shown : (bytes : List ℕ) (s : State) (text : List ℕ) (room : ℕ) → AtHand s text → Shown (scan s text room bytes)
unfolding scan
scan_shown [] s text room h = h
scan_shown (b ∷ bs) s text room h = room_shown (room == 0) s text room b bs (steps s text b h) (step_shown (move_of s b) s text room b bs (steps s text b h) (λ s' text' room' h'. scan_shown bs s' text' room' h'))

-- the end of the input

pub idle_hand : (s : State) → is_idle s ≡ true → AtHand s []
idle_hand s e = subst (λ c. at_hand_by c s []) (sym e) refl

-- the answers

abbrev Fine : Answer → Type 0
Fine a = AtHand a.view.state a.view.text × GivesItem a.item a.view

unclosed_whole : (c d : Bool) (f g h : Fault) → (if c then ending.Bad f else if d then ending.Bad g else ending.Bad h) ≡ ending.Whole → ⊥
unclosed_whole true d f g h e = cc
unclosed_whole false true f g h e = cc
unclosed_whole false false f g h e = cc

ends_token_whole : (s : State) (w : Option Kind) → ends_token s w ≡ ending.Whole → (k : Kind) × (w ≡ Some k)
ends_token_whole s None e = absurd (unclosed_whole (is_start s.mode) _ _ _ _ e)
ends_token_whole s (Some k) e = (k, refl)

busy_ends : (c : Bool) (x : Ending) → c ≡ false → (if c then ending.Nothing else x) ≡ ending.Whole → x ≡ ending.Whole
busy_ends true x e h = cc
busy_ends false x e h = h

start_not_whole : (m : Mode) (k : Kind) → whole m ≡ Some k → is_start m ≡ false
start_not_whole mode.Start k e = cc
start_not_whole mode.Symbol k e = refl
start_not_whole mode.Zero k e = refl
start_not_whole mode.Digits k e = refl
start_not_whole mode.Dot k e = refl
start_not_whole mode.Decimal k e = refl
start_not_whole mode.Hash k e = refl
start_not_whole mode.HexStart k e = refl
start_not_whole mode.Hex k e = refl
start_not_whole mode.BinaryStart k e = refl
start_not_whole mode.Binary k e = refl
start_not_whole mode.Colon k e = refl
start_not_whole mode.Keyword k e = refl
start_not_whole mode.Literal k e = refl
start_not_whole mode.LiteralQuote k e = refl
start_not_whole mode.Quoted k e = refl

pub end_item : (s : State) (text : List ℕ) → ending_of s ≡ ending.Whole → AtHand s text → IsItem text s.item_line
end_item s text e h =
    let busy : is_idle s ≡ false = (whole_is s e).0 in
    let deep : s.depth ≡ 0 = outside s.depth (whole_is s e).1 in
    let r : Reached s text = at_busy s text busy h in
    let w : (k : Kind) × (whole s.mode ≡ Some k) = ends_token_whole s (whole s.mode) (busy_ends (is_idle s) _ busy e) in
    let p : IsPart s.mode r.rest × (s.comment ≡ false) = subst (λ c. Pending c s.mode s.comment r.rest) (start_not_whole s.mode w.0 w.1) r.pending in
    token_last s.item_line s.depth text r.rest r.spot p.0.gap_len w.0 (part_ends s.mode w.0 r.rest w.1 p.0) (word_last w.0 s.depth (whole_plain s.mode w.0 w.1) deep)

end_out : (s : State) (text : List ℕ) → ending_of s ≡ ending.Whole → AtHand s text → s.comment ≡ false
end_out s text e h =
    let busy : is_idle s ≡ false = (whole_is s e).0 in
    let r : Reached s text = at_busy s text busy h in
    let w : (k : Kind) × (whole s.mode ≡ Some k) = ends_token_whole s (whole s.mode) (busy_ends (is_idle s) _ busy e) in
    let p : IsPart s.mode r.rest × (s.comment ≡ false) = subst (λ c. Pending c s.mode s.comment r.rest) (start_not_whole s.mode w.0 w.1) r.pending in
    p.1

end_fine : (e : Ending) (v : View) → ending_of v.state ≡ e → AtHand v.state v.text → Fine (at_end v e)
end_fine ending.Nothing v e h = (h, tt)
end_fine ending.Whole v e h = (
  idle_hand (closed v.state) (and_true (v.state.depth == 0) (whole_is v.state e).1),
  (refl, end_item v.state v.text e h, record { outside = (whole_is v.state e).1; start = refl; comment = end_out v.state v.text e h }, refl),
)
end_fine (ending.Bad f) v e h = (h, tt)

wait_fine : (c : Bool) (v : View) → AtHand v.state v.text → Fine (if c then at_end v (ending_of v.state) else record { item = item.More; view = v })
wait_fine true v h = end_fine (ending_of v.state) v refl h
wait_fine false v h = (h, tt)

shows_fine : (r : Scan) (v : View) → AtHand v.state v.text → Shown r → Fine (shows v r)
shows_fine (Waits s text room) v h w = wait_fine v.last (record v { state = s; text = text; unread = []; room = room; given = None }) w
shows_fine (Top text line s room rest) v h w = (idle_hand s w.1, (refl, w.0, record { outside = idle_deep (s.depth == 0) (is_start s.mode) w.1; start = idle_start (s.depth == 0) (is_start s.mode) w.1; comment = w.2 }, refl))
shows_fine (Full line) v h w = (h, tt)
shows_fine (Bad f) v h w = (h, tt)

over_fine : (l : Last) (v : View) → AtHand v.state v.text → Fine (record { item = item_of l; view = v })
over_fine last.End v h = (h, tt)
over_fine (last.Bad f) v h = (h, tt)

answer_fine : (o : Option Last) (v : View) → v.over ≡ o → AtHand v.state v.text → Fine (answer v)
answer_fine None v e h = subst (λ (a : Answer). Fine a) (sym (answer_none v e)) (shows_fine (scan_of v) v h (scan_shown v.unread v.state v.text v.room h))
answer_fine (Some l) v e h = subst (λ (a : Answer). Fine a) (sym (answer_over v l e)) (over_fine l v h)

pub items : AreItems
items = record {
  begins = λ limit. refl;
  stays = λ v h. (answer_fine v.over v refl h).0;
  gives = λ v h. (answer_fine v.over v refl h).1;
}
