-- The items of a text have all of its tokens.
use Rattle.std.proofs.Common.{◌≡◌, ℕ, ◌+◌, ◌-◌, ◌≤◌, Bool, true, false, ◌==◌, nat_le, nat_lt, if◌then◌else◌, List, [], ◌∷◌, ◌++◌, length, take, drop, Option, Some, None, unwrap_or, refl, sym, ap, ◌∙◌, arith, append_assoc, append-nil, drop-drop, subst}
use Rattle.std.specs.List.{flat_map}
use Rattle.std.proofs.lemmas.Bool.{ne_eqb, eqb-false}
use Rattle.std.proofs.lemmas.List.{length-drop}
use Rattle.sc_text.specs.declared.token.Kind.{Kind}
use Rattle.sc_text.specs.declared.token.Kind.TheVariants as kind
use Rattle.sc_text.specs.declared.front.Front.{Front}
use Rattle.sc_text.specs.declared.front.Front.TheVariants.{Nothing, Token as Found, Open, Broken}
use Rattle.sc_text.specs.Place.{Place}
use Rattle.sc_text.specs.Fronts.{gap_len, after_gap, front}
use Rattle.sc_text.specs.Answers.{token_start, token_line}
use Rattle.sc_text.specs.Readings.{Lexeme, named, Whole, Token, first, rest_of, Reads, Begins}
use Rattle.sc_text.proofs.Readings.{rest_is, Begins-then}
use Rattle.sc_sexpr.specs.declared.item.Fault.{Fault}
use Rattle.sc_sexpr.specs.declared.item.Fault.TheVariants.{Unclosed}
use Rattle.sc_sexpr.specs.declared.item.Last.{Last}
use Rattle.sc_sexpr.specs.declared.item.Last.TheVariants as last
use Rattle.sc_sexpr.specs.declared.state.State.{State}
use Rattle.sc_sexpr.specs.Scans.{Piece, Reading, with_top, stops, reads, start, items_of}
use Rattle.sc_sexpr.specs.Trees.{behind_token, place_of}
use Rattle.sc_sexpr.specs.View.{View, answer}
use Rattle.sc_sexpr.specs.Laws.{reading_of, reading_by, behind}
use Rattle.sc_sexpr.specs.Walk.{Lexeme as Placed, lexeme, Stand, is_broken, is_quote, Input, stretch, at_text_end, meets, walk, IsBetween}
use Rattle.sc_sexpr.specs.Given.{GivesNext, GivesAll, HaveTokens, AreItemsOf, HaveAllTokens}
use Rattle.sc_sexpr.proofs.Stretches.{gap-cons}
use Rattle.sc_sexpr.proofs.Walking.{gap_fits, outer, front_some, front_none}
use Rattle.sc_sexpr.proofs.Walked.{token_fits, walked}
use Rattle.sc_sexpr.proofs.Work.{reader}
use Rattle.sc_sexpr.proofs.Prefixes.{first_is, reads_cut}

-- ---- the end of a text

abbrev ended : List Piece → Reading
ended tops = record { tops = tops; last = last.End }

no_fault : (f : Fault) (tops : List Piece) → stops f ≡ ended tops → ⊥
no_fault f tops e = let never : last.Bad f ≡ last.End = ap (λ (r : Reading). r.last) e in cc

-- the items have tokens, and these are, one after the other, those so far and those of what is left
record Told (bytes : List ℕ) (us : List Lexeme) (tops : List Piece) : Type 0 where
  tokens : List (List Lexeme)
  each : HaveTokens tops tokens
  left : List Lexeme
  rest : Reads true bytes left Whole
  all : us ++ left ≡ flat_map (λ ts. ts) tokens

no_items : (tops : List Piece) → [] ≡ tops → HaveTokens tops []
no_items tops e = subst (λ ps. HaveTokens ps []) e tt

end_told : (z : Bool) (line : ℕ) (bytes : List ℕ) (us : List Lexeme) (tops : List Piece) → front true bytes ≡ Nothing → (z ≡ true → us ≡ []) → (if z then ended [] else stops (Unclosed line)) ≡ ended tops → Told bytes us tops
end_told true line bytes us tops f none e = record {
  tokens = [];
  each = no_items tops (ap (λ (r : Reading). r.tops) e);
  left = [];
  rest = first_is true bytes Nothing f;
  all = append-nil us ∙ none refl;
}
end_told false line bytes us tops f none e = absurd (no_fault _ tops e)

fault_by : (b : Bool) (f g : Fault) (tops : List Piece) → (if b then stops f else stops g) ≡ ended tops → ⊥
fault_by true f g tops e = no_fault f tops e
fault_by false f g tops e = no_fault g tops e

front_told : (f : Front) (d line : ℕ) (q : Place) (us : List Lexeme) (tops : List Piece) → front true q.left ≡ f → ((d == 0) ≡ true → us ≡ []) → at_text_end f d line q ≡ ended tops → Told q.left us tops
front_told Nothing d line q us tops f none e = end_told (d == 0) line q.left us tops f none e
front_told (Found k n) d line q us tops f none e = absurd (no_fault _ tops e)
front_told Open d line q us tops f none e = absurd (no_fault _ tops e)
front_told Broken d line q us tops f none e = absurd (fault_by (is_quote (after_gap q.left)) _ _ tops e)

none_told : (b c : Bool) (f g : Fault) (d line : ℕ) (q : Place) (us : List Lexeme) (tops : List Piece) → ((d == 0) ≡ true → us ≡ []) →
    (if b then stops f else if c then stops g else at_text_end (front true q.left) d line q) ≡ ended tops → Told q.left us tops
none_told true c f g d line q us tops none e = absurd (no_fault f tops e)
none_told false true f g d line q us tops none e = absurd (no_fault g tops e)
none_told false false f g d line q us tops none e = front_told (front true q.left) d line q us tops refl none e

-- ---- one token

-- a place of a text
record Within (text : List ℕ) (p : Place) : Type 0 where
  left : p.left ≡ drop p.start text
  fits : p.start ≤ length text
  last : p.last ≡ true

-- The item at hand begins at a place, and has these tokens so far. Where no list is open, there is none.
record Has (i : Input) (d from : ℕ) (p : Place) (us : List Lexeme) : Type 0 where
  none : (d == 0) ≡ true → us ≡ []
  some : (d == 0) ≡ false → Begins true (drop from i.text) us p.left × (from ≤ p.start)

abbrev Goes : Input → Place → (ℕ → ℕ → ℕ → Reading) → Type 0
Goes i p rest = (d from line : ℕ) (us : List Lexeme) (tops : List Piece) → Has i d from p us → rest d from line ≡ ended tops → Told p.left us tops

zero_some : (d : ℕ) → (d + 1 == 0) ≡ false
zero_some d = ne_eqb (d + 1) 0 (λ e. omega arith)

true_false : true ≡ false → ⊥
true_false e = cc

-- a token without what stands before it is the same
alone_by : (ys xs : List ℕ) (k : Kind) (n : ℕ) → after_gap xs ≡ ys → front true xs ≡ Found k n → (after_gap ys ≡ ys) × (front true ys ≡ Found k n)
alone_by [] xs k n is f = let none : Nothing ≡ Found k n = sym (front_none xs is) ∙ f in absurd cc
alone_by (b ∷ bs) xs k n is f =
    let here : after_gap (b ∷ bs) ≡ b ∷ bs = ap (λ g. drop g.len (b ∷ bs)) (gap-cons false b bs None (outer xs false b bs is).step) in
    (here, front_some true (b ∷ bs) b bs here ∙ sym (front_some true xs b bs is) ∙ f)

module _ (i : Input) (p : Place) (k : Kind) (n : ℕ) (w : Within i.text p) (f : front true p.left ≡ Found k n) where
  abbrev token : Lexeme
  token = named k (take n (after_gap p.left))

  abbrev next : Place
  next = behind_token p n

  has : first true p.left ≡ Token token
  has = first_is true p.left (Found k n) f

  behind_is : rest_of true p.left ≡ next.left
  behind_is = rest_is true p.left (Found k n) f

  here : after_gap p.left ≡ drop (token_start p) i.text
  here = ap (drop (gap_len p.left)) w.left ∙ drop-drop (gap_len p.left) p.start i.text

  alone : Begins true (drop (token_start p) i.text) (token ∷ []) next.left
  alone =
      let same = alone_by (after_gap p.left) p.left k n refl f in
      subst (λ zs. Begins true zs (token ∷ []) next.left) here
      (first_is true (after_gap p.left) (Found k n) same.1 ∙ ap (λ ys. Token (named k (take n ys))) same.0, rest_is true (after_gap p.left) (Found k n) same.1 ∙ ap (drop n) same.0)

  left_len : length p.left ≡ length i.text - p.start
  left_len = ap (length {A = ℕ}) w.left ∙ length-drop p.start i.text

  next_fits : token_start p + n ≤ length i.text
  next_fits = omega (arith, w.fits, left_len, token_fits p.left k n f, gap_fits p.left false, length-drop (gap_len p.left) p.left)

  next_within : Within i.text next
  next_within = record { left = ap (drop n) here ∙ drop-drop n (token_start p) i.text; fits = next_fits; last = w.last }

  -- the item at hand has one token more
  begun : (z : Bool) (d from : ℕ) (us : List Lexeme) → (d == 0) ≡ z → Has i d from p us → Begins true (drop (if z then token_start p else from) i.text) (us ++ token ∷ []) next.left × ((if z then token_start p else from) ≤ token_start p)
  begun true d from us z h = (subst (λ ts. Begins true (drop (token_start p) i.text) (ts ++ token ∷ []) next.left) (sym (h.none z)) alone, omega arith)
  begun false d from us z h = (Begins-then true us (token ∷ []) (drop from i.text) p.left next.left (h.some z).0 (has, behind_is), omega (arith, (h.some z).1))

  onward : (us : List Lexeme) (tops : List Piece) → Told next.left (us ++ token ∷ []) tops → Told p.left us tops
  onward us tops t = record {
    tokens = t.tokens;
    each = t.each;
    left = token ∷ t.left;
    rest = (has, subst (λ ys. Reads true ys t.left Whole) (sym behind_is) t.rest);
    all = sym (append_assoc us (token ∷ []) t.left) ∙ t.all;
  }

  module _ (rest : ℕ → ℕ → ℕ → Reading) (goes : Goes i next rest) where
    -- a list is open behind the token
    inside : (z : Bool) (d e from line : ℕ) (us : List Lexeme) (tops : List Piece) → (d == 0) ≡ z → (e == 0) ≡ false → Has i d from p us → rest e (if z then token_start p else from) line ≡ ended tops → Told p.left us tops
    inside z d e from line us tops is some h r =
        let b = begun z d from us is h in
        onward us tops (goes e (if z then token_start p else from) line (us ++ token ∷ []) tops (record { none = λ x. absurd (true_false (sym x ∙ some)); some = λ x. (b.0, omega (arith, b.1)) }) r)

    -- the token ends an item
    item_told : (first_at line from top : ℕ) (us : List Lexeme) → Begins true (drop first_at i.text) (us ++ token ∷ []) next.left → first_at ≤ token_start p → (rest 0 from top).last ≡ last.End →
        Told p.left us (record { text = stretch i first_at (token_start p + n); line = line } ∷ (rest 0 from top).tops)
    item_told first_at line from top us b order r =
        let others = goes 0 from top [] (rest 0 from top).tops (record { none = λ x. refl; some = λ x. absurd (true_false x) }) (λ j. record { tops = (rest 0 from top).tops; last = r j }) in
        record {
          tokens = (us ++ token ∷ []) ∷ others.tokens;
          each = (reads_cut (us ++ token ∷ []) (drop first_at i.text) next.left (token_start p + n - first_at) b (omega (arith, order, next_fits, length-drop first_at i.text, ap (length {A = ℕ}) next_within.left, length-drop (token_start p + n) i.text)), others.each);
          left = token ∷ others.left;
          rest = (has, subst (λ ys. Reads true ys others.left Whole) (sym behind_is) others.rest);
          all = sym (append_assoc us (token ∷ []) others.left) ∙ ap (λ ts. (us ++ token ∷ []) ++ ts) others.all;
        }

    ends : (first_at line from top : ℕ) (us : List Lexeme) (tops : List Piece) → Begins true (drop first_at i.text) (us ++ token ∷ []) next.left → first_at ≤ token_start p →
        with_top (stretch i first_at (token_start p + n)) line (rest 0 from top) ≡ ended tops → Told p.left us tops
    ends first_at line from top us tops b order e = subst (Told p.left us) (ap (λ (r : Reading). r.tops) e) (item_told first_at line from top us b order (ap (λ (r : Reading). r.last) e))

    left_told : (c : Bool) (g : Fault) (d from line : ℕ) (us : List Lexeme) (tops : List Piece) → Has i d from p us →
        (if c then stops g else rest (d + 1) (if d == 0 then token_start p else from) line) ≡ ended tops → Told p.left us tops
    left_told true g d from line us tops h e = absurd (no_fault g tops e)
    left_told false g d from line us tops h e = inside (d == 0) d (d + 1) from line us tops refl (zero_some d) h e

    right_told : (z o : Bool) (g : Fault) (d from line : ℕ) (us : List Lexeme) (tops : List Piece) → (d == 0) ≡ z → (d == 1) ≡ o → Has i d from p us →
        (if z then stops g else if o then with_top (stretch i from (token_start p + n)) line (rest 0 from line) else rest (d - 1) from line) ≡ ended tops → Told p.left us tops
    right_told true o g d from line us tops z one h e = absurd (no_fault g tops e)
    right_told false true g d from line us tops z one h e = let b = begun false d from us z h in ends from line from line us tops b.0 b.1 e
    right_told false false g d from line us tops z one h e =
        let some : d ≡ 0 → ⊥ = eqb-false d 0 z in
        let more : d ≡ 1 → ⊥ = eqb-false d 1 one in
        inside false d (d - 1) from line us tops z (ne_eqb (d - 1) 0 (λ x. omega arith)) h e

    word_told : (z : Bool) (d from line : ℕ) (us : List Lexeme) (tops : List Piece) → (d == 0) ≡ z → Has i d from p us →
        (if z then with_top (stretch i (token_start p) (token_start p + n)) (token_line p) (rest 0 from line) else rest d from line) ≡ ended tops → Told p.left us tops
    word_told true d from line us tops z h e = let b = begun true d from us z h in ends (token_start p) (token_line p) from line us tops b.0 b.1 e
    word_told false d from line us tops z h e = inside false d d from line us tops z z h e

meets_told : (k : Kind) (i : Input) (p : Place) (n : ℕ) → Within i.text p → front true p.left ≡ Found k n → (rest : ℕ → ℕ → ℕ → Reading) → Goes i (behind_token p n) rest →
    (d from line : ℕ) (us : List Lexeme) (tops : List Piece) → Has i d from p us → meets k i d from line (lexeme p k n) rest ≡ ended tops → Told p.left us tops
meets_told kind.Left i p n w f rest goes d from line us tops h e = left_told i p kind.Left n w f rest goes (nat_le 1000 d) _ d from (if d == 0 then token_line p else line) us tops h e
meets_told kind.Right i p n w f rest goes d from line us tops h e = right_told i p kind.Right n w f rest goes (d == 0) (d == 1) _ d from line us tops refl refl h e
meets_told kind.Numeral i p n w f rest goes d from line us tops h e = word_told i p kind.Numeral n w f rest goes (d == 0) d from line us tops refl h e
meets_told kind.Foreign i p n w f rest goes d from line us tops h e = word_told i p kind.Foreign n w f rest goes (d == 0) d from line us tops refl h e
meets_told kind.Literal i p n w f rest goes d from line us tops h e = word_told i p kind.Literal n w f rest goes (d == 0) d from line us tops refl h e
meets_told kind.Word i p n w f rest goes d from line us tops h e = word_told i p kind.Word n w f rest goes (d == 0) d from line us tops refl h e
meets_told kind.Quoted i p n w f rest goes d from line us tops h e = word_told i p kind.Quoted n w f rest goes (d == 0) d from line us tops refl h e
meets_told kind.Keyword i p n w f rest goes d from line us tops h e = word_told i p kind.Keyword n w f rest goes (d == 0) d from line us tops refl h e

token_told : (c : Bool) (g : Fault) (k : Kind) (i : Input) (p : Place) (n : ℕ) → Within i.text p → front true p.left ≡ Found k n → (rest : ℕ → ℕ → ℕ → Reading) → Goes i (behind_token p n) rest →
    (d from line : ℕ) (us : List Lexeme) (tops : List Piece) → Has i d from p us → (if c then stops g else meets k i d from line (lexeme p k n) rest) ≡ ended tops → Told p.left us tops
token_told true g k i p n w f rest goes d from line us tops h e = absurd (no_fault g tops e)
token_told false g k i p n w f rest goes d from line us tops h e = meets_told k i p n w f rest goes d from line us tops h e

-- ---- all tokens

walk_told : (ts : List Placed) (i : Input) (p q : Place) (d from line : ℕ) (us : List Lexeme) (tops : List Piece) → Within i.text p → Has i d from p us → Stand p ts q → walk i d from line ts q ≡ ended tops → Told p.left us tops
walk_told [] i p q d from line us tops w h same e =
    subst (λ (x : Place). Told x.left us tops) (sym same)
    (none_told (is_broken (front false (take (i.room - q.start) q.left))) (nat_lt i.room (length i.text)) _ _ d line q us tops h.none e)
walk_told (t ∷ ts) i p q d from line us tops w h (k, n, f, is, stand) e =
    let found : front true p.left ≡ Found k n = ap (λ l. front l p.left) (sym w.last) ∙ f in
    token_told (nat_lt i.room (token_start p + n)) _ k i p n w found (λ d' f' l'. walk i d' f' l' ts q)
    (λ d' from' line' us' tops' h' e'. walk_told ts i (behind_token p n) q d' from' line' us' tops' (next_within i p k n w found) h' stand e')
    d from line us tops h (ap (λ (y : Placed). walk i d from line (y ∷ ts) q) (sym is) ∙ e)

items_told : (number room : ℕ) (s : State) (text : List ℕ) (tops : List Piece) → IsBetween s → reads number s [] room text ≡ ended tops → AreItemsOf text tops
items_told number room s text tops b e =
    let tokens = walked.tokens text s.line in
    let i : Input = record { text = text; line = s.line; room = room; number = number } in
    let t = walk_told tokens.0 (record { text = text; line = s.line; room = room; number = number }) (place_of text s.line) tokens.1 0 0 0 [] tops
    (record { left = refl; fits = omega arith; last = refl }) (record { none = λ x. refl; some = λ x. absurd (true_false x) }) tokens.2.stand
    (sym (walked.items number room s text tokens.0 tokens.1 b tokens.2) ∙ e) in
    record { tokens = t.tokens; each = t.each; all = subst (λ ts. Reads true text ts Whole) t.all t.rest }

-- ---- a splitter

given_is : (v : View) (p : Piece) (w : View) → GivesNext v p w → (answer v).view.given ≡ Some p.text
given_is v p w g = ap (λ (x : View). x.given) (sym g.view) ∙ g.given

gives_reading : (ps : List Piece) (v : View) → GivesAll v ps → reading_of v [] ≡ ended ps
gives_reading [] v e = reader.answers v [] (λ x. refl) ∙ ap (λ x. behind x (answer v).view []) e
gives_reading (p ∷ ps) v (w, g, more) =
    let others : reading_of (answer v).view [] ≡ ended ps = sym (reader.keeps (answer v).view w.kept []) ∙ ap (λ x. reading_of x []) (sym g.view) ∙ gives_reading ps w more in
    reader.answers v [] (λ x. refl)
    ∙ ap (λ x. behind x (answer v).view []) g.item
    ∙ ap (λ t. with_top (unwrap_or t []) p.line (reading_of (answer v).view [])) (given_is v p w g)
    ∙ ap (with_top p.text p.line) others

view_told : (v : View) → IsBetween v.state → v.text ≡ [] → v.over ≡ None → (ps : List Piece) → GivesAll v ps → AreItemsOf v.unread ps
view_told v b text over ps g =
    items_told v.limit v.room v.state v.unread ps b
    (ap (λ bytes. reads v.limit v.state [] v.room bytes) (sym (append-nil v.unread))
    ∙ ap (λ t. reads v.limit v.state t v.room (v.unread ++ [])) (sym text)
    ∙ ap (λ (o : Option Last). reading_by o v []) (sym over)
    ∙ gives_reading ps v g)

pub have_all_tokens : HaveAllTokens
have_all_tokens = record {
  texts = λ limit text e. items_told limit limit start text (items_of limit text).tops (record { outside = refl; start = refl; comment = refl }) (λ j. record { tops = (items_of limit text).tops; last = e j });
  splitters = view_told;
}
