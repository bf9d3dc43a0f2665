-- The items of a text, told by its tokens.
use Rattle.std.specs.Prelude.{◌≡◌, ℕ, ◌+◌, ◌-◌, Bool, true, false, ◌||◌, ◌==◌, nat_le, nat_lt, if◌then◌else◌, List, [], ◌∷◌, length, take, drop}
use Rattle.sc_text.specs.declared.token.Kind.{Kind}
use Rattle.sc_text.specs.declared.token.Kind.TheVariants as kind
use Rattle.sc_text.specs.declared.front.Front.{Front}
use Rattle.sc_text.specs.declared.front.Front.TheVariants.{Nothing, Token as Found, Open, Broken}
use Rattle.sc_text.specs.Place.{Place}
use Rattle.sc_text.specs.Bytes.{line_feeds}
use Rattle.sc_text.specs.Modes.{is_start}
use Rattle.sc_text.specs.Fronts.{front, after_gap}
use Rattle.sc_text.specs.Answers.{token_start, token_line}
use Rattle.sc_sexpr.specs.declared.item.Fault.TheVariants.{Lexical, Unmatched, Unclosed, Limit}
use Rattle.sc_sexpr.specs.declared.item.Last.TheVariants as last
use Rattle.sc_sexpr.specs.declared.state.State.{State}
use Rattle.sc_sexpr.specs.Scans.{Reading, with_top, stops, reads}
use Rattle.sc_sexpr.specs.Trees.{behind_token, place_of}

-- a token of a text: its kind, the places of its first byte and behind its last one, and its line
pub record Lexeme : Type 0 where
  pub kind : Kind
  pub start : ℕ
  pub behind : ℕ
  pub line : ℕ

abbrev pub lexeme : Place → Kind → ℕ → Lexeme
lexeme p k n = record { kind = k; start = token_start p; behind = token_start p + n; line = token_line p }

-- From one place of a text to another stand these tokens, with nothing but white space and comments before each.
abbrev pub Stand : Place → List Lexeme → Place → Type 0
Stand p [] q = p ≡ q
Stand p (t ∷ ts) q = (k : Kind) × (n : ℕ) × (front p.last p.left ≡ Found k n) × (t ≡ lexeme p k n) × Stand (behind_token p n) ts q

abbrev pub is_token : Front → Bool
is_token Nothing = false
is_token (Found k n) = true
is_token Open = false
is_token Broken = false

abbrev pub is_broken : Front → Bool
is_broken Nothing = false
is_broken (Found k n) = false
is_broken Open = false
is_broken Broken = true

-- a double quote or a bar begins here
abbrev pub is_quote : List ℕ → Bool
is_quote [] = false
is_quote (b ∷ bs) = b == 34 || b == 124

-- the tokens of a text, up to the place where no further one stands
pub record AreAll (p : Place) (ts : List Lexeme) (q : Place) : Type 0 where
  pub stand : Stand p ts q
  pub ends : is_token (front q.last q.left) ≡ false

-- A text whose first byte has this line. So many of its bytes may be read, and the limit has this number.
pub record Input : Type 0 where
  pub text : List ℕ
  pub line : ℕ
  pub room : ℕ
  pub number : ℕ

-- the bytes of a text from one place to another
abbrev pub stretch : Input → ℕ → ℕ → List ℕ
stretch i from to = take (to - from) (drop from i.text)

-- The text is longer than may be read: the line is that of the item in which the first byte past the limit stands, or its own where it stands in none. The next token has this place and line.
abbrev pub past_limit : Input → ℕ → ℕ → ℕ → ℕ → Reading
past_limit i depth line start first =
    stops (Limit (if depth == 0 then if nat_lt start i.room then first else i.line + line_feeds (take i.room i.text) else line) i.number)

-- the end of the text, where so many lists are open
abbrev pub at_text_end : Front → ℕ → ℕ → Place → Reading
at_text_end Nothing depth line q = if depth == 0 then record { tops = []; last = last.End } else stops (Unclosed line)
at_text_end (Found k n) depth line q = stops (Lexical (token_line q))
at_text_end Open depth line q = stops (Lexical (token_line q))
at_text_end Broken depth line q =
    if is_quote (after_gap q.left) then stops (Unclosed (if depth == 0 then token_line q else line)) else stops (Lexical (token_line q))

-- No further token stands here: bytes that can be read begin none, or the limit or the end of the text comes first.
abbrev pub no_token : Input → ℕ → ℕ → Place → Reading
no_token i depth line q =
    if is_broken (front false (take (i.room - q.start) q.left)) then stops (Lexical (token_line q))
    else if nat_lt i.room (length i.text) then past_limit i depth line (token_start q) (token_line q)
    else at_text_end (front true q.left) depth line q

-- A token, where so many lists are open and the item at hand begins at this place and line.
abbrev pub meets : Kind → Input → ℕ → ℕ → ℕ → Lexeme → (ℕ → ℕ → ℕ → Reading) → Reading
meets kind.Left i depth from line t rest =
    if nat_le 1000 depth then stops (Limit t.line 1000)
    else rest (depth + 1) (if depth == 0 then t.start else from) (if depth == 0 then t.line else line)
meets kind.Right i depth from line t rest =
    if depth == 0 then stops (Unmatched t.line)
    else if depth == 1 then with_top (stretch i from t.behind) line (rest 0 from line)
    else rest (depth - 1) from line
meets k i depth from line t rest = if depth == 0 then with_top (stretch i t.start t.behind) t.line (rest 0 from line) else rest depth from line

-- The items that the tokens make, one after the other, where so many lists are open and the item at hand begins at this place and line.
abbrev pub walk : Input → ℕ → ℕ → ℕ → List Lexeme → Place → Reading
walk i depth from line [] q = no_token i depth line q
walk i depth from line (t ∷ ts) q =
    if nat_lt i.room t.behind then past_limit i depth line t.start t.line
    else meets t.kind i depth from line t (λ d f l. walk i d f l ts q)

-- no item, no token and no comment is at hand
pub record IsBetween (s : State) : Type 0 where
  pub outside : (s.depth == 0) ≡ true
  pub start : is_start s.mode ≡ true
  pub comment : s.comment ≡ false

-- Each text has its tokens, and the items of a text are those that its tokens make, in the order in which they stand.
pub record AreWalked : Type 0 where
  pub tokens : (text : List ℕ) (line : ℕ) → (ts : List Lexeme) × (q : Place) × AreAll (place_of text line) ts q
  pub items : (number room : ℕ) (s : State) (text : List ℕ) (ts : List Lexeme) (q : Place) → IsBetween s → AreAll (place_of text s.line) ts q →
      reads number s [] room text ≡ walk (record { text = text; line = s.line; room = room; number = number }) 0 0 0 ts q
