-- What a lexer gives, call by call.
use Rattle.std.specs.Prelude.{◌≡◌, ◌≢◌, ℕ, ◌+◌, ◌-◌, ◌<◌, ◌≤◌, Bool, true, false, not, if◌then◌else◌, List, [], ◌∷◌, ◌++◌, map, length, take, drop}
use Rattle.std.specs.List.{list_all}
use Rattle.sc_text.specs.declared.token.Token.{Token}
use Rattle.sc_text.specs.declared.lexer.Next.{Next}
use Rattle.sc_text.specs.declared.lexer.Next.TheVariants as next
use Rattle.sc_text.specs.Place.{Place}
use Rattle.sc_text.specs.Answers.{token_start, token_line, Answers}
use Rattle.sc_text.specs.Bytes.{is_white, is_break, line_feeds}
use Rattle.sc_text.specs.Fronts.{gap_len}
use Rattle.sc_text.specs.Readings.{Lexeme, lexeme, text_of, Ending, Whole, Faulty, Unfinished, Token as Has, End, first, rest_of, Reads, Begins, Located, past_first, ReadsFrom, tokens_of}

-- a lexer over a text whose first byte has this place and line
abbrev pub over : List ℕ → ℕ → ℕ → Bool → Place
over text start line last = record { left = text; start = start; line = line; last = last }

-- calls from one place to another gave these tokens
abbrev pub Gives : Place → List Token → Place → Type 0
Gives p [] q = p ≡ q
Gives p (t ∷ ts) q = (m : Place) × Answers p (next.Token t) m × Gives m ts q

-- a token that a lexer gave
abbrev pub located : Token → Located
located t = record { token = lexeme t; start = t.start; line = t.line }

-- The first token is given and passed, or the text ends so and the lexer stays.
abbrev pub GivesFirst : Place → Next → Place → Type 0
GivesFirst old (next.Token t) new = (first old.last old.left ≡ Has (lexeme t)) × (t.start ≡ token_start old) × (t.line ≡ token_line old) × (new ≡ past_first old)
GivesFirst old next.End new = (first old.last old.left ≡ End Whole) × (new ≡ old)
GivesFirst old next.Partial new = (first old.last old.left ≡ End Unfinished) × (new ≡ old)
GivesFirst old (next.Bad start line) new = (first old.last old.left ≡ End Faulty) × (new ≡ old) × (start ≡ token_start old) × (line ≡ token_line old)

-- Bytes stand in a text that begins at the place `origin` in the line `top`: at this place and line, and not before the place `least`.
pub record IsPlaced (text : List ℕ) (origin top least start line : ℕ) (bytes : List ℕ) : Type 0 where
  pub behind : origin ≤ start
  pub not_before : least ≤ start
  pub some : 0 < length bytes
  pub within : start - origin + length bytes ≤ length text
  pub slice : bytes ≡ take (length bytes) (drop (start - origin) text)
  pub row : line ≡ top + line_feeds (take (start - origin) text)

-- Each token stands in the text, and not before the end of the token before it.
abbrev pub ArePlaced : List ℕ → ℕ → ℕ → ℕ → List Token → Type 0
ArePlaced text origin top least [] = Unit {0}
ArePlaced text origin top least (t ∷ ts) = IsPlaced text origin top least t.start t.line t.text.now × ArePlaced text origin top (t.start + length t.text.now) ts

abbrev pub AreLocated : List ℕ → ℕ → ℕ → ℕ → List Located → Type 0
AreLocated text origin top least [] = Unit {0}
AreLocated text origin top least (t ∷ ts) = IsPlaced text origin top least t.start t.line (text_of t.token) × AreLocated text origin top (t.start + length (text_of t.token)) ts

-- Tokens are the slices of the text at their places, and the places ascend: those that a lexer gives, and those that the text has.
pub record AreSlices : Type 0 where
  pub given : (text : List ℕ) (start line : ℕ) (last : Bool) (ts : List Token) (p : Place) → Gives (over text start line last) ts p → ArePlaced text start line start ts
  pub read : (text : List ℕ) (start line : ℕ) (last : Bool) (ts : List Located) (ending : Ending) → ReadsFrom (over text start line last) ts ending → AreLocated text start line start ts

-- The tokens that a lexer gives are those with which the text begins; where the text ends behind them, they are all of its tokens.
pub record RunsRead : Type 0 where
  pub begins : (p q : Place) (ts : List Token) → Gives p ts q → Begins p.last p.left (map lexeme ts) q.left × (q.last ≡ p.last)
  pub reads : (p q : Place) (ts : List Token) (ending : Ending) → Gives p ts q → first q.last q.left ≡ End ending → ReadsFrom p (map located ts) ending

-- A text reads in one way, and each of its tokens has one place and line.
pub record ReadsOnce : Type 0 where
  pub some : (last : Bool) (text : List ℕ) → (tokens : List Lexeme) × (ending : Ending) × Reads last text tokens ending
  pub one : (last : Bool) (text : List ℕ) (ts us : List Lexeme) (e f : Ending) → Reads last text ts e → Reads last text us f → (ts ≡ us) × (e ≡ f)
  pub some_from : (p : Place) → (ts : List Located) × (ending : Ending) × ReadsFrom p ts ending
  pub one_from : (p : Place) (ts us : List Located) (e f : Ending) → ReadsFrom p ts e → ReadsFrom p us f → (ts ≡ us) × (e ≡ f)
  pub same : (p : Place) (ts : List Located) (ending : Ending) → ReadsFrom p ts ending → Reads p.last p.left (tokens_of ts) ending

-- Behind the white space and comments at the front, a text is its first token and the rest.
abbrev pub FirstSplits : Type 0
FirstSplits = (last : Bool) (text : List ℕ) (t : Lexeme) → first last text ≡ Has t → text ≡ take (gap_len text) text ++ text_of t ++ rest_of last text

-- White space and whole comments before a text change nothing of what it has first; a comment with no end is whole where the text has its end, and could go on elsewhere; every other byte is no white space and no comment.
pub record ArePassedOver : Type 0 where
  pub nothing : (last : Bool) → first last [] ≡ End Whole
  pub white : (last : Bool) (b : ℕ) (text : List ℕ) → is_white b ≡ true → (first last (b ∷ text) ≡ first last text) × (rest_of last (b ∷ text) ≡ rest_of last text)
  pub comment : (last : Bool) (body text : List ℕ) (b : ℕ) → list_all (λ c. not (is_break c)) body ≡ true → is_break b ≡ true → (first last (59 ∷ body ++ b ∷ text) ≡ first last text) × (rest_of last (59 ∷ body ++ b ∷ text) ≡ rest_of last text)
  pub comment_open : (last : Bool) (body : List ℕ) → list_all (λ c. not (is_break c)) body ≡ true → first last (59 ∷ body) ≡ End (if last then Whole else Unfinished)
  pub others : (b : ℕ) (text : List ℕ) → is_white b ≡ false → b ≢ 59 → gap_len (b ∷ text) ≡ 0
