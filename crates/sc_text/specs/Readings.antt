-- The tokens of a text, one after the other.
use Rattle.std.specs.Prelude.{◌≡◌, ℕ, ◌+◌, Bool, List, [], ◌∷◌, map, take, drop}
use Rattle.sc_text.specs.declared.token.Kind.{Kind}
use Rattle.sc_text.specs.declared.token.Kind.TheVariants as kind
use Rattle.sc_text.specs.declared.token.Token.{Token as Placed}
use Rattle.sc_text.specs.declared.front.Front.{Front}
use Rattle.sc_text.specs.declared.front.Front.TheVariants.{Nothing, Token as Found, Open, Broken}
use Rattle.sc_text.specs.Place.{Place}
use Rattle.sc_text.specs.Bytes.{line_feeds}
use Rattle.sc_text.specs.Fronts.{front, after_gap}
use Rattle.sc_text.specs.Answers.{token_start, token_line}

-- a token without its place: its kind and, save for a parenthesis, its bytes
pub data Lexeme : Type 0 where
  Left : Lexeme
  Right : Lexeme
  Numeral : List ℕ → Lexeme
  Foreign : List ℕ → Lexeme
  Literal : List ℕ → Lexeme
  Word : List ℕ → Lexeme
  Quoted : List ℕ → Lexeme
  Keyword : List ℕ → Lexeme

-- the token of this kind and text
abbrev pub named : Kind → List ℕ → Lexeme
named kind.Left text = Left
named kind.Right text = Right
named kind.Numeral text = Numeral text
named kind.Foreign text = Foreign text
named kind.Literal text = Literal text
named kind.Word text = Word text
named kind.Quoted text = Quoted text
named kind.Keyword text = Keyword text

-- the bytes of a token
abbrev pub text_of : Lexeme → List ℕ
text_of Left = 40 ∷ []
text_of Right = 41 ∷ []
text_of (Numeral text) = text
text_of (Foreign text) = text
text_of (Literal text) = text
text_of (Word text) = text
text_of (Quoted text) = text
text_of (Keyword text) = text

-- a token that a lexer gave, without its place
abbrev pub lexeme : Placed → Lexeme
lexeme t = named t.kind t.text.now

-- How a text ends behind its tokens: in white space and whole comments; in bytes that begin no token or one that can't be finished; in a token or comment that could go on.
pub data Ending : Type 0 where
  Whole : Ending
  Faulty : Ending
  Unfinished : Ending

-- What a text has first: a token, or its ending.
pub data First : Type 0 where
  Token : Lexeme → First
  End : Ending → First

-- what is first, by what stands at the front and the bytes there
abbrev pub first_of : Front → List ℕ → First
first_of Nothing bytes = End Whole
first_of (Found k n) bytes = Token (named k (take n bytes))
first_of Open bytes = End Unfinished
first_of Broken bytes = End Faulty

unfoldable pub first : Bool → List ℕ → First
first last text = first_of (front last text) (after_gap text)

-- how many bytes the token at the front takes
abbrev pub taken : Front → ℕ
taken (Found k n) = n
taken f = 0

-- what follows the first token
unfoldable pub rest_of : Bool → List ℕ → List ℕ
rest_of last text = drop (taken (front last text)) (after_gap text)

-- The text has these tokens in this order, and then it ends so. `last` says that no more bytes follow the text.
abbrev pub Reads : Bool → List ℕ → List Lexeme → Ending → Type 0
Reads last text [] ending = first last text ≡ End ending
Reads last text (token ∷ tokens) ending = (first last text ≡ Token token) × Reads last (rest_of last text) tokens ending

-- The text begins with these tokens, and this is left behind them.
abbrev pub Begins : Bool → List ℕ → List Lexeme → List ℕ → Type 0
Begins last text [] rest = text ≡ rest
Begins last text (token ∷ tokens) rest = (first last text ≡ Token token) × Begins last (rest_of last text) tokens rest

-- a token with its place and line
pub record Located : Type 0 where
  pub token : Lexeme
  pub start : ℕ
  pub line : ℕ

-- where a lexer stands behind the first token
abbrev pub past_first : Place → Place
past_first p = record {
  left = rest_of p.last p.left;
  start = token_start p + taken (front p.last p.left);
  line = token_line p + line_feeds (take (taken (front p.last p.left)) (after_gap p.left));
  last = p.last;
}

-- From this place on there are these tokens, each at its place and line, and then the text ends so.
abbrev pub ReadsFrom : Place → List Located → Ending → Type 0
ReadsFrom p [] ending = first p.last p.left ≡ End ending
ReadsFrom p (t ∷ ts) ending = (first p.last p.left ≡ Token t.token) × (t.start ≡ token_start p) × (t.line ≡ token_line p) × ReadsFrom (past_first p) ts ending

abbrev pub tokens_of : List Located → List Lexeme
tokens_of ts = map (λ t. t.token) ts
