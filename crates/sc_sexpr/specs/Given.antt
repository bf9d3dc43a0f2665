-- What a splitter gives to the end of a text, and the tokens of that text.
use Rattle.std.specs.Prelude.{◌≡◌, ℕ, true, List, [], ◌∷◌, Some, None}
use Rattle.std.specs.List.{AllZip, flat_map}
use Rattle.sc_text.specs.Readings.{Lexeme, Reads, Whole}
use Rattle.sc_sexpr.specs.declared.item.Last.TheVariants as last
use Rattle.sc_sexpr.specs.declared.item.Item.TheVariants as item
use Rattle.sc_sexpr.specs.Scans.{Piece, items_of}
use Rattle.sc_sexpr.specs.View.{View, keeping, answer}
use Rattle.sc_sexpr.specs.Walk.{IsBetween}

-- the next item that a splitter gives, however many bytes it keeps
pub record GivesNext (v : View) (p : Piece) (w : View) : Type 0 where
  pub item : (answer v).item ≡ item.Top p.line
  pub view : w ≡ keeping w.kept (answer v).view
  pub given : w.given ≡ Some p.text

-- the items that a splitter gives, one after the other, and then the end
abbrev pub GivesAll : View → List Piece → Type 0
GivesAll v [] = (answer v).item ≡ item.End
GivesAll v (p ∷ ps) = (w : View) × GivesNext v p w × GivesAll w ps

-- each item has these tokens, and nothing else but white space and comments
abbrev pub HaveTokens : List Piece → List (List Lexeme) → Type 0
HaveTokens ps tokens = AllZip (λ p ts. Reads true p.text ts Whole) ps tokens

-- The tokens of the items, one after the other, are those of the text, which ends behind them.
pub record AreItemsOf (text : List ℕ) (ps : List Piece) : Type 0 where
  pub tokens : List (List Lexeme)
  pub each : HaveTokens ps tokens
  pub all : Reads true text (flat_map (λ ts. ts) tokens) Whole

-- The items of a text without a fault have all of its tokens, and what a splitter that stands between items gives to the end has all tokens of the bytes that were not read.
pub record HaveAllTokens : Type 0 where
  pub texts : (limit : ℕ) (text : List ℕ) → (items_of limit text).last ≡ last.End → AreItemsOf text (items_of limit text).tops
  pub splitters : (v : View) → IsBetween v.state → v.text ≡ [] → v.over ≡ None → (ps : List Piece) → GivesAll v ps → AreItemsOf v.unread ps
