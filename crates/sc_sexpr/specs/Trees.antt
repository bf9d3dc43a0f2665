-- The trees of items, and their tokens.
use Rattle.std.specs.Prelude.{◌≡◌, ℕ, ◌+◌, ◌-◌, ◌<◌, Bool, true, false, ◌==◌, if◌then◌else◌, List, [], ◌∷◌, ◌++◌, Option, Some, None, length, map, take, drop}
use Rattle.sc_text.specs.declared.token.Kind.{Kind}
use Rattle.sc_text.specs.declared.token.Kind.TheVariants as kind
use Rattle.sc_text.specs.declared.token.Token.{Token}
use Rattle.sc_text.specs.declared.front.Front.TheVariants.{Nothing, Token as Found}
use Rattle.sc_text.specs.Place.{Place}
use Rattle.sc_text.specs.Fronts.{front, after_gap}
use Rattle.sc_text.specs.Bytes.{line_feeds}
use Rattle.sc_text.specs.Answers.{token_start, token_line}
use Rattle.sc_sexpr.specs.declared.tree.Tree.{Tree}
use Rattle.sc_sexpr.specs.declared.tree.Items.{Items}
use Rattle.sc_sexpr.specs.Shapes.{Shape, Single, Listed, Shapes, Empty, More, shape}

-- a token of a text: a parenthesis with the line of an opening one, or another one with its place and line
pub data Mark : Type 0 where
  Opens : ℕ → Mark
  Closes : Mark
  Word : Kind → List ℕ → ℕ → ℕ → Mark

abbrev pub mark : Kind → List ℕ → ℕ → ℕ → Mark
mark kind.Left text start line = Opens line
mark kind.Right text start line = Closes
mark k text start line = Word k text start line

abbrev pub mark_of : Token → Mark
mark_of t = mark t.kind t.text.now t.start t.line

-- the tokens of lists of tokens, one after another
abbrev pub joined : List (List Mark) → List Mark
joined [] = []
joined (ms ∷ rest) = ms ++ joined rest

-- the tokens of a tree: a leaf is one token, and a list stands between its parentheses
abbrev mutual
  pub marks_of : Shape → List Mark
  marks_of (Single k text start line) = Word k text start line ∷ []
  marks_of (Listed line rest) = Opens line ∷ marks_within rest ++ Closes ∷ []

  pub marks_within : Shapes → List Mark
  marks_within Empty = []
  marks_within (More s rest) = marks_of s ++ marks_within rest

abbrev pub marks : Tree → List Mark
marks t = marks_of (shape t)

abbrev pub marks_of_all : List Tree → List Mark
marks_of_all trees = joined (map marks trees)

-- the tokens of a list that is open
abbrev pub open_marks : Items → List Mark
open_marks items = Opens items.line ∷ marks_of_all items.trees.items

abbrev pub all_open_marks : List Items → List Mark
all_open_marks lists = joined (map open_marks lists)

-- where a lexer stands behind a token of n bytes
abbrev pub behind_token : Place → ℕ → Place
behind_token p n = record { left = drop n (after_gap p.left); start = token_start p + n; line = token_line p + line_feeds (take n (after_gap p.left)); last = p.last }

-- the tokens from a place to the end of the text
abbrev pub Tokens : Place → List Mark → Type 0
Tokens p [] = front p.last p.left ≡ Nothing
Tokens p (m ∷ ms) = (k : Kind) × (n : ℕ) × (front p.last p.left ≡ Found k n) × (m ≡ mark k (take n (after_gap p.left)) (token_start p) (token_line p)) × Tokens (behind_token p n) ms

-- Where so many lists are open and a tree has ended, the item ends with the tokens, and not before.
abbrev pub ends_item : ℕ → Bool → Bool → Bool
ends_item d none other = if d == 0 then none else other

abbrev pub is_none : List Mark → Bool
is_none [] = true
is_none (m ∷ ms) = false

-- the tokens close so many open lists, at the last of them and not before
abbrev pub closes : ℕ → List Mark → Bool
closes d [] = false
closes d (Opens line ∷ ms) = closes (d + 1) ms
closes d (Closes ∷ ms) = if d == 0 then false else ends_item (d - 1) (is_none ms) (closes (d - 1) ms)
closes d (Word k text start line ∷ ms) = ends_item d (is_none ms) (closes d ms)

abbrev pub place_of : List ℕ → ℕ → Place
place_of text line = record { left = text; start = 0; line = line; last = true }

-- the text is one item
abbrev pub IsItem : List ℕ → ℕ → Type 0
IsItem text line = (ms : List Mark) × Tokens (place_of text line) ms × (closes 0 ms ≡ true)

-- The tokens determine the tree, and a text its tokens.
pub record AreTold : Type 0 where
  pub trees : (s t : Tree) → marks s ≡ marks t → shape s ≡ shape t
  pub texts : (p : Place) (s t : Tree) → Tokens p (marks s) → Tokens p (marks t) → shape s ≡ shape t

-- A tree goes to the end of the innermost of the open lists; where none is open, it comes back.
abbrev pub Puts : List Items → List Mark → Option Tree → List Items → Type 0
Puts old ms None new = (all_open_marks new ≡ all_open_marks old ++ ms) × (length new ≡ length old) × (0 < length old)
Puts old ms (Some t) new = (marks t ≡ ms) × (length old ≡ 0)

-- how many lists are open behind a token
abbrev pub depth_after : ℕ → Mark → ℕ
depth_after d (Opens line) = d + 1
depth_after d Closes = d - 1
depth_after d (Word k text start line) = d

-- a token that closes a list has one to close
abbrev pub Fits : ℕ → Mark → Type 0
Fits d Closes = 0 < d
Fits d m = Unit {0}

abbrev pub is_opening : Mark → Bool
is_opening (Opens line) = true
is_opening m = false

-- the open lists behind a token, or the tree that it ends
abbrev pub Takes : List Items → Mark → Option Tree → List Items → Type 0
Takes old m None new = (all_open_marks new ≡ all_open_marks old ++ m ∷ []) × (length new ≡ depth_after (length old) m) × (is_opening m ≡ false → 0 < length new)
Takes old m (Some t) new = (marks t ≡ all_open_marks old ++ m ∷ []) × (is_opening m ≡ false) × (depth_after (length old) m ≡ 0)
