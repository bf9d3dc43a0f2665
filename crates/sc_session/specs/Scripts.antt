-- A script: the top items of a text as trees, and how the text ends.
use Rattle.std.specs.Prelude.{◌≡◌, ℕ, List, [], ◌∷◌, ⊤}
use Rattle.sc_sexpr.specs.declared.item.Last.{Last}
use Rattle.sc_sexpr.specs.Scans.{Piece, Reading, items_of}
use Rattle.sc_sexpr.specs.Shapes.{Shape}
use Rattle.sc_sexpr.specs.Trees.{marks_of, Tokens, place_of}

-- the most bytes of a script
abbrev pub most_bytes : ℕ
most_bytes = 16777216

-- a top item as a tree, and the line of its first token
pub record Item : Type 0 where
  pub shape : Shape
  pub line : ℕ

pub record Script : Type 0 where
  pub items : List Item
  pub last : Last

-- the tokens of the item's bytes are those of the tree
pub record IsTold (p : Piece) (i : Item) : Type 0 where
  pub tokens : Tokens (place_of p.text p.line) (marks_of i.shape)
  pub line : i.line ≡ p.line

-- each item as a tree
abbrev pub AreTold : List Piece → List Item → Type 0
AreTold [] [] = ⊤
AreTold (p ∷ ps) (i ∷ is) = IsTold p i × AreTold ps is
AreTold [] (i ∷ is) = ⊥
AreTold (p ∷ ps) [] = ⊥

-- the script has these items as trees, and their end
pub record IsScriptOf (r : Reading) (s : Script) : Type 0 where
  pub items : AreTold r.tops s.items
  pub last : s.last ≡ r.last

-- The text is this script: at most so many of its bytes are read.
abbrev pub Reads : List ℕ → Script → Type 0
Reads text s = IsScriptOf (items_of most_bytes text) s
