-- S-expressions: trees of tokens without places, and how they are printed.
use Rattle.std.specs.Prelude.{ℕ, Bool, true, false, List, [], ◌∷◌, ◌++◌, map}
use Rattle.sc_text.specs.Readings.{Lexeme, Left, Right, named, text_of}
use Rattle.sc_sexpr.specs.declared.tree.Tree.{Tree}
use Rattle.sc_sexpr.specs.Shapes.{Shape, Single, Listed, Shapes, Empty, More, shapes_of, shape}

-- a token, or a list: Nil, or its first expression and the list of the others
pub data Sexpr : Type 0 where
  Atom : Lexeme → Sexpr
  Nil : Sexpr
  Cons : Sexpr → Sexpr → Sexpr

-- the list of some expressions
abbrev pub list_of : List Sexpr → Sexpr
list_of [] = Nil
list_of (t ∷ ts) = Cons t (list_of ts)

-- a tree's shape without its places and lines
abbrev mutual
  pub plain : Shape → Sexpr
  plain (Single k text start line) = Atom (named k text)
  plain (Listed line rest) = plains rest

  pub plains : Shapes → Sexpr
  plains Empty = Nil
  plains (More s rest) = Cons (plain s) (plains rest)

-- a tree as an expression
abbrev pub expr : Tree → Sexpr
expr tree = plain (shape tree)

-- the list of some trees
abbrev pub exprs : List Tree → Sexpr
exprs trees = plains (shapes_of (map shape trees))

-- The bytes of an expression, with single spaces. `inside` says that a list is meant whose parenthesis is open, from an expression that is not its first on.
abbrev pub printed : Bool → Sexpr → List ℕ
printed false (Atom t) = text_of t
printed false Nil = 40 ∷ 41 ∷ []
printed false (Cons t ts) = 40 ∷ printed false t ++ printed true ts
printed true (Cons t ts) = 32 ∷ printed false t ++ printed true ts
printed true t = 41 ∷ []

abbrev pub bytes_of : Sexpr → List ℕ
bytes_of t = printed false t

-- the tokens of an expression, or of a list whose parenthesis is open
abbrev pub tokens : Bool → Sexpr → List Lexeme
tokens false (Atom t) = t ∷ []
tokens false Nil = Left ∷ Right ∷ []
tokens false (Cons t ts) = Left ∷ tokens false t ++ tokens true ts
tokens true (Cons t ts) = tokens false t ++ tokens true ts
tokens true t = Right ∷ []

abbrev pub tokens_of : Sexpr → List Lexeme
tokens_of t = tokens false t
