-- Trees as plain values, without the addresses of their tokens.
use Rattle.std.specs.Prelude.{ℕ, List, [], ◌∷◌}
use Rattle.sc_text.specs.declared.token.Kind.{Kind}
use Rattle.sc_sexpr.specs.declared.tree.Tree.{Tree}
use Rattle.sc_sexpr.specs.declared.tree.Tree.TheOpen.{Tree-F, Items-F}
use Rattle.sc_sexpr.specs.declared.tree.Tree.TheFolds.{fold-Tree}

-- a token by its kind, text, place and line, or a list by its line and its trees
mutual
  pub data Shape : Type 0 where
    Single : Kind → List ℕ → ℕ → ℕ → Shape
    Listed : ℕ → Shapes → Shape

  pub data Shapes : Type 0 where
    Empty : Shapes
    More : Shape → Shapes → Shapes

abbrev pub shapes_of : List Shape → Shapes
shapes_of [] = Empty
shapes_of (s ∷ rest) = More s (shapes_of rest)

abbrev pub shape_step : Tree-F Shape Shape → Shape
shape_step (Tree-F.Leaf t) = Single t.kind t.text.now t.start t.line
shape_step (Tree-F.List s) = s

abbrev pub shape_items : Items-F Shape Shape → Shape
shape_items items = Listed items.line (shapes_of items.trees.items)

-- what a tree is
abbrev pub shape : Tree → Shape
shape = fold-Tree Shape Shape shape_step shape_items

-- the line of the first token
abbrev pub line_of_shape : Shape → ℕ
line_of_shape (Single k text start line) = line
line_of_shape (Listed line rest) = line
