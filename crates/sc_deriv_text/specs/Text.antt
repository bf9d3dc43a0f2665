-- The text of a derivation, version 1.
use Rattle.std.specs.Prelude.{ℕ, List, [], ◌∷◌, ◌++◌, codes, decimal}
use Rattle.sc_deriv.specs.declared.derivation.Node.{Node}
use Rattle.sc_deriv.specs.declared.derivation.Derivation.{Derivation}
use Rattle.sc_deriv_text.specs.Sexpr.{bytes_of}
use Rattle.sc_deriv_text.specs.Spelling.{node_expr}

-- what stands before a region's word in its fact's name, and before the name in a node
abbrev pub before_cube : ℕ → List ℕ
before_cube component = codes "(empty " ++ (decimal component ++ 32 ∷ [])

abbrev pub before_name : List ℕ → List ℕ
before_name word = 40 ∷ (word ++ 32 ∷ [])

-- each node stands on a line of its own
abbrev pub node_line : Node → List ℕ
node_line node = bytes_of (node_expr node) ++ 10 ∷ []

abbrev pub node_lines : List Node → List ℕ
node_lines [] = []
node_lines (n ∷ ns) = node_line n ++ node_lines ns

abbrev pub tree_text : List Node → List ℕ
tree_text ns = codes "(derivation\n(tree\n" ++ (node_lines ns ++ codes ")\n)\n")

-- the same up to the last parenthesis
abbrev pub tree_item : List Node → List ℕ
tree_item ns = codes "(derivation\n(tree\n" ++ (node_lines ns ++ codes ")\n)")

unfoldable pub item_of : Derivation → List ℕ
item_of d = tree_item d.nodes

-- the bytes of the text of a derivation without lemmas, with its last line feed
unfoldable pub text_of : Derivation → List ℕ
text_of d = tree_text d.nodes
