-- Writing and reading belong together.
use Rattle.std.specs.Prelude.{◌≡◌, ◌↔◌, ℕ, true, List, [], ◌∷◌, ◌++◌, Ok}
use Rattle.sc_text.specs.Readings.{Begins, Reads, Whole}
use Rattle.sc_sexpr.specs.declared.tree.Tree.{Tree}
use Rattle.sc_sexpr.specs.Shapes.{Shape, shape}
use Rattle.sc_sexpr.specs.Trees.{Tokens, place_of, marks}
use Rattle.sc_deriv.specs.declared.derivation.Derivation.{Derivation}
use Rattle.sc_deriv.specs.Spelling.{IsSpelt}
use Rattle.sc_deriv_text.specs.Sexpr.{plain, tokens_of}
use Rattle.sc_deriv_text.specs.Spelling.{derivation_expr, Fits}
use Rattle.sc_deriv_text.specs.Reading.{reading}
use Rattle.sc_deriv_text.specs.Text.{item_of, text_of}

-- A tree is read as a derivation exactly where it is the expression that spells it, and it can be written down.
abbrev pub ReadsExactly : Type 0
ReadsExactly = (s : Shape) (d : Derivation) → (reading s ≡ Ok d) ↔ (IsSpelt d × Fits d × (plain s ≡ derivation_expr d))

-- The text of a derivation has the tokens of the expression that spells it.
abbrev pub TextsHaveTokens : Type 0
TextsHaveTokens = (d : Derivation) → IsSpelt d → Fits d → Reads true (text_of d) (tokens_of (derivation_expr d)) Whole

-- Whatever tree has the tokens of a derivation's text is read as that derivation.
abbrev pub TextsReadBack : Type 0
TextsReadBack = (d : Derivation) → IsSpelt d → Fits d → (line : ℕ) (tree : Tree) → Tokens (place_of (text_of d) line) (marks tree) → reading (shape tree) ≡ Ok d

-- The text is its item and a line feed; and whatever follows an item, it begins with the tokens of the expression that spells the derivation.
abbrev pub ItemsHaveTokens : Type 0
ItemsHaveTokens = (d : Derivation) → (text_of d ≡ item_of d ++ 10 ∷ []) × (IsSpelt d → Fits d → (rest : List ℕ) → Begins true (item_of d ++ rest) (tokens_of (derivation_expr d)) rest)

-- Whatever tree has the tokens of a text that reads as the tokens of the expression is read as that derivation.
abbrev pub TokensReadBack : Type 0
TokensReadBack = (d : Derivation) → IsSpelt d → Fits d → (text : List ℕ) (line : ℕ) (tree : Tree) → Reads true text (tokens_of (derivation_expr d)) Whole → Tokens (place_of text line) (marks tree) → reading (shape tree) ≡ Ok d
