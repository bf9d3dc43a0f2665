-- How a derivation is spelt: its expression.
use Rattle.std.specs.Prelude.{ℕ, ◌<◌, ◌^◌, List, [], ◌∷◌, map, decimal, codes}
use Rattle.std.specs.List.{AllByRecursion}
use Rattle.sc_text.specs.Readings.{Numeral, Word}
use Rattle.sc_terms.specs.declared.atoms.Sign.{Sign}
use Rattle.sc_terms.specs.declared.atoms.Sign.TheVariants as signs
use Rattle.sc_terms.specs.declared.atoms.Cube.{Cube}
use Rattle.sc_facts.specs.declared.name.FactName.{FactName}
use Rattle.sc_facts.specs.declared.name.FactName.TheVariants as names
use Rattle.sc_rules.specs.declared.step.PlainStep.{PlainStep}
use Rattle.sc_rules.specs.declared.step.PlainStep.TheVariants as plain
use Rattle.sc_deriv.specs.declared.derivation.Step.TheVariants as steps
use Rattle.sc_deriv.specs.declared.derivation.Closing.TheVariants as closings
use Rattle.sc_deriv.specs.declared.derivation.Node.{Node}
use Rattle.sc_deriv.specs.declared.derivation.Node.TheVariants as nodes
use Rattle.sc_deriv.specs.declared.derivation.Derivation.{Derivation}
use Rattle.sc_deriv_text.specs.declared.head.OneHead.{OneHead}
use Rattle.sc_deriv_text.specs.declared.head.OneHead.TheVariants as one
use Rattle.sc_deriv_text.specs.declared.head.TwoHead.{TwoHead}
use Rattle.sc_deriv_text.specs.declared.head.TwoHead.TheVariants as two
use Rattle.sc_deriv_text.specs.declared.head.ThreeHead.{ThreeHead}
use Rattle.sc_deriv_text.specs.declared.head.ThreeHead.TheVariants as three
use Rattle.sc_deriv_text.specs.declared.head.Head.TheVariants as heads
use Rattle.sc_deriv_text.specs.declared.head.NameHead.TheVariants as kinds
use Rattle.sc_deriv_text.specs.Words.{head_word, name_word}
use Rattle.sc_deriv_text.specs.Sexpr.{Sexpr, Atom, list_of}

-- a list that begins with a word
abbrev pub form : List ℕ → List Sexpr → Sexpr
form word parts = list_of (Atom (Word word) ∷ parts)

abbrev pub numeral_expr : ℕ → Sexpr
numeral_expr n = Atom (Numeral (decimal n))

abbrev pub sign_byte : Sign → ℕ
sign_byte signs.Plus = 43
sign_byte signs.Minus = 45

-- a region's word is one token
abbrev pub cube_bytes : List Sign → List ℕ
cube_bytes word = map sign_byte word

abbrev pub cube_expr : List Sign → Sexpr
cube_expr word = Atom (Word (cube_bytes word))

abbrev pub empty_expr : Cube → Sexpr
empty_expr cube = form (name_word kinds.Empty) (numeral_expr cube.component ∷ cube_expr cube.signs ∷ [])

abbrev pub name_expr : FactName → Sexpr
name_expr (names.Sign f) = form (name_word kinds.Sign) (numeral_expr f ∷ [])
name_expr (names.Member e s) = form (name_word kinds.In) (numeral_expr e ∷ numeral_expr s ∷ [])
name_expr (names.Eq e f) = form (name_word kinds.Eq) (numeral_expr e ∷ numeral_expr f ∷ [])
name_expr (names.EqSet s t) = form (name_word kinds.Seq) (numeral_expr s ∷ numeral_expr t ∷ [])
name_expr (names.Empty cube) = empty_expr cube

-- a node's word with its arguments, by their kinds
pub data Part : Type 0 where
  One : OneHead → ℕ → Part
  Two : TwoHead → ℕ → ℕ → Part
  Three : ThreeHead → ℕ → ℕ → ℕ → Part
  Cut : FactName → Part
  Clash : FactName → Part

abbrev pub part_expr : Part → Sexpr
part_expr (One h a) = form (head_word (heads.One h)) (numeral_expr a ∷ [])
part_expr (Two h a b) = form (head_word (heads.Two h)) (numeral_expr a ∷ numeral_expr b ∷ [])
part_expr (Three h a b c) = form (head_word (heads.Three h)) (numeral_expr a ∷ numeral_expr b ∷ numeral_expr c ∷ [])
part_expr (Cut name) = form (head_word heads.Cut) (name_expr name ∷ [])
part_expr (Clash name) = form (head_word heads.Clash) (name_expr name ∷ [])

abbrev pub step_part : PlainStep → Part
step_part (plain.Atom f) = One one.Atom f
step_part (plain.All f p) = Two two.All f p
step_part (plain.Unit f p) = Two two.Unit f p
step_part (plain.Cut name) = Cut name
step_part (plain.Op e s p) = Three three.Op e s p
step_part (plain.Single e s) = Two two.Single e s
step_part (plain.Unsingle e s) = Two two.Unsingle e s
step_part (plain.Carry e f s) = Three three.Carry e f s
step_part (plain.Apart e f s) = Three three.Apart e f s
step_part (plain.Move e s t) = Three three.Move e s t
step_part (plain.SetApart e s t) = Three three.SetApart e s t
step_part (plain.EqRefl e) = One one.EqRefl e
step_part (plain.EqStep e f g) = Three three.EqStep e f g
step_part (plain.SeqRefl s) = One one.SeqRefl s
step_part (plain.SeqStep s t u) = Three three.SeqStep s t u
step_part (plain.Differ s t) = Two two.Differ s t

abbrev pub node_part : Node → Part
node_part (nodes.Step (steps.Plain step)) = step_part step
node_part (nodes.Closing (closings.Clash name)) = Clash name

abbrev pub node_expr : Node → Sexpr
node_expr node = part_expr (node_part node)

abbrev pub node_exprs : List Node → List Sexpr
node_exprs ns = map node_expr ns

-- the tree of some nodes, as a derivation's only part
abbrev pub tree_expr : List Node → Sexpr
tree_expr ns = form (codes "derivation") (form (codes "tree") (node_exprs ns) ∷ [])

-- a derivation without lemmas
abbrev pub derivation_expr : Derivation → Sexpr
derivation_expr d = tree_expr d.nodes

-- ---- the numbers are those that a name or node holds, of 32 bits

abbrev pub NameFits : FactName → Type 0
NameFits (names.Sign f) = f < 2 ^ 32
NameFits (names.Member e s) = (e < 2 ^ 32) × (s < 2 ^ 32)
NameFits (names.Eq e f) = (e < 2 ^ 32) × (f < 2 ^ 32)
NameFits (names.EqSet s t) = (s < 2 ^ 32) × (t < 2 ^ 32)
NameFits (names.Empty cube) = cube.component < 2 ^ 32

abbrev pub PartFits : Part → Type 0
PartFits (One h a) = a < 2 ^ 32
PartFits (Two h a b) = (a < 2 ^ 32) × (b < 2 ^ 32)
PartFits (Three h a b c) = (a < 2 ^ 32) × (b < 2 ^ 32) × (c < 2 ^ 32)
PartFits (Cut name) = NameFits name
PartFits (Clash name) = NameFits name

abbrev pub NodeFits : Node → Type 0
NodeFits node = PartFits (node_part node)

abbrev pub Fits : Derivation → Type 0
Fits d = AllByRecursion NodeFits d.nodes
