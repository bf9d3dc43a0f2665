-- The words of nodes and of facts' names.
use Rattle.std.specs.Prelude.{ℕ, if◌then◌else◌, List, [], ◌∷◌, Option, Some, None, codes}
use Rattle.std.specs.Str.{bytes_eq}
use Rattle.sc_deriv_text.specs.declared.head.OneHead.{OneHead}
use Rattle.sc_deriv_text.specs.declared.head.OneHead.TheVariants as one
use Rattle.sc_deriv_text.specs.declared.head.TwoHead.{TwoHead}
use Rattle.sc_deriv_text.specs.declared.head.TwoHead.TheVariants as two
use Rattle.sc_deriv_text.specs.declared.head.ThreeHead.{ThreeHead}
use Rattle.sc_deriv_text.specs.declared.head.ThreeHead.TheVariants as three
use Rattle.sc_deriv_text.specs.declared.head.Head.{Head}
use Rattle.sc_deriv_text.specs.declared.head.Head.TheVariants as heads
use Rattle.sc_deriv_text.specs.declared.head.NameHead.{NameHead}
use Rattle.sc_deriv_text.specs.declared.head.NameHead.TheVariants as names

abbrev pub one_word : OneHead → List ℕ
one_word one.Atom = codes "atom"
one_word one.EqRefl = codes "eqrefl"
one_word one.SeqRefl = codes "seqrefl"

abbrev pub two_word : TwoHead → List ℕ
two_word two.All = codes "all"
two_word two.Unit = codes "unit"
two_word two.Single = codes "single"
two_word two.Unsingle = codes "unsingle"
two_word two.Differ = codes "differ"

abbrev pub three_word : ThreeHead → List ℕ
three_word three.Op = codes "op"
three_word three.Carry = codes "carry"
three_word three.Apart = codes "apart"
three_word three.Move = codes "move"
three_word three.SetApart = codes "setapart"
three_word three.EqStep = codes "eqstep"
three_word three.SeqStep = codes "seqstep"

abbrev pub head_word : Head → List ℕ
head_word (heads.One h) = one_word h
head_word (heads.Two h) = two_word h
head_word (heads.Three h) = three_word h
head_word heads.Cut = codes "cut"
head_word heads.Clash = codes "clash"

abbrev pub name_word : NameHead → List ℕ
name_word names.Sign = codes "sign"
name_word names.In = codes "in"
name_word names.Eq = codes "eq"
name_word names.Seq = codes "seq"
name_word names.Empty = codes "empty"

-- the first of the heads whose word this is
abbrev pub first_word : {H : Type 0} → (H → List ℕ) → List H → List ℕ → Option H
first_word word [] w = None
first_word word (h ∷ hs) w = if bytes_eq (word h) w then Some h else first_word word hs w

abbrev pub all_heads : List Head
all_heads =
    heads.One one.Atom ∷ heads.One one.EqRefl ∷ heads.One one.SeqRefl
    ∷ heads.Two two.All ∷ heads.Two two.Unit ∷ heads.Two two.Single ∷ heads.Two two.Unsingle ∷ heads.Two two.Differ
    ∷ heads.Three three.Op ∷ heads.Three three.Carry ∷ heads.Three three.Apart ∷ heads.Three three.Move ∷ heads.Three three.SetApart ∷ heads.Three three.EqStep ∷ heads.Three three.SeqStep
    ∷ heads.Cut ∷ heads.Clash ∷ []

abbrev pub all_names : List NameHead
all_names = names.Sign ∷ names.In ∷ names.Eq ∷ names.Seq ∷ names.Empty ∷ []

unfoldable pub head_of : List ℕ → Option Head
head_of w = first_word head_word all_heads w

unfoldable pub name_of : List ℕ → Option NameHead
name_of w = first_word name_word all_names w
