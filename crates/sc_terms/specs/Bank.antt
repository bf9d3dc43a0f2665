-- The bank: a list of different nodes of three kinds, each of which stands on nodes before it. A node's number is its place, counted from 1.
use Rattle.std.specs.Prelude.{◌≡◌, ℕ, ◌+◌, ◌<◌, ◌≤◌, ◌^◌, Bool, true, false, ◌||◌, if◌then◌else◌, nat_lt, ℤ, unsigned_abs, List, [], ◌∷◌, ◌++◌, length, take, slice_get, Option, Some, Result, Ok, Err, ⊤}
use Rattle.std.specs.List.{list_any, position_or_len, AllByRecursion, IsDistinct}
use Rattle.sc_base.specs.Numbered.{item_at}
use Rattle.sc_terms.specs.declared.atoms.Atom.{Atom}
use Rattle.sc_terms.specs.declared.atoms.Atom.TheVariants as atoms
use Rattle.sc_terms.specs.declared.bank.BankError.{BankError}
use Rattle.sc_terms.specs.declared.bank.BankError.TheVariants.{Full, Memory}
use Rattle.sc_terms.specs.declared.nodes.Element.{Element}
use Rattle.sc_terms.specs.declared.nodes.Element.TheVariants as elements
use Rattle.sc_terms.specs.declared.nodes.Formula.{Formula}
use Rattle.sc_terms.specs.declared.nodes.Formula.TheVariants as formulas
use Rattle.sc_terms.specs.declared.nodes.Node.{Node}
use Rattle.sc_terms.specs.declared.nodes.Node.TheVariants as nodes
use Rattle.sc_terms.specs.declared.nodes.SetTerm.{SetTerm}
use Rattle.sc_terms.specs.declared.nodes.SetTerm.TheVariants as sets
use Rattle.sc_terms.specs.declared.nodes.Sort.{Sort}
use Rattle.sc_terms.specs.declared.nodes.Sort.TheVariants as sorts
use Rattle.sc_terms.specs.Forms.{IsForm}
use Rattle.sc_terms.specs.Same.{same_node}

-- how many nodes a bank holds at most
abbrev pub limit : ℕ
limit = 200000

-- ---- putting nodes
abbrev pub has_node : List Node → Node → Bool
has_node bank x = list_any (same_node x) bank

-- whether the bank takes a node: it has it, or has room for one more
abbrev pub takes : List Node → Node → Bool
takes bank x = has_node bank x || nat_lt (length bank) limit

-- the bank with a node: a new one goes last
abbrev pub with_node : List Node → Node → List Node
with_node bank x = if has_node bank x then bank else bank ++ x ∷ []

-- the number of a node in the bank with it
abbrev pub number_of : List Node → Node → ℕ
number_of bank x = position_or_len (same_node x) bank + 1

-- what putting a node into the bank answers, and the bank behind it
abbrev pub Puts : List Node → Node → Result ℕ BankError → List Node → Type 0
Puts old x (Ok n) new = (takes old x ≡ true) × (n ≡ number_of old x) × (new ≡ with_node old x)
Puts old x (Err Full) new = (takes old x ≡ false) × (new ≡ old)
Puts old x (Err Memory) new = new ≡ old

-- the new bank begins with the old one
abbrev pub Begins : List Node → List Node → Type 0
Begins old new = (more : List Node) × (new ≡ old ++ more)

-- ---- kinds of nodes
abbrev pub is_formula : Option Node → Bool
is_formula (Some (nodes.Formula f)) = true
is_formula _ = false

abbrev pub is_set : Option Node → Bool
is_set (Some (nodes.Set s)) = true
is_set _ = false

abbrev pub is_element : Option Node → Bool
is_element (Some (nodes.Element e)) = true
is_element _ = false

-- n is the number of a formula, a set term or an element of the bank
abbrev pub IsFormulaOf : List Node → ℕ → Type 0
IsFormulaOf bank n = is_formula (item_at bank n) ≡ true

abbrev pub IsSetOf : List Node → ℕ → Type 0
IsSetOf bank n = is_set (item_at bank n) ≡ true

abbrev pub IsElementOf : List Node → ℕ → Type 0
IsElementOf bank n = is_element (item_at bank n) ≡ true

-- ---- what a node stands on: its parts are nodes of the bank, of the right kinds
abbrev pub AtomStands : List Node → Atom → Type 0
AtomStands bank (atoms.Int c) = ⊤
AtomStands bank (atoms.Card s) = IsSetOf bank s
AtomStands bank (atoms.Diff e) = ⊥
AtomStands bank (atoms.Size cube) = ⊥

-- the coefficient is below 2^126 in size
abbrev pub TermStands : List Node → ℤ × Atom → Type 0
TermStands bank p = (unsigned_abs p.0 < 2 ^ 126) × AtomStands bank p.1

abbrev pub FormStands : List Node → List (ℤ × Atom) → Type 0
FormStands bank form = IsForm form × AllByRecursion (TermStands bank) form

abbrev pub FormulaStands : List Node → Formula → Type 0
FormulaStands bank formulas.True = ⊤
FormulaStands bank formulas.False = ⊤
FormulaStands bank (formulas.Flag c) = ⊤
FormulaStands bank (formulas.Not f) = IsFormulaOf bank f
FormulaStands bank (formulas.And fs) = AllByRecursion (IsFormulaOf bank) fs
FormulaStands bank (formulas.Or fs) = AllByRecursion (IsFormulaOf bank) fs
FormulaStands bank (formulas.Iff f g) = IsFormulaOf bank f × IsFormulaOf bank g
FormulaStands bank (formulas.Eq e f) = IsElementOf bank e × IsElementOf bank f
FormulaStands bank (formulas.EqSet s t) = IsSetOf bank s × IsSetOf bank t
FormulaStands bank (formulas.Member e s) = IsElementOf bank e × IsSetOf bank s
FormulaStands bank (formulas.Le row) = FormStands bank row.form

abbrev pub SetStands : List Node → SetTerm → Type 0
SetStands bank (sets.Const c sort) = ⊤
SetStands bank (sets.Empty sort) = ⊤
SetStands bank (sets.Single e) = IsElementOf bank e
SetStands bank (sets.Union s t) = IsSetOf bank s × IsSetOf bank t
SetStands bank (sets.Inter s t) = IsSetOf bank s × IsSetOf bank t
SetStands bank (sets.Minus s t) = IsSetOf bank s × IsSetOf bank t

-- a bank has no differing elements; the constant of an Int term is below 2^126 in size
abbrev pub ElementStands : List Node → Element → Type 0
ElementStands bank (elements.Const c sort) = ⊤
ElementStands bank (elements.Number affine) = FormStands bank affine.form × (unsigned_abs affine.constant < 2 ^ 126)
ElementStands bank (elements.Diff s t) = ⊥

abbrev pub NodeStands : List Node → Node → Type 0
NodeStands bank (nodes.Formula f) = FormulaStands bank f
NodeStands bank (nodes.Set s) = SetStands bank s
NodeStands bank (nodes.Element e) = ElementStands bank e

-- Nodes differ, and each stands on those before it.
pub record IsBank (bank : List Node) : Type 0 where
  pub stands : (n : ℕ) (x : Node) → slice_get bank n ≡ Some x → NodeStands (take n bank) x
  pub different : IsDistinct same_node bank
  pub few : length bank ≤ limit

-- ---- sorts of constants, where the list has the sort of each constant by its number
abbrev pub IsSetSort : Sort → Type 0
IsSetSort sorts.SetInt = ⊤
IsSetSort (sorts.SetNamed n) = ⊤
IsSetSort _ = ⊥

abbrev pub IsDeclaredSort : Sort → Type 0
IsDeclaredSort (sorts.Named n) = ⊤
IsDeclaredSort _ = ⊥

abbrev pub AtomHasSorts : List Sort → Atom → Type 0
AtomHasSorts known (atoms.Int c) = item_at known c ≡ Some sorts.Int
AtomHasSorts known _ = ⊤

abbrev pub FormHasSorts : List Sort → List (ℤ × Atom) → Type 0
FormHasSorts known form = AllByRecursion (λ p. AtomHasSorts known p.1) form

abbrev pub FormulaHasSorts : List Sort → Formula → Type 0
FormulaHasSorts known (formulas.Flag c) = item_at known c ≡ Some sorts.Bool
FormulaHasSorts known (formulas.Le row) = FormHasSorts known row.form
FormulaHasSorts known _ = ⊤

abbrev pub SetHasSorts : List Sort → SetTerm → Type 0
SetHasSorts known (sets.Const c sort) = (item_at known c ≡ Some sort) × IsSetSort sort
SetHasSorts known _ = ⊤

abbrev pub ElementHasSorts : List Sort → Element → Type 0
ElementHasSorts known (elements.Const c sort) = (item_at known c ≡ Some sort) × IsDeclaredSort sort
ElementHasSorts known (elements.Number affine) = FormHasSorts known affine.form
ElementHasSorts known _ = ⊤

abbrev pub NodeHasSorts : List Sort → Node → Type 0
NodeHasSorts known (nodes.Formula f) = FormulaHasSorts known f
NodeHasSorts known (nodes.Set s) = SetHasSorts known s
NodeHasSorts known (nodes.Element e) = ElementHasSorts known e

-- each constant of a node has the sort that the list gives it
abbrev pub HasSorts : List Sort → List Node → Type 0
HasSorts known bank = AllByRecursion (NodeHasSorts known) bank
