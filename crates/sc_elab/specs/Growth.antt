-- What stays, and what is known, as nodes are put into the bank.
use Rattle.std.specs.Prelude.{ℕ, List, [], ◌∷◌, Result, IfOk, ⊤}
use Rattle.std.specs.List.{AllByRecursion}
use Rattle.sc_terms.specs.declared.nodes.Formula.{Formula}
use Rattle.sc_terms.specs.declared.nodes.Formula.TheVariants as formulas
use Rattle.sc_terms.specs.declared.nodes.SetTerm.{SetTerm}
use Rattle.sc_terms.specs.declared.nodes.SetTerm.TheVariants as sets
use Rattle.sc_terms.specs.declared.nodes.Node.{Node}
use Rattle.sc_terms.specs.declared.nodes.Sort.{Sort}
use Rattle.sc_terms.specs.declared.nodes.Sort.TheVariants as sorts
use Rattle.sc_terms.specs.Bank.{Begins, HasSorts, IsFormulaOf, IsSetOf, IsElementOf}
use Rattle.sc_elab.specs.declared.error.ElabError.{ElabError}
use Rattle.sc_elab.specs.declared.meant.Meant.{Meant}
use Rattle.sc_elab.specs.declared.words.Operator.{Operator}
use Rattle.sc_elab.specs.declared.words.Operator.TheVariants as op
use Rattle.sc_elab.specs.States.{Outcome, Answers}

-- the new bank begins with the old one, and its constants have the sorts that are known where those of the old one do
pub record Grown (known : List Sort) (old new : List Node) : Type 0 where
  pub begins : Begins old new
  pub has_sorts : HasSorts known old → HasSorts known new

-- what a call answers for an outcome over the old bank: the same, or want of memory; what it answers is a thing of the new bank, which has grown from the old one
pub record Gives {A : Type 0} (known : List Sort) (Is : List Node → A → Type 0) (outcome : Outcome A) (old : List Node) (result : Result A ElabError) (new : List Node) : Type 0 where
  pub exact : Answers outcome result new
  pub stands : IfOk result (λ a. Is new a)
  pub grown : Grown known old new

-- the same where no constant is put, so that any sorts may be known
abbrev pub Builds : {A : Type 0} → (List Node → A → Type 0) → Outcome A → List Node → Result A ElabError → List Node → Type 0
Builds Is outcome old result new = (known : List Sort) → Gives known Is outcome old result new

-- the formula or the set term is no constant
abbrev pub IsCompound : Formula → Type 0
IsCompound (formulas.Flag n) = ⊥
IsCompound (formulas.Le row) = ⊥
IsCompound f = ⊤

abbrev pub IsCompoundSet : SetTerm → Type 0
IsCompoundSet (sets.Const c sort) = ⊥
IsCompoundSet s = ⊤

abbrev pub AreFormulas : List Node → List ℕ → Type 0
AreFormulas bank fs = AllByRecursion (IsFormulaOf bank) fs

abbrev pub AreSets : List Node → List ℕ → Type 0
AreSets bank ss = AllByRecursion (IsSetOf bank) ss

-- the number is that of a node of the bank of the sort's kind
abbrev pub IsOfSort : List Node → Sort → ℕ → Type 0
IsOfSort bank sorts.Bool n = IsFormulaOf bank n
IsOfSort bank sorts.Int n = IsElementOf bank n
IsOfSort bank (sorts.Named k) n = IsElementOf bank n
IsOfSort bank sorts.SetInt n = IsSetOf bank n
IsOfSort bank (sorts.SetNamed k) n = IsSetOf bank n

abbrev pub AreOfSort : List Node → Sort → List ℕ → Type 0
AreOfSort bank sort ns = AllByRecursion (IsOfSort bank sort) ns

-- elements, and a set as the last
abbrev pub AreInserted : List Node → List ℕ → Type 0
AreInserted bank [] = ⊤
AreInserted bank (s ∷ []) = IsSetOf bank s
AreInserted bank (e ∷ n ∷ ns) = IsElementOf bank e × AreInserted bank (n ∷ ns)

abbrev pub IsMeant : List Node → Meant → Type 0
IsMeant bank m = IsOfSort bank m.sort m.number

abbrev pub AreMeant : List Node → List Meant → Type 0
AreMeant bank ms = AllByRecursion (IsMeant bank) ms

-- the arguments' nodes are of the kinds that the operator needs, where the first argument has the sort
abbrev pub Suits : List Node → Operator → Sort → List ℕ → Type 0
Suits bank op.Not sort args = AreFormulas bank args
Suits bank op.And sort args = AreFormulas bank args
Suits bank op.Or sort args = AreFormulas bank args
Suits bank op.Implies sort args = AreFormulas bank args
Suits bank op.Xor sort args = AreFormulas bank args
Suits bank op.Equal sort args = AreOfSort bank sort args
Suits bank op.Distinct sort args = AreOfSort bank sort args
Suits bank op.Choice sort args = AreFormulas bank args
Suits bank op.Member sort (e ∷ s ∷ []) = IsElementOf bank e × IsSetOf bank s
Suits bank op.Member sort args = ⊤
Suits bank op.Subset sort args = AreSets bank args
Suits bank op.Union sort args = AreSets bank args
Suits bank op.Inter sort args = AreSets bank args
Suits bank op.Minus sort args = AreSets bank args
Suits bank op.Singleton sort args = AllByRecursion (IsElementOf bank) args
Suits bank op.Insert sort args = AreInserted bank args

-- the kind of what an operator makes
abbrev pub Makes : Operator → List Node → ℕ → Type 0
Makes op.Not bank n = IsFormulaOf bank n
Makes op.And bank n = IsFormulaOf bank n
Makes op.Or bank n = IsFormulaOf bank n
Makes op.Implies bank n = IsFormulaOf bank n
Makes op.Xor bank n = IsFormulaOf bank n
Makes op.Equal bank n = IsFormulaOf bank n
Makes op.Distinct bank n = IsFormulaOf bank n
Makes op.Choice bank n = IsFormulaOf bank n
Makes op.Member bank n = IsFormulaOf bank n
Makes op.Subset bank n = IsFormulaOf bank n
Makes op.Union bank n = IsSetOf bank n
Makes op.Inter bank n = IsSetOf bank n
Makes op.Minus bank n = IsSetOf bank n
Makes op.Singleton bank n = IsSetOf bank n
Makes op.Insert bank n = IsSetOf bank n
