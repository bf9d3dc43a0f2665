-- What elaboration goes through, and what it comes to.
use Rattle.std.specs.Prelude.{◌≡◌, ℕ, if◌then◌else◌, List, [], ◌∷◌, Result, Ok, Err, ⊤}
use Rattle.sc_text.specs.declared.code.Code.{Code}
use Rattle.sc_text.specs.declared.code.Code.TheVariants as code
use Rattle.sc_terms.specs.declared.nodes.Node.{Node}
use Rattle.sc_terms.specs.declared.nodes.Node.TheVariants as nodes
use Rattle.sc_terms.specs.declared.nodes.Formula.{Formula}
use Rattle.sc_terms.specs.declared.nodes.SetTerm.{SetTerm}
use Rattle.sc_terms.specs.Bank.{takes, number_of, with_node, limit}
use Rattle.sc_terms.specs.declared.bank.BankError.{BankError}
use Rattle.sc_terms.specs.declared.bank.BankError.TheVariants as bank_errors
use Rattle.sc_stack.specs.Names.{Names}
use Rattle.sc_elab.specs.declared.error.ElabError.{ElabError}
use Rattle.sc_elab.specs.declared.error.ElabError.TheVariants as errors

-- the bank, and the names in force
pub record State : Type 0 where
  pub bank : List Node
  pub names : Names

abbrev pub state_of : List Node → Names → State
state_of bank names = record { bank = bank; names = names }

-- what is found, or the first fault, each with the bank behind it: what was put before a fault stays
pub data Outcome (A : Type 0) : Type 0 where
  Done : A → List Node → Outcome A
  Fault : Code → List Node → Outcome A

-- one after the other, up to the first fault
abbrev pub bind : {A B : Type 0} → Outcome A → (A → List Node → Outcome B) → Outcome B
bind (Done a bank) f = f a bank
bind (Fault fault bank) f = Fault fault bank

-- what each item comes to, from the first to the last
abbrev pub each : {X A : Type 0} → (X → List Node → Outcome A) → List X → List Node → Outcome (List A)
each f [] bank = Done [] bank
each f (x ∷ xs) bank = bind (f x bank) (λ a b. bind (each f xs b) (λ more c. Done (a ∷ more) c))

-- the number of a node that is put into the bank, which takes it unless it is new and the bank is full
abbrev pub put : Node → List Node → Outcome ℕ
put x bank = if takes bank x then Done (number_of bank x) (with_node bank x) else Fault (code.E16 limit) bank

abbrev pub put_formula : Formula → List Node → Outcome ℕ
put_formula f bank = put (nodes.Formula f) bank

abbrev pub put_set : SetTerm → List Node → Outcome ℕ
put_set s bank = put (nodes.Set s) bank

-- what the code answers where the definition has this outcome, and the bank behind it: the same, or want of memory
abbrev pub Answers : {A : Type 0} → Outcome A → Result A ElabError → List Node → Type 0
Answers outcome (Ok a) bank = outcome ≡ Done a bank
Answers outcome (Err (errors.Fault fault)) bank = outcome ≡ Fault fault bank
Answers outcome (Err errors.Memory) bank = ⊤

-- why a node is not put
abbrev pub put_error : BankError → ElabError
put_error bank_errors.Full = errors.Fault (code.E16 limit)
put_error bank_errors.Memory = errors.Memory
