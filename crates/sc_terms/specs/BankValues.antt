-- What the nodes of a bank mean under an interpretation of the constants, by equations that each speak of one node and its parts.
use Rattle.std.specs.Prelude.{◌≡◌, ℕ, zero, suc, ◌≤◌, Bool, false, ℤ, pos, List, [], ◌++◌, length, Option, Some}
use Rattle.std.specs.List.{IsDistinct}
use Rattle.std.specs.Ordering.{int_eq}
use Rattle.sc_base.specs.Numbered.{item_at}
use Rattle.sc_terms.specs.declared.nodes.Element.{Element}
use Rattle.sc_terms.specs.declared.nodes.Formula.{Formula}
use Rattle.sc_terms.specs.declared.nodes.Node.{Node}
use Rattle.sc_terms.specs.declared.nodes.Node.TheVariants as nodes
use Rattle.sc_terms.specs.declared.nodes.SetTerm.{SetTerm}
use Rattle.sc_terms.specs.declared.problem.Parts.{Parts}
use Rattle.sc_terms.specs.Bank.{IsBank}
use Rattle.sc_terms.specs.Meaning.{Interpretation, IsInterpretation, Valuation, truth_of, members_of, element_of}

-- a bank has no regions, so their bases are no matter
abbrev pub no_parts : Parts
no_parts = record { roots = []; assertions = []; formulas = []; sets = []; elements = []; ints = []; components = []; bases = [] }

-- the value of a node of each kind by its parts' values in v, or false, [] or 0 where the number has no such node
abbrev pub truth_at : Interpretation → Valuation → Option Node → Bool
truth_at i v (Some (nodes.Formula f)) = truth_of no_parts i v f
truth_at i v _ = false

abbrev pub members_at : Interpretation → Valuation → Option Node → List ℤ
members_at i v (Some (nodes.Set s)) = members_of i v s
members_at i v _ = []

abbrev pub element_at : Interpretation → Valuation → Option Node → ℤ
element_at i v (Some (nodes.Element e)) = element_of no_parts i v e
element_at i v _ = pos 0

-- each node's value by its parts' values in v
abbrev pub next_bank_values : List Node → Interpretation → Valuation → Valuation
next_bank_values bank i v =
    record {
      truth = λ n. truth_at i v (item_at bank n);
      members = λ n. members_at i v (item_at bank n);
      element = λ n. element_at i v (item_at bank n);
      int = i.numbers;
    }

-- the values of nodes down to a depth
abbrev pub bank_values : List Node → Interpretation → ℕ → Valuation
bank_values bank i zero = record { truth = λ n. false; members = λ n. []; element = λ n. pos 0; int = i.numbers }
bank_values bank i (suc depth) = next_bank_values bank i (bank_values bank i depth)

-- the values that an interpretation gives the nodes of a bank, by their numbers; the Int constants have their own numbers
abbrev pub bank_meaning : List Node → Interpretation → Valuation
bank_meaning bank i = bank_values bank i (length bank)

-- the valuation gives each node what its own equation says of its parts
pub record BankFits (bank : List Node) (i : Interpretation) (v : Valuation) : Type 0 where
  pub truths : (n : ℕ) (f : Formula) → item_at bank n ≡ Some (nodes.Formula f) → v.truth n ≡ truth_of no_parts i v f
  pub sets : (n : ℕ) (s : SetTerm) → item_at bank n ≡ Some (nodes.Set s) → v.members n ≡ members_of i v s
  pub elements : (n : ℕ) (e : Element) → item_at bank n ≡ Some (nodes.Element e) → v.element n ≡ element_of no_parts i v e
  pub ints : (c : ℕ) → v.int c ≡ i.numbers c
  pub no_repeats : (n : ℕ) → IsDistinct int_eq (v.members n)

-- Each interpretation gives the nodes of a bank values that fit every node's own equation.
abbrev pub BankMeaningsFit : Type 0
BankMeaningsFit = (bank : List Node) → IsBank bank → (i : Interpretation) → IsInterpretation i → BankFits bank i (bank_meaning bank i)

-- the valuations agree at a number
pub record AgreeAt (v w : Valuation) (n : ℕ) : Type 0 where
  pub truth : v.truth n ≡ w.truth n
  pub members : v.members n ≡ w.members n
  pub element : v.element n ≡ w.element n

-- A bank that begins with another gives the other's nodes the same values.
abbrev pub MeaningsStay : Type 0
MeaningsStay = (bank more : List Node) → IsBank (bank ++ more) → (i : Interpretation) → (n : ℕ) → n ≤ length bank → AgreeAt (bank_meaning (bank ++ more) i) (bank_meaning bank i) n
