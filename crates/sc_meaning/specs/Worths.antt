-- What has been found out of the nodes' values, as a valuation.
use Rattle.std.specs.Prelude.{◌≡◌, ℕ, Bool, false, ℤ, pos, List, [], Option, Some, ⊤}
use Rattle.sc_base.specs.Integers.{in_order}
use Rattle.sc_base.specs.Numbered.{item_at}
use Rattle.sc_terms.specs.declared.nodes.Element.TheVariants as elements
use Rattle.sc_terms.specs.declared.nodes.Node.{Node}
use Rattle.sc_terms.specs.declared.nodes.Node.TheVariants as nodes
use Rattle.sc_terms.specs.BankValues.{no_parts}
use Rattle.sc_terms.specs.Meaning.{Interpretation, Valuation, truth_of, members_of, element_of}
use Rattle.sc_meaning.specs.declared.values.Worth.{Worth}
use Rattle.sc_meaning.specs.declared.values.Worth.TheVariants.{Flag, Number, Set}

abbrev pub flag_in : Option Worth → Bool
flag_in (Some (Flag b)) = b
flag_in _ = false

abbrev pub number_in : Option Worth → ℤ
number_in (Some (Number z)) = z
number_in _ = pos 0

abbrev pub members_in : Option Worth → List ℤ
members_in (Some (Set xs)) = xs
members_in _ = []

-- the values found, by the nodes' numbers; a set's members are in ascending order
abbrev pub found : Interpretation → List Worth → Valuation
found i worths =
    record {
      truth = λ n. flag_in (item_at worths n);
      members = λ n. members_in (item_at worths n);
      element = λ n. number_in (item_at worths n);
      int = i.numbers;
    }

-- a node's value by its parts' values in v
abbrev pub worth_by : Interpretation → Valuation → Node → Worth
worth_by i v (nodes.Formula f) = Flag (truth_of no_parts i v f)
worth_by i v (nodes.Set s) = Set (in_order (members_of i v s))
worth_by i v (nodes.Element e) = Number (element_of no_parts i v e)

-- a node that is no differing element
abbrev pub IsPlain : Node → Type 0
IsPlain (nodes.Element (elements.Diff s t)) = ⊥
IsPlain _ = ⊤

-- w has the values of v at the number, a set's members in ascending order
pub record Matches (v w : Valuation) (n : ℕ) : Type 0 where
  pub truth : w.truth n ≡ v.truth n
  pub members : w.members n ≡ in_order (v.members n)
  pub element : w.element n ≡ v.element n
