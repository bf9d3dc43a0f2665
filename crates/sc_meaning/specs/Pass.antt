-- One pass over the nodes of a bank in order, which finds the values of those that are marked.
use Rattle.std.specs.Prelude.{ℕ, zero, suc, Bool, true, List, [], ◌∷◌, ◌++◌, Option, Some, ⊤}
use Rattle.sc_base.specs.Numbered.{item_at}
use Rattle.sc_terms.specs.declared.nodes.Node.{Node}
use Rattle.sc_terms.specs.Meaning.{Interpretation, Valuation}
use Rattle.sc_meaning.specs.declared.values.Worth.{Worth}
use Rattle.sc_meaning.specs.declared.values.Worth.TheVariants.{Unknown}
use Rattle.sc_meaning.specs.Marks.{marked}
use Rattle.sc_terms.specs.Under.{NodeFits}
use Rattle.sc_meaning.specs.Worths.{found, worth_by}

-- the value of a marked node by its parts' values
abbrev pub worth_if : Bool → Interpretation → Valuation → Option Node → Worth
worth_if true i v (Some x) = worth_by i v x
worth_if _ i v _ = Unknown

abbrev pub FitsIf : Bool → Valuation → Option Node → Type 0
FitsIf true v (Some x) = NodeFits v x
FitsIf _ v _ = ⊤

-- what the pass has found up to a number
abbrev pub worths_up : Interpretation → List Node → List Bool → ℕ → List Worth
worths_up i bank marks zero = []
worths_up i bank marks (suc n) =
    worths_up i bank marks n ++ worth_if (marked marks (suc n)) i (found i (worths_up i bank marks n)) (item_at bank (suc n)) ∷ []

-- and that every number that it met fits
abbrev pub FitsUp : Interpretation → List Node → List Bool → ℕ → Type 0
FitsUp i bank marks zero = ⊤
FitsUp i bank marks (suc n) =
    FitsUp i bank marks n × FitsIf (marked marks (suc n)) (found i (worths_up i bank marks n)) (item_at bank (suc n))
