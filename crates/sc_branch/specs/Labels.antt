-- The classes that the equations of a path make, and their labels.
use Rattle.std.specs.Prelude.{◌≡◌, ℕ, true, ◌&&◌, nat_le, if◌then◌else◌, List, [], ◌∷◌, length, take, ◌++◌}
use Rattle.sc_terms.specs.Conditions.{IsIn}
use Rattle.sc_facts.specs.declared.fact.Fact.{Fact}
use Rattle.sc_facts.specs.declared.fact.Fact.TheVariants as facts
use Rattle.sc_classes.specs.Classes.{Merges, IsLeastJoined, least_of}
use Rattle.sc_model.specs.Modelling.{label_in}

-- the two elements, of so many, that a fact says to be equal
abbrev pub pair_of : ℕ → Fact → List (ℕ × ℕ)
pair_of count (facts.Eq e f true) = if nat_le e f && nat_le f count then (e, f) ∷ [] else []
pair_of count _ = []

-- those that the facts of a path do, in order
abbrev pub pairs_of : ℕ → List Fact → List (ℕ × ℕ)
pairs_of count [] = []
pairs_of count (fact ∷ path) = pair_of count fact ++ pairs_of count path

-- the classes have the pairs of the first facts of the path
pub record Collects (count i : ℕ) (path : List Fact) (merges : Merges) : Type 0 where
  pub counted : merges.count ≡ count
  pub all : merges.pairs ≡ pairs_of count (take i path)

-- the labels of the elements up to a number are the least elements of their classes
pub record HasLabels (merges : Merges) (last : ℕ) (labels : List ℕ) : Type 0 where
  pub counted : length labels ≡ last
  pub least : (e : ℕ) → IsIn last e → label_in labels e ≡ least_of merges.pairs e
  pub joined : (e : ℕ) → IsIn last e → IsLeastJoined merges.pairs e (label_in labels e)
