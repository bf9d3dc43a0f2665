-- Values that are tried on the assertions.
use Rattle.std.specs.Prelude.{ℕ, List}
use Rattle.sc_terms.specs.declared.nodes.Node.{Node}
use Rattle.sc_terms.specs.Meaning.{Valuation, AllTrue}
use Rattle.sc_terms.specs.Under.{FitUnder}

-- The assertions are true, and each number that their evaluation meets fits 128 bits.
pub record IsRight (bank : List Node) (assertions : List ℕ) (v : Valuation) : Type 0 where
  pub holds : AllTrue v assertions
  pub fits : FitUnder bank assertions v
