use Rattle.sc_sexpr.proofs.Unique.{told}
use Rattle.sc_sexpr.proofs.laws.trees_are_told.Goals as goal

pub returns : goal.returns
returns c = told
