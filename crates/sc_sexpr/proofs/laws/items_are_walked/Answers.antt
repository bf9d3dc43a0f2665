use Rattle.sc_sexpr.proofs.Walked.{walked}
use Rattle.sc_sexpr.proofs.laws.items_are_walked.Goals as goal

pub returns : goal.returns
returns c = walked
