use Rattle.sc_flatten.proofs.Problems.{stocks_are_problems}
use Rattle.sc_flatten.proofs.laws.stocks_are_problems.Goals as goal

pub returns : goal.returns
returns c = stocks_are_problems
