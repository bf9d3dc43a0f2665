use Rattle.sc_flatten.proofs.Differing.{stocks_have_diffs}
use Rattle.sc_flatten.proofs.laws.stocks_have_diffs.Goals as goal

pub returns : goal.returns
returns c = stocks_have_diffs
