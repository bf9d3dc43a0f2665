use Rattle.sc_flatten.proofs.Unnamed.{stocks_name_no_diffs}
use Rattle.sc_flatten.proofs.laws.stocks_name_no_diffs.Goals as goal

pub returns : goal.returns
returns c = stocks_name_no_diffs
