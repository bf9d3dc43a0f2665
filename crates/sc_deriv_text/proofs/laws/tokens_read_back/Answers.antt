use Rattle.sc_deriv_text.proofs.ReadBack.{tokens_read_back}
use Rattle.sc_deriv_text.proofs.laws.tokens_read_back.Goals as goal

pub returns : goal.returns
returns c = tokens_read_back
