use Rattle.sc_text.proofs.Quotations.{are_quotations}
use Rattle.sc_text.proofs.laws.tokens_are_quotations.Goals as goal

pub returns : goal.returns
returns c = are_quotations
