use Rattle.sc_deriv_text.proofs.TextTokens.{items_have_tokens}
use Rattle.sc_deriv_text.proofs.laws.items_have_tokens.Goals as goal

pub returns : goal.returns
returns c = items_have_tokens
