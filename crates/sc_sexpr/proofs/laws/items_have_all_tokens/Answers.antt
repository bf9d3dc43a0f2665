use Rattle.sc_sexpr.proofs.Joining.{have_all_tokens}
use Rattle.sc_sexpr.proofs.laws.items_have_all_tokens.Goals as goal

pub returns : goal.returns
returns c = have_all_tokens
