use Rattle.sc_flatten.proofs.PlainForms.{stocks_have_plain_forms}
use Rattle.sc_flatten.proofs.laws.stocks_have_plain_forms.Goals as goal

pub returns : goal.returns
returns c = stocks_have_plain_forms
