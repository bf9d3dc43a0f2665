use Rattle.sc_session.proofs.Keeping.{traces_keep}
use Rattle.sc_session.proofs.laws.traces_keep_formulas.Goals as goal

pub returns : goal.returns
returns c = traces_keep c.elaboration_grows_bank.ensures.bank
