use Rattle.sc_session.proofs.Proving.{proofs}
use Rattle.sc_session.proofs.laws.proofs_refute.Goals as goal

pub returns : goal.returns
returns c = proofs c.elaboration_grows_bank.ensures.fault c.stocks_stay.ensures
