use Rattle.sc_session.proofs.Claiming.{traces_say}
use Rattle.sc_session.proofs.laws.traces_say_the_same.Goals as goal

pub returns : goal.returns
returns c = traces_say c.elaboration_grows_bank.ensures.bank c.elaboration_keeps_meaning.ensures.truth c.elaboration_grows_bank.ensures.stays
