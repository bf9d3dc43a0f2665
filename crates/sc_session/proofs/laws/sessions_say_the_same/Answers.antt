use Rattle.sc_session.proofs.Saying.{say_the_same}
use Rattle.sc_session.proofs.laws.sessions_say_the_same.Goals as goal

pub returns : goal.returns
returns c = say_the_same c.elaboration_keeps_meaning.ensures.truth c.elaboration_grows_bank.ensures.stays c.meanings_agree.ensures
