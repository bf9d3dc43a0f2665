use Rattle.sc_session.proofs.Refusing.{refusals_leave}
use Rattle.sc_session.proofs.laws.refusals_leave_sessions.Goals as goal

pub returns : goal.returns
returns c = refusals_leave c.elaboration_grows_bank.ensures.fault
