use Rattle.sc_session.proofs.Along.{goes_along}
use Rattle.sc_session.proofs.laws.traces_go_along.Goals as goal

pub returns : goal.returns
returns c = goes_along
