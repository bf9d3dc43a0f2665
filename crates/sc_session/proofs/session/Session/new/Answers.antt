use Rattle.sc_session.proofs.Standing.{sorted_none}
use Rattle.sc_session.proofs.session.Session.new.Goals as goal

pub invariant_of-result : goal.invariant_of-result
invariant_of-result c = sorted_none c.new.result c.new-2.result c.new.ensures c.new-2.ensures
