use Rattle.sc_base.proofs.Members.{IsAscending-members}
use Rattle.sc_runs.proofs.runs.Runs.spans.Goals as goal

pub returns-clause-ascending : goal.returns-clause-ascending
returns-clause-ascending c = rw (← c.self.view_is) (IsAscending-members _ c.self.invariant.apart)
