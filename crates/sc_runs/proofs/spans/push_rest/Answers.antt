use Rattle.sc_runs.proofs.Steps.{zero_span}
use Rattle.sc_runs.proofs.Joins.{rest_next}
use Rattle.sc_runs.proofs.spans.push_rest.Goals as goal

pub loop-i-preserved : goal.loop-i-preserved
loop-i-preserved c = rest_next _ _ _ _ c.args.more.now c.loop-i.i zero_span c.loop-i-test.true c.in_ok-push_joined.ensures c.loop-i.invariant
