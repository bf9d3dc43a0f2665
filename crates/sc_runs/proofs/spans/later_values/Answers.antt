use Rattle.std.proofs.Common.{◌+◌, ◌-◌, ◌∙◌, ap, arith, drop}
use Rattle.sc_base.specs.Spans.{later_values}
use Rattle.sc_runs.proofs.Steps.{zero_span, IsSpan-at}
use Rattle.sc_runs.proofs.LoopSteps.{later_more}
use Rattle.sc_runs.proofs.spans.later_values.Goals as goal

pub back-requires-clause-proper : goal.back-requires-clause-proper
back-requires-clause-proper c = IsSpan-at _ c.loop-i.i zero_span c.requires c.loop-i-test.true

pub loop-i-preserved : goal.loop-i-preserved
loop-i-preserved c =
    ap (λ w. later_values (c.loop-i.left - (w + 1)) (drop (c.loop-i.i + 1) c.args.spans.now)) c.width-width.ensures
    ∙ later_more c.loop-i.left c.args.spans.now _ c.loop-i.i zero_span c.loop-i-test.true (let e = c.width-width.ensures in omega arith) c.loop-i.invariant
