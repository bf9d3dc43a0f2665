use Rattle.std.proofs.Common.{◌+◌, ◌-◌, ◌++◌, ◌∙◌, ap, arith, drop}
use Rattle.sc_base.specs.Spans.{first_values}
use Rattle.sc_runs.proofs.Steps.{zero_span, IsSpan-at}
use Rattle.sc_runs.proofs.LoopSteps.{first_done, first_front, first_more}
use Rattle.sc_runs.proofs.spans.first_values.Goals as goal

pub returns-then-left-eq0 : goal.returns-then-left-eq0
returns-then-left-eq0 c = first_done _ c.loop-span.left _ _ c.if-left-eq0.true c.loop-span.invariant

pub front-requires-clause-proper : goal.front-requires-clause-proper
front-requires-clause-proper c = IsSpan-at _ c.loop-span.span-index zero_span c.requires c.loop-span-test.true

pub returns-then-left-width : goal.returns-then-left-width
returns-then-left-width c =
    let e = c.width-width.ensures in
    first_front c.loop-span.taken.items _ c.loop-span.left c.args.spans.now _ c.loop-span.span-index zero_span c.front.result c.loop-span-test.true
    (omega arith) (omega arith) c.front.ensures c.in_ok-push.ensures.items c.loop-span.invariant

pub loop-span-preserved : goal.loop-span-preserved
loop-span-preserved c =
    let e = c.width-width.ensures in
    ap (λ w. c.push-in-loop-span.new.self.items ++ first_values (c.loop-span.left - (w + 1)) (drop (c.loop-span.span-index + 1) c.args.spans.now)) e
    ∙ first_more c.loop-span.taken.items _ c.loop-span.left c.args.spans.now _ c.loop-span.span-index zero_span c.loop-span-test.true (omega arith) c.in_ok-push-2.ensures.items c.loop-span.invariant
