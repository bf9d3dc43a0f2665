use Rattle.std.proofs.Common.{sym, ◌∙◌}
use Rattle.sc_runs.proofs.Steps.{zero_span}
use Rattle.sc_runs.proofs.Joins.{left_taken, right_taken}
use Rattle.sc_runs.proofs.spans.joined.Goals as goal

pub loop-i-preserved-then-begins_first : goal.loop-i-preserved-then-begins_first
loop-i-preserved-then-begins_first c =
    left_taken _ _ c.args.left.now c.args.right.now c.loop-i.i c.loop-i.j zero_span c.loop-i-test.true c.if-j-right.true (sym c.begins_first.ensures ∙ c.if-begins_first.true) c.in_ok-push_joined.ensures c.loop-i.invariant

pub loop-i-preserved : goal.loop-i-preserved
loop-i-preserved c =
    right_taken _ _ c.args.left.now c.args.right.now c.loop-i.i c.loop-i.j zero_span c.loop-i-test.true c.if-j-right.true (sym c.begins_first.ensures ∙ c.if-begins_first.false) c.in_ok-push_joined-2.ensures c.loop-i.invariant
