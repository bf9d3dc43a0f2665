use Rattle.std.proofs.Common.{◌≡◌, ◌+◌, ◌<◌, ◌^◌, drop, length}
use Rattle.sc_base.specs.Spans.{members}
use Rattle.sc_runs.proofs.spans.count.Given as goal

abbrev pub invariant-loop-span : goal.invariant-loop-span
invariant-loop-span l = (l.sum + length (members (drop l.span-index l.spans)) ≡ length (members l.spans)) × (l.sum < 2 ^ 128)
