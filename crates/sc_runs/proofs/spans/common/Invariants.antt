use Rattle.std.proofs.Common.{◌≡◌, ◌+◌, ◌-◌, ◌++◌, length, drop}
use Rattle.sc_base.specs.Spans.{common}
use Rattle.sc_runs.proofs.spans.common.Given as goal

abbrev pub invariant-loop-i : goal.invariant-loop-i
invariant-loop-i l =
    l.both.items ++ common (length (drop l.i l.left) + length (drop l.j l.right)) (drop l.i l.left) (drop l.j l.right) ≡ common (length l.left + length l.right) l.left l.right

abbrev pub decreases-loop-i : goal.decreases-loop-i
decreases-loop-i l = (length l.left - l.i) + (length l.right - l.j)
