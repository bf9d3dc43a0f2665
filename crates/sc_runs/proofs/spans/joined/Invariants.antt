use Rattle.std.proofs.Common.{◌+◌, ◌-◌, length, drop}
use Rattle.sc_runs.proofs.Joins.{Joins}
use Rattle.sc_runs.proofs.spans.joined.Given as goal

abbrev pub invariant-loop-i : goal.invariant-loop-i
invariant-loop-i l = Joins l.all.items (drop l.i l.left) (drop l.j l.right) l.left l.right

abbrev pub decreases-loop-i : goal.decreases-loop-i
decreases-loop-i l = (length l.left - l.i) + (length l.right - l.j)
