use Rattle.sc_pool.specs.Index.{up_to}
use Rattle.sc_pool.proofs.Tables.{IsUnderWay}
use Rattle.sc_pool.proofs.pool.Pool.least_under.Given as goal

abbrev pub invariant-loop-next : goal.invariant-loop-next
invariant-loop-next l = IsUnderWay l.path.facts l.fact l.self l.next l.least

abbrev pub decreases-loop-next : goal.decreases-loop-next
decreases-loop-next l = up_to l.next
