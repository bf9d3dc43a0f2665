use Rattle.std.proofs.Common.{◌≡◌, take}
use Rattle.sc_pool.specs.Pools.{first_where}
use Rattle.sc_pool.specs.Index.{stands_among}
use Rattle.sc_pool.proofs.pool.Pool.applies.Given as goal

-- the first of those whose last hypothesis is one of the facts so far
abbrev pub invariant-loop-fact : goal.invariant-loop-fact
invariant-loop-fact l = l.least ≡ first_where (stands_among l.path.facts (take l.fact-index l.path.facts)) l.self
