use Rattle.std.proofs.Common.{◌≡◌}
use Rattle.sc_terms.specs.Values.{node_count}
use Rattle.sc_sorts.specs.Sorts.{sorts_within}
use Rattle.sc_sorts.specs.Walk.{sort_of}
use Rattle.sc_sorts.proofs.sorts.sort_of.Given as goal

-- the term at hand has the sort of the first one
abbrev pub invariant-loop-left : goal.invariant-loop-left
invariant-loop-left l = sort_of (sorts_within l.problem l.left) l.term ≡ sort_of (sorts_within l.fn.problem (node_count l.fn.problem)) l.fn.term

abbrev pub decreases-loop-left : goal.decreases-loop-left
decreases-loop-left l = l.left
