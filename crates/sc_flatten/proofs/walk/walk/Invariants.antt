use Rattle.std.proofs.Common.{◌+◌, length}
use Rattle.sc_flatten.proofs.Walking.{WalkStands, unmet}
use Rattle.sc_flatten.proofs.walk.walk.Given as goal

abbrev pub invariant-loop-number : goal.invariant-loop-number
invariant-loop-number l = WalkStands l.bank l.assertions l.met.keys l.pending

-- each visit takes one from what is pending, and adds the parts of a node that wasn't met
abbrev pub decreases-loop-number : goal.decreases-loop-number
decreases-loop-number l = length l.pending + unmet l.bank (length l.bank) l.met.keys
