use Rattle.std.proofs.Common.{◌≡◌, ◌++◌, map, take}
use Rattle.sc_flatten.specs.Classes.{diff_of_pair}
use Rattle.sc_flatten.proofs.diffs.add_diffs.Given as goal

-- the elements of the pairs so far are added
abbrev pub invariant-loop-pair : goal.invariant-loop-pair
invariant-loop-pair l = l.elements ≡ l.fn.elements ++ map diff_of_pair (take l.pair-index l.pair-items)
