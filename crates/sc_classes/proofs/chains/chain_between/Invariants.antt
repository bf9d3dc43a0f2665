use Rattle.std.proofs.Common.{◌+◌, ◌-◌}
use Rattle.sc_classes.specs.Searches.{searching}
use Rattle.sc_classes.proofs.Searching.{Goes}
use Rattle.sc_classes.proofs.chains.chain_between.Given as goal

abbrev pub invariant-loop-place : goal.invariant-loop-place
invariant-loop-place l = Goes l.classes.pairs l.classes.count l.start l.goal l.place (searching l.visits.items l.marks.items)

abbrev pub decreases-loop-place : goal.decreases-loop-place
decreases-loop-place l = l.classes.count + 1 - l.place
