use Rattle.std.proofs.Common.{◌≡◌, ◌++◌, length, reverse}
use Rattle.sc_tree.specs.Reading.{nodes_from, nodes_below}
use Rattle.sc_tree.proofs.Preorder.{AreThere}
use Rattle.sc_tree.proofs.reading.nodes_of.Given as goal

-- the nodes read, then those below what waits, are all; what waits is there
abbrev pub invariant-loop-number : goal.invariant-loop-number
invariant-loop-number l =
    record {
      told : l.nodes.items ++ nodes_below l.places (reverse l.waiting.items) ≡ nodes_from l.places 1;
      there : AreThere l.places (reverse l.waiting.items);
    }

abbrev pub decreases-loop-number : goal.decreases-loop-number
decreases-loop-number l = length (nodes_below l.places (reverse l.waiting.items))
