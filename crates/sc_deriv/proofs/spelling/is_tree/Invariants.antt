use Rattle.std.proofs.Common.{◌≡◌, ◌+◌, ◌≤◌, drop}
use Rattle.sc_deriv.specs.Spelling.{closes}
use Rattle.sc_deriv.proofs.spelling.is_tree.Given as goal

-- the trees that are open close with the nodes that are left exactly where one closes with all
abbrev pub invariant-loop-node : goal.invariant-loop-node
invariant-loop-node l =
    record {
      told : closes l.open_count (drop l.node-index l.nodes) ≡ closes 1 l.nodes;
      most : l.open_count ≤ l.node-index + 1;
    }
