use Rattle.std.proofs.Common.{◌≡◌, drop}
use Rattle.sc_deriv.specs.Acceptance.{hypotheses_of}
use Rattle.sc_deriv.specs.Judging.{judge}
use Rattle.sc_deriv.proofs.checker.judge.Given as goal

-- the judgement of the nodes that are left, over the open paths, is that of all
abbrev pub invariant-loop-node : goal.invariant-loop-node
invariant-loop-node l =
    record {
      told : judge l.problem (hypotheses_of l.lemmas) l.walk (drop l.node-index l.nodes) l.number ≡ judge l.problem (hypotheses_of l.lemmas) l.fn.walk l.nodes 0;
      count : l.number ≡ l.node-index;
    }
