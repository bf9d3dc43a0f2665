use Rattle.std.proofs.Common.{◌≡◌, drop}
use Rattle.sc_deriv.specs.Taking.{path_from, path_after}
use Rattle.sc_tree.proofs.climb.path_to.Given as goal

-- the steps that are left lead on to the same path
abbrev pub invariant-loop-taken : goal.invariant-loop-taken
invariant-loop-taken l =
    record {
      told : path_from l.problem l.path.facts (drop l.taken-index l.steps) ≡ path_after l.problem l.steps;
      roots : l.path.roots ≡ l.problem.roots;
    }
