use Rattle.std.proofs.Common.{take}
use Rattle.std.specs.List.{AllByRecursion}
use Rattle.sc_branch.proofs.Clashing.{IsClear}
use Rattle.sc_branch.proofs.clash.first_clash.Given as goal

-- no fact so far has a name that clashes
abbrev pub invariant-loop-fact : goal.invariant-loop-fact
invariant-loop-fact l = AllByRecursion (IsClear l.path.facts) (take l.fact-index l.path.facts)
