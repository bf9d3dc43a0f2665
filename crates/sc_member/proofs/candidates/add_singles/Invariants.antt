use Rattle.std.proofs.Common.{◌≡◌, ◌++◌, drop}
use Rattle.sc_member.specs.Candidates.{single_steps}
use Rattle.sc_member.proofs.candidates.add_singles.Given as goal

-- what is made, with what is left, is all
abbrev pub invariant-loop-s : goal.invariant-loop-s
invariant-loop-s l = l.steps.items ++ single_steps l.e (drop l.s-index l.sets) ≡ l.fn.steps.items ++ single_steps l.e l.sets
