use Rattle.std.proofs.Common.{◌≡◌, ◌++◌, drop}
use Rattle.sc_member.specs.Candidates.{move_steps}
use Rattle.sc_member.proofs.candidates.add_moves.Given as goal

-- what is made, with what is left, is all
abbrev pub invariant-loop-t : goal.invariant-loop-t
invariant-loop-t l = l.steps.items ++ move_steps l.e l.s (drop l.t-index l.others) ≡ l.fn.steps.items ++ move_steps l.e l.s l.others
