use Rattle.std.proofs.Common.{◌≡◌, ◌++◌, drop}
use Rattle.sc_member.specs.Candidates.{carry_steps}
use Rattle.sc_member.proofs.candidates.add_carries.Given as goal

-- what is made, with what is left, is all
abbrev pub invariant-loop-f : goal.invariant-loop-f
invariant-loop-f l = l.steps.items ++ carry_steps l.e l.s (drop l.f-index l.others) ≡ l.fn.steps.items ++ carry_steps l.e l.s l.others
