use Rattle.std.proofs.Common.{◌≡◌, ◌++◌, drop}
use Rattle.sc_member.specs.Candidates.{operations_steps}
use Rattle.sc_member.proofs.candidates.add_operations.Given as goal

-- what is made, with what is left, is all
abbrev pub invariant-loop-n : goal.invariant-loop-n
invariant-loop-n l = l.steps.items ++ operations_steps l.e (drop l.n-index l.numbers) ≡ l.fn.steps.items ++ operations_steps l.e l.numbers
