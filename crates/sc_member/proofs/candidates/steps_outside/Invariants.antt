use Rattle.std.proofs.Common.{◌≡◌}
use Rattle.sc_member.specs.Candidates.{outside_steps}
use Rattle.sc_member.proofs.candidates.steps_outside.Given as goal

abbrev pub invariant-loop-place : goal.invariant-loop-place
invariant-loop-place l = l.steps.items ≡ outside_steps l.n l.place
