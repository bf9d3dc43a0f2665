use Rattle.std.proofs.Common.{length}
use Rattle.sc_member.specs.Candidates.{AllIdle, AllCarry}
use Rattle.sc_member.proofs.agenda.tried_each.Given as goal

-- where the steps that are left are idle, all were
abbrev pub invariant-loop-step : goal.invariant-loop-step
invariant-loop-step l =
    record {
      kinds : AllCarry l.pending.items;
      rest : AllIdle l.problem l.path.facts l.pending.items → AllIdle l.problem l.path.facts l.fn.pending.items;
    }

abbrev pub decreases-loop-step : goal.decreases-loop-step
decreases-loop-step l = length l.pending.items
