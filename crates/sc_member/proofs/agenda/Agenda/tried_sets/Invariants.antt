use Rattle.std.proofs.Common.{◌≡◌, ◌<◌, ◌≤◌, ℕ}
use Rattle.sc_member.specs.Candidates.{AllCarry, SetIdle}
use Rattle.sc_member.proofs.agenda.Agenda.tried_sets.Given as goal

-- the steps of the set terms so far are idle
abbrev pub invariant-loop-number : goal.invariant-loop-number
invariant-loop-number l =
    record {
      kinds : AllCarry l.self.pending.items;
      place : l.self.place ≡ l.fn.self.place;
      idle : (n : ℕ) → l.fn.self.set < n → n ≤ l.number → SetIdle l.problem l.path.facts n;
    }
