use Rattle.std.proofs.Common.{◌≡◌, ◌≤◌, length}
use Rattle.sc_workers.specs.Seats.{IsOf, IsBusy}
use Rattle.sc_workers.proofs.alone.work.Given as goal

-- the seat holds the leaf, and each turn added a step
abbrev pub invariant-loop-turn : goal.invariant-loop-turn
invariant-loop-turn l = record {
  about : IsOf l.problem l.budget l.tree;
  busy : IsBusy l.tree l.branch;
  same : l.branch.problem ≡ l.initial.branch.problem;
  counted : l.turn ≤ length l.branch.steps;
}
