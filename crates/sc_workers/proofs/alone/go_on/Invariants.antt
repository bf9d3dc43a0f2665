use Rattle.std.specs.Prelude.{◌≡◌}
use Rattle.sc_workers.specs.Seats.{IsOf, IsIdle}
use Rattle.sc_workers.proofs.alone.go_on.Given as goal

-- no leaf is held
abbrev pub invariant-loop-turn : goal.invariant-loop-turn
invariant-loop-turn l = record {
  about : IsOf l.problem l.budget l.tree;
  idle : IsIdle l.tree;
  same : l.branch.problem ≡ l.problem;
}
