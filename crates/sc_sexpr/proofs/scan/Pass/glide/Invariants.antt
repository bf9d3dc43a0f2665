use Rattle.std.proofs.Common.{◌-◌, ◌≤◌, length}
use Rattle.sc_sexpr.specs.Passes.{IsBetween, AreNext, Skips, along}
use Rattle.sc_sexpr.proofs.scan.Pass.glide.Given as goal

abbrev pub invariant-loop-next : goal.invariant-loop-next
invariant-loop-next l = record {
  next : AreNext l.bytes l.initial.self l.rest;
  between : IsBetween l.state;
  skips : Skips l.bytes l.initial.self (along l.initial.self l.state l.count);
  few : l.count ≤ length l.rest;
}

abbrev pub decreases-loop-next : goal.decreases-loop-next
decreases-loop-next l = length l.rest - l.count
