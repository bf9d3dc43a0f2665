use Rattle.std.specs.Prelude.{⊤}
use Rattle.sc_model.proofs.links.first_new.Given as goal

abbrev pub invariant-loop-step : goal.invariant-loop-step
invariant-loop-step l = ⊤
