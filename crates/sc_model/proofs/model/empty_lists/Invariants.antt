use Rattle.std.proofs.Common.{[]}
use Rattle.sc_model.specs.Modelling.{Gathers}
use Rattle.sc_model.proofs.model.empty_lists.Given as goal

abbrev pub invariant-loop-place : goal.invariant-loop-place
invariant-loop-place l = Gathers l.place [] l.lists.items
