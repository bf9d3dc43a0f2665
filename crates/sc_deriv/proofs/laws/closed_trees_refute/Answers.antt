use Rattle.sc_deriv.proofs.Refutes.{closed_trees_refute}
use Rattle.sc_deriv.proofs.laws.closed_trees_refute.Goals as goal

pub returns : goal.returns
returns c = closed_trees_refute c.steps_are_sound.ensures
