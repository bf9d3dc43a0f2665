use Rattle.sc_check.proofs.Soundness.{accepted_refute}
use Rattle.sc_check.proofs.laws.accepted_derivations_refute.Goals as goal

pub returns : goal.returns
returns c = accepted_refute c.accepts_closed_trees.ensures c.closed_trees_refute.ensures c.meanings_fit.ensures c.stocks_are_problems.ensures c.meanings_agree.ensures
