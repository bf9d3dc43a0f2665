use Rattle.sc_deriv.proofs.Refutes.{lemmas_refute, lemmas_follow}
use Rattle.sc_deriv.proofs.laws.lemmas_follow.Goals as goal

pub returns-clause-valuations : goal.returns-clause-valuations
returns-clause-valuations c = lemmas_refute c.closed_trees_refute.ensures

pub returns-clause-interpretations : goal.returns-clause-interpretations
returns-clause-interpretations c = lemmas_follow c.closed_trees_refute.ensures c.meanings_fit.ensures
