use Rattle.sc_model.proofs.Shown.{settled_have_models}
use Rattle.sc_model.proofs.laws.settled_paths_have_models.Goals as goal

pub returns : goal.returns
returns c = settled_have_models c.meanings_fit.ensures c.sorts_match.ensures
