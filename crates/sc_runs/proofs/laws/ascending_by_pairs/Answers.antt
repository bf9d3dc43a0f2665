use Rattle.sc_runs.proofs.Meaning.{ascending_pairs, pairs_ascending}
use Rattle.sc_runs.proofs.laws.ascending_by_pairs.Goals as goal

pub returns : goal.returns
returns c = λ xs. (ascending_pairs xs, pairs_ascending xs)
