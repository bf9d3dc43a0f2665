use Rattle.sc_runs.proofs.Meaning.{in_inter}
use Rattle.sc_runs.proofs.laws.inter_has_both.Goals as goal

pub returns : goal.returns
returns c = in_inter
