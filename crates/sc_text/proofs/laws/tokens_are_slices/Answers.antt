use Rattle.sc_text.proofs.Runs.{are_slices}
use Rattle.sc_text.proofs.laws.tokens_are_slices.Goals as goal

pub returns : goal.returns
returns c = are_slices
