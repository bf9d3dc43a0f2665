use Rattle.sc_text.proofs.Runs.{runs_read}
use Rattle.sc_text.proofs.laws.runs_read_texts.Goals as goal

pub returns : goal.returns
returns c = runs_read
