use Rattle.sc_text.proofs.Readings.{reads_once}
use Rattle.sc_text.proofs.laws.texts_read_once.Goals as goal

pub returns : goal.returns
returns c = reads_once
