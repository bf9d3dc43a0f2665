use Rattle.sc_text.proofs.Readings.{first_splits}
use Rattle.sc_text.proofs.laws.tokens_split_texts.Goals as goal

pub returns : goal.returns
returns c = first_splits
