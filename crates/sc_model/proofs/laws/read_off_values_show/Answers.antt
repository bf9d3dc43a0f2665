use Rattle.sc_model.proofs.Shown.{read_off_show}
use Rattle.sc_model.proofs.laws.read_off_values_show.Goals as goal

pub returns : goal.returns
returns c = read_off_show
