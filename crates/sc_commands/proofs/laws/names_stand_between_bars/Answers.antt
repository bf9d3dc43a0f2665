use Rattle.sc_commands.proofs.Bars.{are_names}
use Rattle.sc_commands.proofs.laws.names_stand_between_bars.Goals as goal

pub returns : goal.returns
returns c = are_names
