use Rattle.sc_commands.proofs.Heads.{are_by_head}
use Rattle.sc_commands.proofs.laws.codes_are_by_the_head.Goals as goal

pub returns : goal.returns
returns c = are_by_head
