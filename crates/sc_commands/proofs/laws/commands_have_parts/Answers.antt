use Rattle.sc_commands.proofs.Spelling.{are_spelt}
use Rattle.sc_commands.proofs.laws.commands_have_parts.Goals as goal

pub returns : goal.returns
returns c = are_spelt
