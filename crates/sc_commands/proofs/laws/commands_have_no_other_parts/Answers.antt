use Rattle.sc_commands.proofs.Grammar.{have_no_other_parts}
use Rattle.sc_commands.proofs.laws.commands_have_no_other_parts.Goals as goal

pub returns : goal.returns
returns c = have_no_other_parts
