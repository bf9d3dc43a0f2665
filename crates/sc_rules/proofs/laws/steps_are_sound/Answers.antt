use Rattle.sc_rules.proofs.Sound.{steps_sound}
use Rattle.sc_rules.proofs.laws.steps_are_sound.Goals as goal

pub returns : goal.returns
returns c = steps_sound
