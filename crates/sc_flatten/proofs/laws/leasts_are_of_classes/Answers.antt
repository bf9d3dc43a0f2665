use Rattle.sc_flatten.proofs.Leasts.{leasts_are_of_classes}
use Rattle.sc_flatten.proofs.laws.leasts_are_of_classes.Goals as goal

pub returns : goal.returns
returns c = leasts_are_of_classes
