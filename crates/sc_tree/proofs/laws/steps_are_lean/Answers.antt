use Rattle.sc_tree.proofs.LeanSteps.{steps_are_lean}
use Rattle.sc_tree.proofs.laws.steps_are_lean.Goals as goal

pub returns : goal.returns
returns c = steps_are_lean
