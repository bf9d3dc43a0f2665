use Rattle.sc_tree.proofs.Splits.{splits_are_lean}
use Rattle.sc_tree.proofs.laws.splits_are_lean.Goals as goal

pub returns : goal.returns
returns c = splits_are_lean
