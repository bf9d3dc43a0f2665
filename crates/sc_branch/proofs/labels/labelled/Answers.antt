use Rattle.sc_branch.proofs.Labelling.{are_labels}
use Rattle.sc_branch.proofs.labels.labelled.Goals as goal

pub returns : goal.returns
returns c = are_labels c.args.problem.now c.args.path.now.facts _ _ c.in_ok-classes.ensures.counted c.in_ok-classes.ensures.pairs c.in_ok-labels.ensures
