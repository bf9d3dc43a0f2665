use Rattle.sc_branch.proofs.Labelling.{classes_next, classes_whole}
use Rattle.sc_branch.proofs.labels.classes_of.Goals as goal

pub loop-place-preserved : goal.loop-place-preserved
loop-place-preserved c = classes_next _ _ _ _ c.fact-item.result _ _ c.facts-fact-items.ensures.facts c.loop-place-test.true c.fact-item.is c.loop-place.invariant c.in_ok-merge_by.ensures.counted c.in_ok-merge_by.ensures.pairs

pub returns-clause-pairs : goal.returns-clause-pairs
returns-clause-pairs c = classes_whole _ _ _ _ _ c.facts-fact-items.ensures.facts c.loop-place-test.false c.loop-place.invariant
