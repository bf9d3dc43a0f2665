use Rattle.std.proofs.Common.{◌≡◌, ℕ, ◌+◌, refl, sym, subst, ◌∙◌, arith}
use Rattle.sc_branch.specs.Labels.{HasLabels}
use Rattle.sc_branch.proofs.Labelling.{no_labels, labels_next, labels_whole}
use Rattle.sc_branch.proofs.labels.labels_of.Goals as goal

pub loop-place-init : goal.loop-place-init
loop-place-init c = subst (HasLabels c.args.classes.now 0) (sym c.new-labels.ensures.items) (no_labels c.args.classes.now)

pub loop-place-preserved : goal.loop-place-preserved
loop-place-preserved c = labels_next c.args.classes.now c.loop-place.place _ (c.loop-place.place + 1) c.label.result _ c.loop-place.invariant refl c.label.ensures.label c.label.ensures.least c.in_ok-push.ensures.items

pub returns : goal.returns
returns c = labels_whole c.args.classes.now _ _ _ c.count-place-end.ensures c.loop-place-test.false c.loop-place.auto.place-end c.loop-place.invariant
