use Rattle.std.proofs.Common.{[], ◌∷◌, ◌++◌, get_or, sym, ap, ◌∙◌}
use Rattle.sc_model.specs.Modelling.{label_in}
use Rattle.sc_model.specs.Modelling as spec
use Rattle.sc_model.proofs.Reading.{labels_next}
use Rattle.sc_model.proofs.model.labels_of.Goals as goal

pub loop-element-preserved : goal.loop-element-preserved
loop-element-preserved c =
    c.in_ok-push_label.ensures
    ∙ (ap (λ xs. xs ++ spec.labels_of c.args.problem.now (label_in c.args.labels.now) c.args.set (get_or c.args.elements.now c.loop-element.element-index 0 ∷ [])) c.loop-element.invariant
    ∙ sym (labels_next c.args.problem.now (label_in c.args.labels.now) c.args.set c.args.elements.now c.loop-element.element-index c.loop-element-test.true))
