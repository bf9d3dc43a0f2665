use Rattle.std.proofs.Common.{Some, ap, subst, ◌∙◌}
use Rattle.sc_model.specs.Modelling.{HasNumbers, label_in}
use Rattle.sc_model.specs.Modelling as spec
use Rattle.sc_model.proofs.Reading.{set_fills, set_there, set_read_off}
use Rattle.sc_model.proofs.model.put_set.Goals as goal

pub returns-in_ok-put-clause-fills : goal.returns-in_ok-put-clause-fills
returns-in_ok-put-clause-fills c =
    set_fills c.args.problem.now c.args.path.now.facts (label_in c.args.labels.now) c.args.number c.in-Const.constant c.args.values.now c.put.new.values c.in_ok-set_value.field-0 c.in-Const.field-1 (c.set.ensures ∙ ap Some c.in-Const.is) (set_read_off c.args.problem.now c.args.path.now.facts (label_in c.args.labels.now) c.args.lists.now c.args.number c.in-Const.constant c.in-Const.field-1 c.index-lists-number.result c.in_ok-found.found c.in_ok-members.members c.in_ok-set_value.field-0 c.requires.number c.requires.gathers c.index-lists-number.is (c.set.ensures ∙ ap Some c.in-Const.is) (c.in_ok-found.ensures ∙ ap (spec.labels_of c.args.problem.now (label_in c.args.labels.now) c.args.number) c.as_slice-elements.ensures) (subst (λ ns. HasNumbers ns c.in_ok-members.members) c.as_slice.ensures c.in_ok-members.ensures) c.in_ok-set_value.ensures) c.in_ok-put.ensures

pub returns-in_ok-put-clause-put : goal.returns-in_ok-put-clause-put
returns-in_ok-put-clause-put c =
    set_there c.args.problem.now c.args.path.now.facts (label_in c.args.labels.now) c.args.number c.in-Const.constant c.args.values.now c.put.new.values c.in_ok-set_value.field-0 c.in-Const.field-1 (c.set.ensures ∙ ap Some c.in-Const.is) c.in_ok-put.ensures
