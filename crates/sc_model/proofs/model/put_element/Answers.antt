use Rattle.std.proofs.Common.{pos, Some, ap, ◌∙◌}
use Rattle.std.specs.FinMap as finmap
use Rattle.sc_model.specs.Modelling.{label_in}
use Rattle.sc_model.proofs.Reading.{element_fills, element_there}
use Rattle.sc_model.proofs.model.put_element.Goals as goal

pub returns-in_ok-put-clause-fills : goal.returns-in_ok-put-clause-fills
returns-in_ok-put-clause-fills c =
    element_fills c.args.problem.now c.args.path.now.facts (label_in c.args.labels.now) c.args.number c.in-Const.constant c.args.values.now c.put.new.values (pos c.label_of-label.result) c.in-Const.field-1 (c.element.ensures ∙ ap Some c.in-Const.is) (ap pos c.label_of-label.ensures) (c.in_ok-put.ensures ∙ ap (finmap.insert c.args.values.now c.in-Const.constant) c.number_value.ensures)

pub returns-in_ok-put-clause-put : goal.returns-in_ok-put-clause-put
returns-in_ok-put-clause-put c =
    element_there c.args.problem.now c.args.path.now.facts (label_in c.args.labels.now) c.args.number c.in-Const.constant c.args.values.now c.put.new.values (pos c.label_of-label.result) c.in-Const.field-1 (c.element.ensures ∙ ap Some c.in-Const.is) (c.in_ok-put.ensures ∙ ap (finmap.insert c.args.values.now c.in-Const.constant) c.number_value.ensures)
