use Rattle.std.proofs.Common.{Some, ap, ◌∙◌}
use Rattle.sc_model.specs.Modelling.{label_in}
use Rattle.sc_model.proofs.Reading.{flag_fills, flag_there}
use Rattle.sc_model.proofs.model.put_flag.Goals as goal

pub returns-in_ok-put-clause-fills : goal.returns-in_ok-put-clause-fills
returns-in_ok-put-clause-fills c =
    flag_fills c.args.problem.now c.args.path.now.facts (label_in c.args.labels.now) c.args.number c.in-Flag.constant c.args.values.now c.put.new.values c.has-sign.result (c.formula.ensures ∙ ap Some c.in-Flag.is) c.has-sign.ensures c.in_ok-put.ensures

pub returns-in_ok-put-clause-put : goal.returns-in_ok-put-clause-put
returns-in_ok-put-clause-put c =
    flag_there c.args.problem.now c.args.path.now.facts (label_in c.args.labels.now) c.args.number c.in-Flag.constant c.args.values.now c.put.new.values c.has-sign.result (c.formula.ensures ∙ ap Some c.in-Flag.is) c.in_ok-put.ensures
