use Rattle.sc_model.proofs.Reading.{model_is}
use Rattle.sc_model.specs.Modelling.{IsModelOf, label_in}
use Rattle.sc_model.proofs.model.model_of.Goals as goal

pub returns-clause-read_off : goal.returns-clause-read_off
returns-clause-read_off c = model_is c.args.problem.now c.args.path.now.facts (label_in c.args.labels.now) _ c.put_flags.new.values c.put_elements.new.values c.put_sets.new.values c.new-values.ensures c.in_ok-put_flags.ensures.fills c.in_ok-put_flags.ensures.put c.in_ok-put_elements.ensures.fills c.in_ok-put_elements.ensures.put c.in_ok-put_sets.ensures.fills c.in_ok-put_sets.ensures.put

pub returns-clause-shows : goal.returns-clause-shows
returns-clause-shows c = λ settled.
    let is : IsModelOf c.args.problem.now c.args.path.now.facts (label_in c.args.labels.now) c.put_sets.new.values = model_is c.args.problem.now c.args.path.now.facts (label_in c.args.labels.now) _ c.put_flags.new.values c.put_elements.new.values c.put_sets.new.values c.new-values.ensures c.in_ok-put_flags.ensures.fills c.in_ok-put_flags.ensures.put c.in_ok-put_elements.ensures.fills c.in_ok-put_elements.ensures.put c.in_ok-put_sets.ensures.fills c.in_ok-put_sets.ensures.put in
    c.settled_paths_have_models.ensures c.args.problem.now c.roots-roots.ensures.problem c.requires.script c.requires.intless c.args.path.now.facts (label_in c.args.labels.now) settled c.put_sets.new.values is c.interprets.ensures
