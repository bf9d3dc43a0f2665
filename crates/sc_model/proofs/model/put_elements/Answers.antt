use Rattle.std.proofs.Common.{arith}
use Rattle.sc_sorts.specs.Posed.{NamesElement}
use Rattle.sc_model.specs.Modelling.{label_in}
use Rattle.sc_model.proofs.Reading.{fills_on, there_next, item_low}
use Rattle.sc_model.proofs.model.put_elements.Goals as goal

pub loop-place-preserved : goal.loop-place-preserved
loop-place-preserved c = record {
  fills = fills_on c.args.problem.now c.args.path.now.facts (label_in c.args.labels.now) c.args.values.now c.loop-place.values c.put_element.new.values c.loop-place.invariant.fills c.in_ok-put_element.ensures.fills;
  put = there_next (NamesElement c.args.problem.now) c.args.problem.now c.args.path.now.facts (label_in c.args.labels.now) c.loop-place.values c.put_element.new.values c.loop-place.place c.in_ok-put_element.ensures.fills c.loop-place.invariant.put c.in_ok-put_element.ensures.put;
}

pub returns-clause-put : goal.returns-clause-put
returns-clause-put c = λ n k names. c.loop-place.invariant.put n k (omega (arith, item_low c.args.problem.now.elements n _ names.1, c.loop-place-test.false, c.counts-place-end.ensures.elements)) names
