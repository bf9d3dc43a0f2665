use Rattle.sc_sexpr.specs.Shapes.{shape}
use Rattle.sc_deriv_text.proofs.Exactly.{spelt}
use Rattle.sc_deriv_text.proofs.reading.read.Goals as goal

pub returns-clause-spelt : goal.returns-clause-spelt
returns-clause-spelt c = spelt c.read_exactly.result (shape c.args.tree.now) c.read_exactly.ensures
