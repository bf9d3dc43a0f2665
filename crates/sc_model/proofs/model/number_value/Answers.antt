use Rattle.std.proofs.Common.{ap}
use Rattle.sc_terms.specs.declared.interp.Value.TheVariants.{Number}
use Rattle.sc_model.proofs.Reading.{read_number}
use Rattle.sc_model.proofs.model.number_value.Goals as goal

pub returns : goal.returns
returns c = ap Number (read_number c.from.result c.args.number c.ranges.number.fits c.from.ensures)
