use Rattle.std.proofs.Common.{[], ◌∷◌, sym, subst}
use Rattle.sc_model.specs.Modelling.{HasNumbers}
use Rattle.sc_model.proofs.Reading.{one_has}
use Rattle.sc_model.proofs.model.single.Goals as goal

pub returns-in-Ok : goal.returns-in-Ok
returns-in-Ok c = subst (HasNumbers (c.args.number ∷ [])) (sym c.in-Ok.ensures) (one_has c.from-value.result c.args.number c.ranges.number.fits c.from-value.ensures)
