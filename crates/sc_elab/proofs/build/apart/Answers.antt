use Rattle.std.proofs.Common.{[]}
use Rattle.sc_elab.specs.Builds as spec
use Rattle.sc_elab.proofs.Growing.{stop, go_on}
use Rattle.sc_elab.proofs.build.apart.Goals as goal

pub conjunction-requires : goal.conjunction-requires
conjunction-requires c = (c.in-Ok.ensures []).stands

pub returns-in-Ok : goal.returns-in-Ok
returns-in-Ok c = go_on spec.conjunction c.in-Ok.ensures c.conjunction.ensures

pub returns-in-Err : goal.returns-in-Err
returns-in-Err c = stop spec.conjunction c.in-Err.ensures
