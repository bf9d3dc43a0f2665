use Rattle.std.proofs.Common.{refl, true}
use Rattle.std.specs.Prelude.{slice_set}
use Rattle.sc_classes.proofs.Searching.{marked_one}
use Rattle.sc_classes.proofs.chains.marks.Goals as goal

pub returns : goal.returns
returns c = marked_one c.args.last c.args.start c.in_ok-marks.marks.items (slice_set c.in_ok-marks.marks.items c.args.start true) c.requires c.in_ok-marks.ensures.count c.in_ok-marks.ensures.none refl
