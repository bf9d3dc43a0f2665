use Rattle.std.proofs.Common.{arith}
use Rattle.sc_tree.proofs.climb.is_full.Goals as goal

pub count_steps-requires : goal.count_steps-requires
count_steps-requires c =
    let few = c.requires.2 in
    let fits = c.ranges.budget.fits in
    (c.requires.0, c.requires.1, omega (arith, few, fits))
