use Rattle.sc_regions.proofs.Depths.{sides_are_by_parts}
use Rattle.sc_regions.proofs.laws.sides_are_by_parts.Goals as goal

pub returns : goal.returns
returns c = sides_are_by_parts
