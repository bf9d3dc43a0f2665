use Rattle.sc_regions.proofs.Refused.{refusals_are_first}
use Rattle.sc_regions.proofs.laws.refusals_are_first.Goals as goal

pub returns : goal.returns
returns c = refusals_are_first
