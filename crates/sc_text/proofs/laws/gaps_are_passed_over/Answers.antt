use Rattle.sc_text.proofs.Gaps.{are_passed_over}
use Rattle.sc_text.proofs.laws.gaps_are_passed_over.Goals as goal

pub returns : goal.returns
returns c = are_passed_over
