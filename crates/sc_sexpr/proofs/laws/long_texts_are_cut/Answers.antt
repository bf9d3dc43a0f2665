use Rattle.std.proofs.Common.{[]}
use Rattle.sc_sexpr.specs.Scans.{start}
use Rattle.sc_sexpr.proofs.Cutting.{reads_cut}
use Rattle.sc_sexpr.proofs.laws.long_texts_are_cut.Goals as goal

pub returns : goal.returns
returns c = λ limit text more lt. reads_cut limit text more start [] limit lt
