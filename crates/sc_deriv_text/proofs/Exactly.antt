-- A tree is read as a derivation exactly where it spells it.
use Rattle.std.proofs.Common.{Result, Ok, Err, ap, ◌∙◌}
use Rattle.std.specs.Prelude.{IfOk}
use Rattle.sc_sexpr.specs.Shapes.{Shape}
use Rattle.sc_deriv.specs.declared.derivation.Derivation.{Derivation}
use Rattle.sc_deriv.specs.Spelling.{IsSpelt}
use Rattle.sc_deriv_text.specs.declared.errors.TextError.{TextError}
use Rattle.sc_deriv_text.specs.Sexpr.{plain}
use Rattle.sc_deriv_text.specs.Reading.{derivation_in, reading, IsReading}
use Rattle.sc_deriv_text.specs.Laws.{ReadsExactly}
use Rattle.sc_deriv_text.proofs.Again.{reads_again}
use Rattle.sc_deriv_text.proofs.Takes.{reads_so}

pub reads_exactly : ReadsExactly
reads_exactly s d = (λ e. reads_so (plain s) d e, λ p. ap derivation_in p.2 ∙ reads_again d p.0 p.1)

pub spelt : (r : Result Derivation TextError) (s : Shape) → IsReading r (reading s) → IfOk r (λ d. IsSpelt d)
spelt (Ok d) s e = (reads_so (plain s) d e).0
spelt (Err f) s e = tt
