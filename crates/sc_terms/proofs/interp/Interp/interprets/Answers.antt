use Rattle.std.proofs.Common.{subst}
use Rattle.sc_terms.specs.Meaning.{IsInterpretation}
use Rattle.sc_terms.specs.Values.{interpretation_of}
use Rattle.sc_terms.proofs.Entries.{interprets}
use Rattle.sc_terms.proofs.interp.Interp.interprets.Goals as goal

pub returns : goal.returns
returns c =
    subst (λ m. IsInterpretation (interpretation_of m)) c.self.view_is (interprets c.self.inside.values.entries c.self.invariant)
