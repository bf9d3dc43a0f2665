-- What an accepted derivation tells.
use Rattle.std.specs.Prelude.{◌≡◌, ℕ, List, Some}
use Rattle.sc_sexpr.specs.Shapes.{Shape}
use Rattle.sc_terms.specs.declared.nodes.Node.{Node}
use Rattle.sc_terms.specs.Bank.{IsBank}
use Rattle.sc_terms.specs.BankValues.{bank_meaning}
use Rattle.sc_terms.specs.Meaning.{Interpretation, IsInterpretation, AllTrue}
use Rattle.sc_deriv.specs.declared.derivation.Judgement.TheVariants.{Accepted}
use Rattle.sc_flatten.specs.Laws.{AreFormulasOf}
use Rattle.sc_check.specs.declared.finding.Finding.TheVariants as found
use Rattle.sc_check.specs.Lines.{finding}

-- Where a derivation is accepted, no interpretation of the constants makes all assertions true for which its get-proof asks.
abbrev pub AcceptedRefute : Type 0
AcceptedRefute =
    (bank : List Node) (assertions : List ℕ) (s : Shape) → IsBank bank → AreFormulasOf bank assertions → finding bank (Some assertions) s ≡ found.Judged Accepted →
    (i : Interpretation) → IsInterpretation i → AllTrue (bank_meaning bank i) assertions → ⊥
