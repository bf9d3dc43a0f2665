use Rattle.std.proofs.Common.{◌≡◌, drop}
use Rattle.sc_terms.specs.Forms.{IsForm}
use Rattle.sc_linear.specs.Exact.{unless_wide}
use Rattle.sc_linear.specs.Rows.{form_operations, form_sum}
use Rattle.sc_linear.specs.Sums.{terms_of}
use Rattle.sc_linear.proofs.sums.add_terms.Given as goal

-- what is left to add to the sum so far is as it was at first
abbrev pub invariant-loop-term : goal.invariant-loop-term
invariant-loop-term l =
    IsForm (terms_of l.coefficients.entries)
    × (unless_wide (form_operations l.m (terms_of l.coefficients.entries) (drop l.term-index l.terms)) (form_sum l.m (terms_of l.coefficients.entries) (drop l.term-index l.terms))
    ≡ unless_wide (form_operations l.m (terms_of l.initial.coefficients.entries) l.terms) (form_sum l.m (terms_of l.initial.coefficients.entries) l.terms))
