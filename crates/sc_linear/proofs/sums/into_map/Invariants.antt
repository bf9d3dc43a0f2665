use Rattle.std.proofs.Common.{◌≡◌, ◌++◌, drop}
use Rattle.sc_terms.specs.Forms.{IsForm}
use Rattle.sc_linear.specs.Sums.{terms_of}
use Rattle.sc_linear.proofs.sums.into_map.Given as goal

-- the terms so far, and those that are left, are all
abbrev pub invariant-loop-term : goal.invariant-loop-term
invariant-loop-term l = IsForm (terms_of l.coefficients.entries) × (terms_of l.coefficients.entries ++ drop l.term-index l.terms ≡ l.terms)
