use Rattle.std.proofs.Common.{◌≡◌, ◌++◌, length}
use Rattle.sc_linear.specs.Sums.{terms_of}
use Rattle.sc_linear.proofs.sums.into_terms.Given as goal

-- the terms so far, and those that are left, are all
abbrev pub invariant-loop-atom : goal.invariant-loop-atom
invariant-loop-atom l = l.terms.items ++ terms_of l.coefficients.entries ≡ terms_of l.fn.coefficients.entries

abbrev pub decreases-loop-atom : goal.decreases-loop-atom
decreases-loop-atom l = length l.coefficients.entries
