use Rattle.std.proofs.Common.{◌≡◌, ◌++◌, length, map}
use Rattle.sc_flatten.specs.Tables.{as_term}
use Rattle.sc_flatten.proofs.forms.into_terms.Given as goal

-- the terms so far, and those that are left, are all
abbrev pub invariant-loop-atom : goal.invariant-loop-atom
invariant-loop-atom l = l.terms.items ++ map as_term l.placed.entries ≡ map as_term l.fn.placed.entries

abbrev pub decreases-loop-atom : goal.decreases-loop-atom
decreases-loop-atom l = length l.placed.entries
