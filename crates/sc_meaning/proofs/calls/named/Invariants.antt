use Rattle.std.proofs.Common.{◌≡◌, ◌++◌, drop}
use Rattle.sc_terms.specs.Under.{form_parts}
use Rattle.sc_meaning.proofs.calls.named.Given as goal

abbrev pub invariant-loop-term : goal.invariant-loop-term
invariant-loop-term l = record { rest : l.numbers.items ++ form_parts (drop l.term-index l.terms) ≡ form_parts l.terms }
