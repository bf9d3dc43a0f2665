use Rattle.std.proofs.Common.{◌≡◌, ◌++◌, map, drop}
use Rattle.sc_deriv_text.specs.Reading as spec
use Rattle.sc_deriv_text.proofs.tokens.signs_of.Given as goal

abbrev pub invariant-loop-byte : goal.invariant-loop-byte
invariant-loop-byte l = l.signs.items ++ map spec.sign_at (drop l.byte-index l.text) ≡ map spec.sign_at l.text
