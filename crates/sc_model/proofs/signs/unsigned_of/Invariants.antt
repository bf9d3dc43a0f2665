use Rattle.std.proofs.Common.{◌≡◌, false, take}
use Rattle.std.specs.List.{list_any}
use Rattle.sc_model.specs.Deciding.{is_unsigned}
use Rattle.sc_model.proofs.signs.unsigned_of.Given as goal

-- each so far has a sign
abbrev pub invariant-loop-formula : goal.invariant-loop-formula
invariant-loop-formula l = list_any (is_unsigned l.path.facts) (take l.formula-index l.formulas) ≡ false
