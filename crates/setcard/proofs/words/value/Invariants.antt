use Rattle.std.proofs.Common.{◌≡◌, ◌≤◌, ◌^◌, drop}
use Rattle.setcard.specs.Words.{number_after}
use Rattle.setcard.proofs.words.value.Given as goal

-- the number so far, with the digits that are left, is all
abbrev pub invariant-loop-digit : goal.invariant-loop-digit
invariant-loop-digit l = record {
  value : number_after l.number (drop l.digit-index l.digits) ≡ number_after 0 l.digits;
  most : l.number ≤ 2 ^ 40;
}
