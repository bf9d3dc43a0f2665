-- What a sign that was found tells.
use Rattle.std.proofs.Common.{◌≡◌, Bool, true, false, not, Some, ◌⊎◌, inl, inr, refl, sym, ◌∙◌}
use Rattle.sc_rules.specs.Pairs.{first_sign}

pub first_sign-is : (plus minus s t : Bool) → (plus ≡ true → t ≡ true) → (minus ≡ true → t ≡ false) → first_sign plus minus ≡ Some s → t ≡ s
first_sign-is true minus s t p m e = p refl ∙ cc
first_sign-is false true s t p m e = m refl ∙ cc
first_sign-is false false s t p m e = absurd cc

pub not-true : (b : Bool) → not b ≡ true → b ≡ false
not-true true e = sym e
not-true false e = refl

pub not-false : (b : Bool) → not b ≡ false → b ≡ true
not-false true e = refl
not-false false e = sym e

pub true_or_false : (b : Bool) → (b ≡ true) ⊎ (b ≡ false)
true_or_false true = inl refl
true_or_false false = inr refl
