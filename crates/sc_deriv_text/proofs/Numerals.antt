-- Numerals: the digits that `decimal` writes, and no others.
use Rattle.std.proofs.Common.{◌≡◌, ℕ, ◌<◌, ◌^◌, Bool, true, false, List, [], ◌∷◌, length, refl, arith, rules, subst, Result, Err, inl, inr}
use Rattle.std.specs.Prelude.{◌&&◌, not}
use Rattle.std.specs.List.{list_all}
use Rattle.std.proofs.lemmas.Str.Parse.{IsNumeralModel, numerals_by_value, IsDigitsTest}
use Rattle.std.specs.Str.Parse.{digits_value}
use Rattle.std.specs.Str.{IsUtf8}
use Rattle.std.specs.Result.{OkIff}
use Rattle.std.specs.Str.Parse.{ParsesUnsigned}
use Rattle.std.proofs.lemmas.Str.Parse.{parse_digits}
use Rattle.std.proofs.lemmas.Str.{IsUtf8-from_ascii}
use Rattle.std.proofs.lemmas.Fmt.{IsAscii-from_digits}
use Rattle.std.proofs.lemmas.Bool.{cases_lt, le-ltb, false≢true}
use Rattle.sc_deriv.specs.declared.derivation.Reason.{Reason}
use Rattle.sc_deriv.specs.declared.derivation.Reason.TheVariants.{P4}
use Rattle.sc_deriv_text.specs.Reading.{is_digit, is_numeral, has_leading_zero, numeral, below}

abbrev fault : Reason → Result ℕ Reason
fault r = Err r

abbrev pub AreDigits : List ℕ → Type 0
AreDigits ds = list_all is_digit ds ≡ true

tells : IsDigitsTest AreDigits
tells = search rules

pub own : IsNumeralModel AreDigits (digits_value 10)
own = numerals_by_value AreDigits tells

and_left : (a b : Bool) → a && b ≡ true → a ≡ true
and_left true b e = refl
and_left false b e = e

and_right : (a b : Bool) → a && b ≡ true → b ≡ true
and_right true b e = e
and_right false b e = absurd (false≢true e)

pub are_digits : (ds : List ℕ) → is_numeral ds ≡ true → AreDigits ds
are_digits ds h = and_left (list_all is_digit ds) (not (has_leading_zero ds)) h

some_digits : (ds : List ℕ) → not (has_leading_zero ds) ≡ true → 0 < length ds
some_digits [] h = absurd (false≢true h)
some_digits (d ∷ ds) h = omega arith

pub not_empty : (ds : List ℕ) → is_numeral ds ≡ true → 0 < length ds
not_empty ds h = some_digits ds (and_right (list_all is_digit ds) (not (has_leading_zero ds)) h)

pub numeral_utf8 : (ds : List ℕ) → is_numeral ds ≡ true → IsUtf8 ds
numeral_utf8 ds h = IsUtf8-from_ascii ds (IsAscii-from_digits ds (own.to ds (are_digits ds h)))

abbrev failure : {E : Type 0} → E → Result ℕ E
failure x = Err x

-- what is not read as a number of 128 bits is too great
pub too_great : {E : Type 0} (bs ds : List ℕ) (r : Result ℕ E) (x : E) (limit : ℕ) → limit < 2 ^ 128 → is_numeral ds ≡ true → bs ≡ ds → ParsesUnsigned 128 10 bs r → r ≡ Err x → fault P4 ≡ below limit (numeral ds)
too_great {E = E} bs ds r x limit fits h same parsed failed =
    let q : OkIff r ((0 < length ds) × (digits_value 10 ds < 2 ^ 128)) (digits_value 10 ds) = parse_digits own 128 ds r (subst (λ (b : List ℕ). ParsesUnsigned 128 10 b r) same parsed) (are_digits ds h) in
    let no : OkIff (failure x) ((0 < length ds) × (digits_value 10 ds < 2 ^ 128)) (digits_value 10 ds) = subst (λ (s : Result ℕ E). OkIff s ((0 < length ds) × (digits_value 10 ds < 2 ^ 128)) (digits_value 10 ds)) failed q in
    elim (cases_lt (digits_value 10 ds) (2 ^ 128)) [
      | inl lt ↦ absurd (no (not_empty ds h, lt))
      | inr le ↦ rw (h, le-ltb (digits_value 10 ds) limit (omega (arith, le, fits))) refl
    ]
