-- What is read as a number is what is written of it.
use Rattle.std.proofs.Common.{◌≡◌, ℕ, zero, suc, ◌+◌, ◌*◌, ◌/◌, ◌%◌, ◌<◌, ◌^◌, Bool, true, false, List, [], ◌∷◌, ◌++◌, length, take, get_or, Some, refl, sym, ap, ◌∙◌, arith, subst, add-one}
use Rattle.std.specs.Prelude.{◌==◌, not, decimal}
use Rattle.std.specs.List.{list_all}
use Rattle.std.specs.Char.{digit_value}
use Rattle.std.specs.Int.{IsInRange}
use Rattle.std.specs.Str.Parse.{digits_value, AllDigits}
use Rattle.std.proofs.Math.Seq.{take-suc}
use Rattle.std.proofs.lemmas.Fmt.{decimal_digit, decimal_step_wide}
use Rattle.std.proofs.lemmas.Int.Digits.{digits_value_more}
use Rattle.std.proofs.lemmas.List.{take_all}
use Rattle.std.proofs.lemmas.Str.{digit_value_digit}
use Rattle.std.proofs.lemmas.Str.Parse.{digit_at, digits_value-take-le}
use Rattle.std.proofs.lemmas.Bool.{true≢false}
use Rattle.sc_deriv_text.specs.Reading.{is_digit, has_leading_zero, numeral}
use Rattle.sc_deriv_text.proofs.Numerals.{own}

one_digit : (d : ℕ) → IsInRange 48 57 d → decimal (digits_value 10 (d ∷ [])) ≡ d ∷ []
one_digit d r =
    let e = digit_value_digit d r in
    let v : digits_value 10 (d ∷ []) ≡ digit_value d = grind arith in
    rw (v, decimal_digit (digit_value d) (omega (arith, e, r))) (ap (λ x. x ∷ []) (omega (arith, e)))

more_digits : (v w c : ℕ) (ds : List ℕ) → decimal v ≡ ds → 0 < v → IsInRange 48 57 c → w ≡ v * 10 + digit_value c → w < 10 ^ 64 → decimal w ≡ ds ++ c ∷ []
more_digits v w c ds h some r e fits =
    let d = digit_value_digit c r in
    let front : w / 10 ≡ v = omega (arith, e, d, r) in
    let back : 48 + w % 10 ≡ c = omega (arith, e, d, r) in
    decimal_step_wide w (omega (arith, e, some)) fits ∙ rw (front, back, h) refl

-- a front of the digits is what is written of its value
record Fine (front : List ℕ) : Type 0 where
  text : decimal (digits_value 10 front) ≡ front
  some : 0 < digits_value 10 front

fronts : (ds : List ℕ) (i : ℕ) → AllDigits 10 ds → 0 < digit_value (get_or ds 0 0) → digits_value 10 ds < 10 ^ 64 → i < length ds → Fine (take (suc i) ds)
fronts ds zero all first fits lt =
    let r = digit_at ds 0 all lt in
    let v : digits_value 10 (get_or ds 0 0 ∷ []) ≡ digit_value (get_or ds 0 0) = grind arith in
    rw (take-suc ds 0 0 lt) (record { text = one_digit (get_or ds 0 0) r; some = omega (arith, v, first) })
fronts ds (suc i) all first fits lt =
    let before = fronts ds i all first fits (omega (arith, lt)) in
    let more : digits_value 10 (take (suc (suc i)) ds) ≡ digits_value 10 (take (suc i) ds) * 10 + digit_value (get_or ds (suc i) 0) = rw add-one at (digits_value_more 10 ds (suc i) lt) in
    let le = digits_value-take-le 10 ds (suc (suc i)) (omega arith) in
    record {
      text = more_digits (digits_value 10 (take (suc i) ds)) (digits_value 10 (take (suc (suc i)) ds)) (get_or ds (suc i) 0) (take (suc i) ds) before.text before.some (digit_at ds (suc i) all lt) more (omega (arith, le, fits)) ∙ sym (take-suc ds (suc i) 0 lt);
      some = omega (arith, more, before.some);
    }

first_digit : (d : ℕ) → IsInRange 48 57 d → (d == 48) ≡ false → 0 < digit_value d
first_digit d r e = let v = digit_value_digit d r in grind (arith, v)

all_of : (ds : List ℕ) → AllDigits 10 ds → has_leading_zero ds ≡ false → digits_value 10 ds < 10 ^ 64 → decimal (digits_value 10 ds) ≡ ds
all_of [] all h fits = absurd (true≢false h)
all_of (d ∷ []) all h fits = one_digit d (digit_at (d ∷ []) 0 all (omega arith))
all_of (d ∷ e ∷ ds) all h fits =
    let f = fronts (d ∷ e ∷ ds) (suc (length ds)) all (first_digit d (digit_at (d ∷ e ∷ ds) 0 all (omega arith)) h) fits (omega arith) in
    let whole : take (suc (suc (length ds))) (d ∷ e ∷ ds) ≡ d ∷ e ∷ ds = take_all (suc (suc (length ds))) (d ∷ e ∷ ds) (omega arith) in
    subst (λ (x : List ℕ). decimal (digits_value 10 x) ≡ x) whole f.text

not_true : (b : Bool) → not b ≡ true → b ≡ false
not_true true e = absurd (true≢false (sym e))
not_true false e = refl

pick : (ds : List ℕ) (n : ℕ) (a b : Bool) → list_all is_digit ds ≡ a → has_leading_zero ds ≡ b → numeral ds ≡ Some n → n < 10 ^ 64 → ds ≡ decimal n
pick ds n true false all none e fits =
    let same : digits_value 10 ds ≡ n = let h : Some (digits_value 10 ds) ≡ Some n = (rw (all, none) at e) in cc in
    sym (all_of ds (own.to ds all) none (rw same fits)) ∙ ap decimal same
pick ds n true true all none e fits = absurd (let h = (rw (all, none) at e) in cc)
pick ds n false b all none e fits = absurd (let h = (rw all at e) in cc)

pub numeral_takes : (ds : List ℕ) (n : ℕ) → numeral ds ≡ Some n → n < 10 ^ 64 → ds ≡ decimal n
numeral_takes ds n e fits = pick ds n (list_all is_digit ds) (has_leading_zero ds) refl refl e fits
