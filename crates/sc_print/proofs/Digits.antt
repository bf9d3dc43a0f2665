-- The digits of a number.
use Rattle.std.proofs.Common.{◌≡◌, ℕ, zero, suc, ◌+◌, ◌/◌, ◌%◌, ◌<◌, ◌≤◌, ◌^◌, Bool, true, false, ◌==◌, not, nat_lt, if◌then◌else◌, List, [], ◌∷◌, ◌++◌, refl, ap, subst, ◌∙◌, arith}
use Rattle.std.specs.Prelude.{decimal}
use Rattle.std.specs.Fmt.{digits_onto, digit_glyph, digits}
use Rattle.std.specs.List.{list_all}
use Rattle.std.proofs.lemmas.Bool.{and_from}
use Rattle.std.proofs.lemmas.Bool.Decides.{nat_tests}
use Rattle.std.proofs.lemmas.Fmt.{decimal_by_steps_wide}
use Rattle.std.proofs.lemmas.List.Folds.{list_all-append}
use Rattle.sc_text.specs.Bytes.{is_digit}
use Rattle.sc_text.specs.Grammar.{is_numeral, is_empty}

digit_at : (d : ℕ) → d < 10 → is_digit (48 + d) ≡ true
digit_at d small = grind (arith, nat_tests)

not_zero : (d : ℕ) → 0 < d → (48 + d == 48) ≡ false
not_zero d some = grind (arith, nat_tests)

-- the first digit is no 0
abbrev is_led : List ℕ → Bool
is_led [] = false
is_led (d ∷ ds) = not (d == 48)

-- a numeral; that of a number greater than 0 does not begin with a 0
record IsPlain (n : ℕ) (ds : List ℕ) : Type 0 where
  numeral : is_numeral ds ≡ true
  led : 0 < n → is_led ds ≡ true

one_numeral : (d : ℕ) (c : Bool) → is_digit d ≡ true → (if c then true else list_all is_digit (d ∷ [])) ≡ true
one_numeral d true e = refl
one_numeral d false e = and_from (is_digit d) true e refl

one : (n : ℕ) → n < 10 → IsPlain n ((48 + n) ∷ [])
one n small = record {
  numeral = one_numeral (48 + n) (48 + n == 48) (digit_at n small);
  led = λ some. ap not (not_zero n some);
}

unled : (c : Bool) → not c ≡ true → c ≡ false
unled true e = absurd cc
unled false e = refl

longer : (ds : List ℕ) (d : ℕ) → is_numeral ds ≡ true → is_led ds ≡ true → is_digit d ≡ true → (is_numeral (ds ++ d ∷ []) ≡ true) × (is_led (ds ++ d ∷ []) ≡ true)
longer [] d e f g = absurd cc
longer (b ∷ bs) d e f g =
    let some : (b == 48) ≡ false = unled (b == 48) f in
    let all : list_all is_digit (b ∷ bs) ≡ true = subst (λ (c : Bool). (if c then is_empty bs else list_all is_digit (b ∷ bs)) ≡ true) some e in
    let more : list_all is_digit ((b ∷ bs) ++ d ∷ []) ≡ true = list_all-append is_digit (b ∷ bs) (d ∷ []) ∙ and_from (list_all is_digit (b ∷ bs)) (list_all is_digit (d ∷ [])) all (and_from (is_digit d) true g refl) in
    (ap (λ (c : Bool). if c then is_empty (bs ++ d ∷ []) else list_all is_digit ((b ∷ bs) ++ d ∷ [])) some ∙ more, f)

more : (n : ℕ) (ds : List ℕ) → 10 ≤ n → IsPlain (n / 10) ds → IsPlain n (ds ++ ((48 + n % 10) ∷ []))
more n ds big plain =
    let some : 0 < n / 10 = omega arith in
    let small : n % 10 < 10 = omega arith in
    let both = longer ds (48 + n % 10) plain.numeral (plain.led some) (digit_at (n % 10) small) in
    record { numeral = both.0; led = λ some. both.1 }

pub decimal_numeral : (n : ℕ) → n < 10 ^ 64 → is_numeral (decimal n) ≡ true
decimal_numeral n fits = let plain : IsPlain n (decimal n) = decimal_by_steps_wide IsPlain one more n fits in plain.numeral

-- ---- every digit is one, whatever the number

glyph : (d : ℕ) (c : Bool) → d < 10 → nat_lt d 10 ≡ c → is_digit (if c then 48 + d else (if false then 55 + d else 87 + d)) ≡ true
glyph d true small e = digit_at d small
glyph d false small e = absurd (grind (arith, nat_tests))

glyph_digit : (n : ℕ) → is_digit (digit_glyph false (n % 10)) ≡ true
glyph_digit n = glyph (n % 10) (nat_lt (n % 10) 10) (omega arith) refl

onto_by : (c : Bool) (xs ys : List ℕ) → list_all is_digit xs ≡ true → list_all is_digit ys ≡ true → list_all is_digit (if c then xs else ys) ≡ true
onto_by true xs ys e f = e
onto_by false xs ys e f = f

onto : (k n : ℕ) (acc : List ℕ) → list_all is_digit acc ≡ true → list_all is_digit (digits_onto k 10 false n acc) ≡ true
onto zero n acc e = e
onto (suc k) n acc e =
    let longer : list_all is_digit (digit_glyph false (n % 10) ∷ acc) ≡ true = and_from (is_digit (digit_glyph false (n % 10))) (list_all is_digit acc) (glyph_digit n) e in
    onto_by (n / 10 == 0) (digit_glyph false (n % 10) ∷ acc) (digits_onto k 10 false (n / 10) (digit_glyph false (n % 10) ∷ acc)) longer (onto k (n / 10) (digit_glyph false (n % 10) ∷ acc) longer)

pub decimal_digits : (n : ℕ) → list_all is_digit (decimal n) ≡ true
unfolding digits
decimal_digits n = onto 64 n [] refl
