-- What is written of a number is read as that number.
use Rattle.std.proofs.Common.{◌≡◌, ℕ, ◌+◌, ◌/◌, ◌%◌, ◌<◌, ◌^◌, Bool, true, false, List, [], ◌∷◌, ◌++◌, Some, Ok, refl, arith, rules}
use Rattle.std.specs.Prelude.{◌==◌, decimal}
use Rattle.std.specs.List.{list_all}
use Rattle.std.proofs.lemmas.Fmt.{decimal_is_IsNumeral_wide, decimal_by_steps_wide}
use Rattle.std.proofs.lemmas.Bool.{true≢false, lt-ltb}
use Rattle.sc_deriv_text.specs.Reading.{is_digit, has_leading_zero, numeral, number}
use Rattle.sc_deriv_text.specs.Spelling.{numeral_expr}
use Rattle.sc_deriv_text.proofs.Numerals.{own}

abbrev starts_zero : List ℕ → Bool
starts_zero [] = true
starts_zero (d ∷ ds) = d == 48

-- digits without a zero before others
record Leads (n : ℕ) (ds : List ℕ) : Type 0 where
  none : has_leading_zero ds ≡ false
  first : 0 < n → starts_zero ds ≡ false

leads_one : (n : ℕ) → n < 10 → Leads n ((48 + n) ∷ [])
leads_one n lt = record { none = refl; first = λ h. grind arith }

leads_more : (n m : ℕ) (ds : List ℕ) (d : ℕ) → 0 < m → Leads m ds → Leads n (ds ++ (d ∷ []))
leads_more n m [] d h p = absurd (true≢false (p.first h))
leads_more n m (x ∷ []) d h p = record { none = p.first h; first = λ k. p.first h }
leads_more n m (x ∷ y ∷ ds) d h p = record { none = p.first h; first = λ k. p.first h }

leads : (n : ℕ) → n < 10 ^ 64 → Leads n (decimal n)
leads n lt = decimal_by_steps_wide Leads leads_one (λ m ds ten p. leads_more m (m / 10) ds (48 + m % 10) (omega arith) p) n lt

pub numeral_again : (n : ℕ) → n < 10 ^ 64 → numeral (decimal n) ≡ Some n
numeral_again n lt =
    let p = decimal_is_IsNumeral_wide n lt in
    let all : list_all is_digit (decimal n) ≡ true = own.from (decimal n) (let q = p.0 in search (rules, q)) in
    rw (all, (leads n lt).none, p.1) refl

pub number_again : (n : ℕ) → n < 2 ^ 32 → number (numeral_expr n) ≡ Ok n
number_again n lt = rw (numeral_again n (omega (arith, lt)), lt-ltb n (2 ^ 32) lt) refl
