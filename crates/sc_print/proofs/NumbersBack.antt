-- Printed numbers are read back.
use Rattle.std.proofs.Common.{◌≡◌, ℕ, pos, negsuc, suc, ◌<◌, ◌^◌, Bool, true, false, ◌==◌, if◌then◌else◌, List, [], ◌∷◌, ◌++◌, Option, Some, None, refl, sym, subst, arith, append_assoc}
use Rattle.std.specs.Prelude.{codes, decimal}
use Rattle.std.specs.Str.Parse.{digits_value}
use Rattle.std.specs.List.{list_all}
use Rattle.std.proofs.lemmas.Bool.{and_parts}
use Rattle.std.proofs.lemmas.Fmt.{decimal_is_IsNumeral_wide}
use Rattle.sc_text.specs.declared.token.Kind.{Kind}
use Rattle.sc_text.specs.declared.token.Kind.TheVariants as kind
use Rattle.sc_text.specs.Bytes.{is_digit, is_symbol_byte}
use Rattle.sc_text.specs.Grammar.{is_empty, is_based, is_numeral, is_decimal, stretch_kind}
use Rattle.sc_text.specs.Readings.{Lexeme, Left, Right, Numeral, Word, Begins}
use Rattle.sc_print.specs.Readback.{is_apart, NumbersReadBack}
use Rattle.sc_print.proofs.Digits.{decimal_numeral, decimal_digits}
use Rattle.sc_print.proofs.Bytes.{plain_byte, digits_symbol, digit_symbol, minus_simple, space_after, right_after}
use Rattle.sc_print.proofs.Tokens.{word, left, right, and_then, spaced}
use Rattle.sc_print.proofs.SymbolsBack.{bare}

numeral_by : (colon hash digit numeral : Bool) (k l o : Option Kind) (rest : Option Kind) → colon ≡ false → hash ≡ false → digit ≡ true → numeral ≡ true → (if colon then k else if hash then l else if digit then (if numeral then Some kind.Numeral else o) else rest) ≡ Some kind.Numeral
numeral_by colon hash digit numeral k l o rest c h d n = rw (c, h, d, n) refl

numeral_at : (ds rest : List ℕ) → is_numeral ds ≡ true → list_all is_digit ds ≡ true → is_apart rest ≡ true → Begins true (ds ++ rest) (Numeral ds ∷ []) rest
numeral_at [] rest e f g = absurd cc
numeral_at (b ∷ bs) rest e f g =
    let parts = and_parts (is_digit b) (list_all is_digit bs) f in
    let plain = plain_byte b (digit_symbol b parts.0) in
    let is : stretch_kind (b ∷ bs) ≡ Some kind.Numeral = numeral_by (b == 58) (b == 35) (is_digit b) (is_numeral (b ∷ bs)) (if is_empty bs then None else Some kind.Keyword) (if is_based bs then Some kind.Foreign else None) (if is_decimal (b ∷ bs) then Some kind.Foreign else None) (if is_symbol_byte b then Some kind.Word else None) plain.not_colon plain.not_hash parts.0 e in
    word b bs rest kind.Numeral plain (digits_symbol bs parts.1) is g

pub decimal_at : (n : ℕ) (rest : List ℕ) → n < 10 ^ 64 → is_apart rest ≡ true → Begins true (decimal n ++ rest) (Numeral (decimal n) ∷ []) rest
decimal_at n rest fits after = numeral_at (decimal n) rest (decimal_numeral n fits) (decimal_digits n) after

pub value_is : (n : ℕ) → n < 10 ^ 64 → digits_value 10 (decimal n) ≡ n
value_is n fits = (decimal_is_IsNumeral_wide n fits).1

negative : (n : ℕ) (rest : List ℕ) → n < 10 ^ 64 → Begins true (codes "(- " ++ (decimal n ++ (41 ∷ rest))) (Left ∷ Word (codes "-") ∷ Numeral (decimal n) ∷ Right ∷ []) rest
negative n rest fits =
    let digits : Begins true (decimal n ++ (41 ∷ rest)) (Numeral (decimal n) ∷ Right ∷ []) rest =
    and_then (decimal n ++ (41 ∷ rest)) (41 ∷ rest) rest (Numeral (decimal n)) (Right ∷ []) (decimal_at n (41 ∷ rest) fits (right_after rest)) (right rest) in
    let minus : Begins true (45 ∷ 32 ∷ (decimal n ++ (41 ∷ rest))) (Word (codes "-") ∷ Numeral (decimal n) ∷ Right ∷ []) rest =
    and_then (45 ∷ 32 ∷ (decimal n ++ (41 ∷ rest))) (32 ∷ (decimal n ++ (41 ∷ rest))) rest (Word (codes "-")) (Numeral (decimal n) ∷ Right ∷ [])
    (bare (45 ∷ []) (32 ∷ (decimal n ++ (41 ∷ rest))) minus_simple (space_after (decimal n ++ (41 ∷ rest))))
    (spaced (decimal n ++ (41 ∷ rest)) rest (Numeral (decimal n)) (Right ∷ []) digits) in
    and_then (codes "(- " ++ (decimal n ++ (41 ∷ rest))) (45 ∷ 32 ∷ (decimal n ++ (41 ∷ rest))) rest Left (Word (codes "-") ∷ Numeral (decimal n) ∷ Right ∷ []) (left (45 ∷ 32 ∷ (decimal n ++ (41 ∷ rest)))) minus

pub number_reads_back : NumbersReadBack
number_reads_back (pos n) rest h after =
    let size = h.sfits in
    let fits : n < 10 ^ 64 = omega arith in
    (Numeral (decimal n) ∷ [], decimal_at n rest fits after, (decimal n, refl, value_is n fits))
number_reads_back (negsuc n) rest h after =
    let size = h.sfits in
    let fits : suc n < 10 ^ 64 = omega arith in
    let apart : (decimal (suc n) ++ (41 ∷ [])) ++ rest ≡ decimal (suc n) ++ (41 ∷ rest) = append_assoc (decimal (suc n)) (41 ∷ []) rest in
    let ts : List Lexeme = Left ∷ Word (codes "-") ∷ Numeral (decimal (suc n)) ∷ Right ∷ [] in
    (ts, subst (λ (t : List ℕ). Begins true (codes "(- " ++ t) ts rest) (sym apart) (negative (suc n) rest fits), (decimal (suc n), refl, value_is (suc n) fits))
