-- Printed values are read back, and differ.
use Rattle.std.proofs.Common.{Bool, refl, get_or, ◌==◌, not, ◌≡◌, ℕ, ℤ, pos, negsuc, suc, ◌<◌, ◌^◌, true, false, List, [], ◌∷◌, ◌++◌, drop, FitsSigned, sym, ap, subst, ◌∙◌, arith, append_assoc}
use Rattle.std.specs.Prelude.{codes, decimal}
use Rattle.std.specs.Int.{w128}
use Rattle.std.specs.Fmt.{signed_decimal}
use Rattle.std.specs.Str.Parse.{digits_value}
use Rattle.std.specs.List.{list_all}
use Rattle.std.proofs.lemmas.Bool.{and_parts, and_from, eqb-true}
use Rattle.std.proofs.lemmas.List.Folds.{list_all-append}
use Rattle.sc_text.specs.Bytes.{is_digit}
use Rattle.sc_text.specs.Grammar.{is_quotable}
use Rattle.sc_text.specs.Readings.{Lexeme, Left, Right, Word, Begins}
use Rattle.sc_print.specs.Spelling.{spelt_symbol, value_name}
use Rattle.sc_print.specs.Readback.{IsName, ValuesReadBack, ValuesDiffer}
use Rattle.sc_print.proofs.Digits.{decimal_digits}
use Rattle.sc_print.proofs.Bytes.{symbols_quotable, signed_symbol, space_after, right_after, as_simple}
use Rattle.sc_print.proofs.Tokens.{left, right, and_then, spaced}
use Rattle.sc_print.proofs.SymbolsBack.{bare, symbol_reads_back}
use Rattle.sc_print.proofs.NumbersBack.{value_is}

-- ---- read back

name_quotable : (sort : List ℕ) (n : ℤ) → IsName sort → IsName (value_name sort n)
name_quotable sort n e =
    list_all-append is_quotable sort (95 ∷ signed_decimal n) ∙ and_from (list_all is_quotable sort) (list_all is_quotable (95 ∷ signed_decimal n)) e (symbols_quotable (signed_decimal n) (signed_symbol n))

value_parts : (first second rest : List ℕ) (t u : Lexeme) → Begins true (first ++ (32 ∷ (second ++ (41 ∷ rest)))) (t ∷ []) (32 ∷ (second ++ (41 ∷ rest))) → Begins true (second ++ (41 ∷ rest)) (u ∷ []) (41 ∷ rest) → Begins true (codes "(as " ++ (first ++ (32 ∷ (second ++ (41 ∷ rest))))) (Left ∷ Word (codes "as") ∷ t ∷ u ∷ Right ∷ []) rest
value_parts first second rest t u one two =
    let tail : List ℕ = second ++ (41 ∷ rest) in
    let whole : List ℕ = first ++ (32 ∷ tail) in
    let last : Begins true tail (u ∷ Right ∷ []) rest = and_then tail (41 ∷ rest) rest u (Right ∷ []) two (right rest) in
    let both : Begins true whole (t ∷ u ∷ Right ∷ []) rest = and_then whole (32 ∷ tail) rest t (u ∷ Right ∷ []) one (spaced tail rest u (Right ∷ []) last) in
    let head : Begins true (codes "as " ++ whole) (Word (codes "as") ∷ t ∷ u ∷ Right ∷ []) rest =
    and_then (codes "as " ++ whole) (32 ∷ whole) rest (Word (codes "as")) (t ∷ u ∷ Right ∷ []) (bare (codes "as") (32 ∷ whole) as_simple (space_after whole)) (spaced whole rest t (u ∷ Right ∷ []) both) in
    and_then (codes "(as " ++ whole) (codes "as " ++ whole) rest Left (Word (codes "as") ∷ t ∷ u ∷ Right ∷ []) (left (codes "as " ++ whole)) head

flat : (first second rest : List ℕ) → (first ++ (32 ∷ (second ++ (41 ∷ [])))) ++ rest ≡ first ++ (32 ∷ (second ++ (41 ∷ rest)))
flat first second rest = append_assoc first (32 ∷ (second ++ (41 ∷ []))) rest ∙ ap (λ (t : List ℕ). first ++ (32 ∷ t)) (append_assoc second (41 ∷ []) rest)

pub value_reads_back : ValuesReadBack
value_reads_back sort rest n e h =
    let first : List ℕ = spelt_symbol (value_name sort n) in
    let second : List ℕ = spelt_symbol sort in
    let one = symbol_reads_back (value_name sort n) (32 ∷ (second ++ (41 ∷ rest))) (name_quotable sort n e) (space_after (second ++ (41 ∷ rest))) in
    let two = symbol_reads_back sort (41 ∷ rest) e (right_after rest) in
    (one.0, two.0, subst (λ (x : List ℕ). Begins true (codes "(as " ++ x) (Left ∷ Word (codes "as") ∷ one.0 ∷ two.0 ∷ Right ∷ []) rest) (sym (flat first second rest)) (value_parts first second rest one.0 two.0 one.1 two.1), one.2, two.2)

-- ---- they differ

-- no number begins with a minus
minus_apart : (m n : ℕ) → decimal m ≡ 45 ∷ decimal n → ⊥
minus_apart m n e = let no : false ≡ true = sym (ap (list_all is_digit) e) ∙ decimal_digits m in absurd cc

signed_differ : (m n : ℤ) → FitsSigned w128 m → FitsSigned w128 n → signed_decimal m ≡ signed_decimal n → m ≡ n
signed_differ (pos m) (pos n) g h e =
    let one = g.sfits in let two = h.sfits in
    let low : m < 10 ^ 64 = omega arith in let high : n < 10 ^ 64 = omega arith in
    ap pos (sym (value_is m low) ∙ (ap (digits_value 10) e ∙ value_is n high))
signed_differ (pos m) (negsuc n) g h e = absurd (minus_apart m (suc n) e)
signed_differ (negsuc m) (pos n) g h e = absurd (minus_apart n (suc m) (sym e))
signed_differ (negsuc m) (negsuc n) g h e =
    let one = g.sfits in let two = h.sfits in
    let low : suc m < 10 ^ 64 = omega arith in let high : suc n < 10 ^ 64 = omega arith in
    let same : suc m ≡ suc n = sym (value_is (suc m) low) ∙ (ap (digits_value 10) (ap (drop 1) e) ∙ value_is (suc n) high) in
    let less : m ≡ n = omega (arith, same) in
    ap negsuc less

-- a number has no underscore
abbrev is_other : ℕ → Bool
is_other b = not (b == 95)

other_by : (b : ℕ) (c : Bool) → (b == 95) ≡ c → is_digit b ≡ true → not c ≡ true
other_by b true e f = let same : b ≡ 95 = eqb-true b 95 e in let no : false ≡ true = ap is_digit (sym same) ∙ f in absurd cc
other_by b false e f = refl

digits_other : (ds : List ℕ) → list_all is_digit ds ≡ true → list_all is_other ds ≡ true
digits_other [] e = refl
digits_other (d ∷ ds) e =
    let parts = and_parts (is_digit d) (list_all is_digit ds) e in
    and_from (is_other d) (list_all is_other ds) (other_by d (d == 95) refl parts.0) (digits_other ds parts.1)

signed_other : (n : ℤ) → list_all is_other (signed_decimal n) ≡ true
signed_other (pos n) = digits_other (decimal n) (decimal_digits n)
signed_other (negsuc n) = digits_other (decimal (suc n)) (decimal_digits (suc n))

-- the last underscore is no part of a text without one
not_within : (text sort number : List ℕ) → list_all is_other text ≡ true → text ≡ sort ++ (95 ∷ number) → ⊥
not_within text sort number e f =
    let whole : list_all is_other (sort ++ (95 ∷ number)) ≡ true = ap (list_all is_other) (sym f) ∙ e in
    let parts = and_parts (list_all is_other sort) false (sym (list_all-append is_other sort (95 ∷ number)) ∙ whole) in
    let no : false ≡ true = parts.1 in absurd cc

splits_once : (sort other x y : List ℕ) → list_all is_other x ≡ true → list_all is_other y ≡ true → sort ++ (95 ∷ x) ≡ other ++ (95 ∷ y) → (sort ≡ other) × (x ≡ y)
splits_once [] [] x y e f same = (refl, ap (drop 1) same)
splits_once [] (c ∷ cs) x y e f same = absurd (not_within x cs y e (ap (drop 1) same))
splits_once (b ∷ bs) [] x y e f same = absurd (not_within y bs x f (ap (drop 1) (sym same)))
splits_once (b ∷ bs) (c ∷ cs) x y e f same =
    let later = splits_once bs cs x y e f (ap (drop 1) same) in
    let heads : b ≡ c = ap (λ (t : List ℕ). get_or t 0 0) same in
    (ap (λ (h : ℕ). h ∷ bs) heads ∙ ap (λ (t : List ℕ). c ∷ t) later.0, later.1)

pub values_differ : ValuesDiffer
values_differ sort other m n g h e =
    let parts = splits_once sort other (signed_decimal m) (signed_decimal n) (signed_other m) (signed_other n) (ap (drop 1) e) in
    (parts.0, signed_differ m n g h parts.1)
