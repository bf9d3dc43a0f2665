-- Printed errors are read back.
use Rattle.std.proofs.Common.{◌≡◌, ◌≢◌, ℕ, ◌+◌, Bool, true, false, ◌==◌, not, if◌then◌else◌, List, [], ◌∷◌, ◌++◌, length, refl, sym, ap, subst, ◌∙◌, arith, append_assoc}
use Rattle.std.specs.Prelude.{codes, decimal}
use Rattle.std.specs.List.{list_all}
use Rattle.std.proofs.lemmas.Bool.{and_parts, and_from}
use Rattle.std.proofs.lemmas.List.{length-append}
use Rattle.std.proofs.lemmas.List.Folds.{list_all-append}
use Rattle.sc_text.specs.declared.code.Code.{Code}
use Rattle.sc_text.specs.declared.code.Code.TheVariants as code
use Rattle.sc_text.specs.declared.token.Kind.TheVariants as kind
use Rattle.sc_text.specs.declared.mode.Mode.TheVariants as mode
use Rattle.sc_text.specs.declared.front.Front.TheVariants.{Token as Found}
use Rattle.sc_text.specs.Bytes.{is_digit}
use Rattle.sc_text.specs.Modes.{run}
use Rattle.sc_text.specs.Fronts.{front_of}
use Rattle.sc_text.specs.Grammar.{escaped}
use Rattle.sc_text.specs.Readings.{Lexeme, Left, Right, Literal, Word, Begins}
use Rattle.sc_text.proofs.Quotations.{are_quotations}
use Rattle.sc_print.specs.Spelling.{code_text, error_text}
use Rattle.sc_print.specs.Readback.{ErrorsReadBack}
use Rattle.sc_print.proofs.Digits.{decimal_digits}
use Rattle.sc_print.proofs.Bytes.{digit_symbol, symbol_unquoted, error_simple, space_after}
use Rattle.sc_print.proofs.Tokens.{token, left, right, and_then, spaced}
use Rattle.sc_print.proofs.SymbolsBack.{bare}

-- ---- no double quote stands in an error's text

abbrev AreUnquoted : List ℕ → Type 0
AreUnquoted text = list_all (λ b. not (b == 34)) text ≡ true

both_unquoted : (first second : List ℕ) → AreUnquoted first → AreUnquoted second → AreUnquoted (first ++ second)
both_unquoted first second e f =
    list_all-append (λ b. not (b == 34)) first second ∙ and_from (list_all (λ b. not (b == 34)) first) (list_all (λ b. not (b == 34)) second) e f

digits_unquoted : (ds : List ℕ) → list_all is_digit ds ≡ true → AreUnquoted ds
digits_unquoted [] e = refl
digits_unquoted (d ∷ ds) e =
    let parts = and_parts (is_digit d) (list_all is_digit ds) e in
    and_from (not (d == 34)) (list_all (λ b. not (b == 34)) ds) (symbol_unquoted d (digit_symbol d parts.0)) (digits_unquoted ds parts.1)

decimal_unquoted : (n : ℕ) → AreUnquoted (decimal n)
decimal_unquoted n = digits_unquoted (decimal n) (decimal_digits n)

code_unquoted : (c : Code) → AreUnquoted (code_text c)
code_unquoted code.E1 = refl
code_unquoted code.E2 = refl
code_unquoted code.E3 = refl
code_unquoted code.E4 = refl
code_unquoted code.E5 = refl
code_unquoted code.E6 = refl
code_unquoted code.E7 = refl
code_unquoted code.E8 = refl
code_unquoted code.E9 = refl
code_unquoted code.E10 = refl
code_unquoted code.E11 = refl
code_unquoted code.E12 = refl
code_unquoted code.E13 = refl
code_unquoted code.E14 = refl
code_unquoted (code.E16 n) = both_unquoted (decimal n) (codes " passed") (decimal_unquoted n) refl

text_unquoted : (line : ℕ) (c : Code) → AreUnquoted (error_text line (code_text c))
text_unquoted line c =
    both_unquoted (decimal line) (codes ": " ++ (code_text c ++ [])) (decimal_unquoted line) (both_unquoted (code_text c) [] (code_unquoted c) refl)

-- ---- so it stands between double quotes as it is

escaped_by : (quote : Bool) (b : ℕ) (bs : List ℕ) → not quote ≡ true → escaped bs ≡ bs → (if quote then 34 ∷ 34 ∷ escaped bs else b ∷ escaped bs) ≡ b ∷ bs
escaped_by true b bs e f = absurd cc
escaped_by false b bs e f = ap (λ (t : List ℕ). b ∷ t) f

same_escaped : (text : List ℕ) → AreUnquoted text → escaped text ≡ text
same_escaped [] e = refl
same_escaped (b ∷ bs) e =
    let parts = and_parts (not (b == 34)) (list_all (λ c. not (c == 34)) bs) e in
    escaped_by (b == 34) b bs parts.0 (same_escaped bs parts.1)

right_is_other : ◌≢◌ {A = ℕ} 41 34
right_is_other e = absurd (omega (arith, e))

quoted_length : (text : List ℕ) → length text + 2 ≡ length (34 ∷ (text ++ (34 ∷ [])))
quoted_length text = let e : length (text ++ (34 ∷ [])) ≡ length text + 1 = length-append text (34 ∷ []) in omega (arith, e)

literal_front : (text rest : List ℕ) → AreUnquoted text → front_of true (run mode.Start (34 ∷ (text ++ (34 ∷ 41 ∷ rest)))) ≡ Found kind.Literal (length text + 2)
literal_front text rest e =
    subst (λ (t : List ℕ). front_of true (run mode.Start (34 ∷ (t ++ (34 ∷ 41 ∷ rest)))) ≡ Found kind.Literal (length t + 2)) (same_escaped text e) (are_quotations.literal true text rest 41 right_is_other)

literal : (text rest : List ℕ) → AreUnquoted text → Begins true (34 ∷ ((text ++ (34 ∷ [])) ++ (41 ∷ rest))) (Literal (34 ∷ (text ++ (34 ∷ []))) ∷ []) (41 ∷ rest)
literal text rest e =
    token 34 (text ++ (34 ∷ [])) (41 ∷ rest) kind.Literal refl
    (ap (λ (t : List ℕ). front_of true (run mode.Start (34 ∷ t))) (append_assoc text (34 ∷ []) (41 ∷ rest)) ∙ (literal_front text rest e ∙ ap (λ (n : ℕ). Found kind.Literal n) (quoted_length text)))

-- ---- the whole line

line_parts : (text rest : List ℕ) → AreUnquoted text → Begins true (codes "(error " ++ (34 ∷ ((text ++ (34 ∷ [])) ++ (41 ∷ rest)))) (Left ∷ Word (codes "error") ∷ Literal (34 ∷ (text ++ (34 ∷ []))) ∷ Right ∷ []) rest
line_parts text rest e =
    let message : Lexeme = Literal (34 ∷ (text ++ (34 ∷ []))) in
    let tail : List ℕ = 34 ∷ ((text ++ (34 ∷ [])) ++ (41 ∷ rest)) in
    let last : Begins true tail (message ∷ Right ∷ []) rest = and_then tail (41 ∷ rest) rest message (Right ∷ []) (literal text rest e) (right rest) in
    let head : Begins true (codes "error " ++ tail) (Word (codes "error") ∷ message ∷ Right ∷ []) rest =
    and_then (codes "error " ++ tail) (32 ∷ tail) rest (Word (codes "error")) (message ∷ Right ∷ []) (bare (codes "error") (32 ∷ tail) error_simple (space_after tail)) (spaced tail rest message (Right ∷ []) last) in
    and_then (codes "(error " ++ tail) (codes "error " ++ tail) rest Left (Word (codes "error") ∷ message ∷ Right ∷ []) (left (codes "error " ++ tail)) head

flat : (text rest : List ℕ) → (text ++ (34 ∷ 41 ∷ 10 ∷ [])) ++ rest ≡ (text ++ (34 ∷ [])) ++ (41 ∷ 10 ∷ rest)
flat text rest = append_assoc text (34 ∷ 41 ∷ 10 ∷ []) rest ∙ sym (append_assoc text (34 ∷ []) (41 ∷ 10 ∷ rest))

pub error_reads_back : ErrorsReadBack
error_reads_back line c rest =
    let text : List ℕ = error_text line (code_text c) in
    subst (λ (x : List ℕ). Begins true (codes "(error " ++ (34 ∷ x)) (Left ∷ Word (codes "error") ∷ Literal (34 ∷ (text ++ (34 ∷ []))) ∷ Right ∷ []) (10 ∷ rest)) (sym (flat text rest)) (line_parts text (10 ∷ rest) (text_unquoted line c))
