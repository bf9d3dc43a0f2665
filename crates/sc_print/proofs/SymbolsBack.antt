-- Printed symbols are read back.
use Rattle.std.proofs.Common.{◌≡◌, ℕ, ◌+◌, Bool, true, false, ◌==◌, not, if◌then◌else◌, List, [], ◌∷◌, ◌++◌, length, Option, Some, None, refl, ap, ◌∙◌, arith, append_assoc}
use Rattle.std.specs.List.{list_all}
use Rattle.std.proofs.lemmas.Bool.{and_parts, not-true}
use Rattle.std.proofs.lemmas.List.{length-append}
use Rattle.sc_text.specs.declared.token.Kind.{Kind}
use Rattle.sc_text.specs.declared.token.Kind.TheVariants as kind
use Rattle.sc_text.specs.declared.mode.Mode.TheVariants as mode
use Rattle.sc_text.specs.declared.front.Front.TheVariants.{Token as Found}
use Rattle.sc_text.specs.Bytes.{is_digit, is_symbol_byte}
use Rattle.sc_text.specs.Names.{is_reserved}
use Rattle.sc_text.specs.Modes.{run}
use Rattle.sc_text.specs.Fronts.{front_of}
use Rattle.sc_text.specs.Grammar.{is_empty, is_based, is_numeral, is_decimal, stretch_kind}
use Rattle.sc_text.specs.Readings.{Lexeme, Word, Quoted, Begins}
use Rattle.sc_text.proofs.Quotations.{are_quotations}
use Rattle.sc_print.specs.Spelling.{is_simple, is_bare}
use Rattle.sc_print.specs.Readback.{IsName, is_apart, IsSymbol, SymbolsReadBack}
use Rattle.sc_print.proofs.Bytes.{IsPlainByte, plain_byte}
use Rattle.sc_print.proofs.Tokens.{token, word}

-- ---- bare

word_by : (colon hash digit symbol : Bool) (k l : Option Kind) (m : Option Kind) → colon ≡ false → hash ≡ false → digit ≡ false → symbol ≡ true → (if colon then k else if hash then l else if digit then m else if symbol then Some kind.Word else None) ≡ Some kind.Word
word_by colon hash digit symbol k l m c h d s = rw (c, h, d, s) refl

word_kind : (b : ℕ) (bs : List ℕ) → IsPlainByte b → is_digit b ≡ false → is_symbol_byte b ≡ true → stretch_kind (b ∷ bs) ≡ Some kind.Word
word_kind b bs plain apart symbol =
    word_by (b == 58) (b == 35) (is_digit b) (is_symbol_byte b) (if is_empty bs then None else Some kind.Keyword) (if is_based bs then Some kind.Foreign else None) (if is_numeral (b ∷ bs) then Some kind.Numeral else if is_decimal (b ∷ bs) then Some kind.Foreign else None) plain.not_colon plain.not_hash apart symbol

pub bare : (name rest : List ℕ) → is_simple name ≡ true → is_apart rest ≡ true → Begins true (name ++ rest) (Word name ∷ []) rest
bare [] rest e f = absurd cc
bare (b ∷ bs) rest e f =
    let parts = and_parts (not (is_digit b)) (list_all is_symbol_byte (b ∷ bs)) e in
    let bytes = and_parts (is_symbol_byte b) (list_all is_symbol_byte bs) parts.1 in
    let plain = plain_byte b bytes.0 in
    word b bs rest kind.Word plain bytes.1 (word_kind b bs plain (not-true (is_digit b) parts.0) bytes.0) f

-- ---- between bars

barred_length : (name : List ℕ) → length name + 2 ≡ length (124 ∷ (name ++ (124 ∷ [])))
barred_length name = let e : length (name ++ (124 ∷ [])) ≡ length name + 1 = length-append name (124 ∷ []) in omega (arith, e)

pub barred : (name rest : List ℕ) → IsName name → Begins true (124 ∷ ((name ++ (124 ∷ [])) ++ rest)) (Quoted (124 ∷ (name ++ (124 ∷ []))) ∷ []) rest
barred name rest e =
    let apart : (name ++ (124 ∷ [])) ++ rest ≡ name ++ (124 ∷ rest) = append_assoc name (124 ∷ []) rest in
    token 124 (name ++ (124 ∷ [])) rest kind.Quoted refl
    (ap (λ (t : List ℕ). front_of true (run mode.Start (124 ∷ t))) apart ∙ (are_quotations.quoted true name rest e ∙ ap (λ (n : ℕ). Found kind.Quoted n) (barred_length name)))

-- ---- either

by_bare : (name rest : List ℕ) (c : Bool) → is_bare name ≡ c → IsName name → is_apart rest ≡ true → (t : Lexeme) × Begins true ((if c then name else 124 ∷ name ++ 124 ∷ []) ++ rest) (t ∷ []) rest × IsSymbol t name
by_bare name rest true e f g =
    let parts = and_parts (is_simple name) (not (is_reserved name)) e in
    (Word name, bare name rest parts.0 g, (refl, not-true (is_reserved name) parts.1))
by_bare name rest false e f g = (Quoted (124 ∷ (name ++ (124 ∷ []))), barred name rest f, refl)

pub symbol_reads_back : SymbolsReadBack
symbol_reads_back name rest e f = by_bare name rest (is_bare name) refl e f
