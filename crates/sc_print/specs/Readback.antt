-- What is printed, read back as tokens.
use Rattle.std.specs.Prelude.{◌≡◌, ℕ, ℤ, pos, negsuc, suc, Bool, true, false, not, List, [], ◌∷◌, ◌++◌, codes, FitsSigned}
use Rattle.std.specs.List.{list_all}
use Rattle.std.specs.Int.{w128}
use Rattle.std.specs.Str.Parse.{digits_value}
use Rattle.sc_text.specs.Bytes.{is_symbol_byte}
use Rattle.sc_text.specs.Names.{is_reserved}
use Rattle.sc_text.specs.Grammar.{is_quotable}
use Rattle.sc_text.specs.Readings.{Lexeme, Left, Right, Numeral, Literal, Word, Quoted, Begins}
use Rattle.sc_text.specs.declared.code.Code.{Code}
use Rattle.sc_print.specs.Spelling.{spelt_symbol, spelt_number, value_name, spelt_abstract, code_text, error_text, spelt_error}

-- what a quoted symbol holds between its bars: neither a bar nor a backslash
abbrev pub IsName : List ℕ → Type 0
IsName name = list_all is_quotable name ≡ true

-- No symbol byte stands at the front: a token that ends before this text is not lengthened by it.
abbrev pub is_apart : List ℕ → Bool
is_apart [] = true
is_apart (b ∷ bs) = not (is_symbol_byte b)

-- The token is this symbol: a word that is not reserved, or the bytes between two bars.
abbrev pub IsSymbol : Lexeme → List ℕ → Type 0
IsSymbol (Word text) name = (text ≡ name) × (is_reserved text ≡ false)
IsSymbol (Quoted text) name = text ≡ 124 ∷ name ++ 124 ∷ []
IsSymbol t name = ⊥

-- The tokens are this number: a numeral, or `(- n)` for the numeral n of a negative number's size.
abbrev pub AreNumber : List Lexeme → ℤ → Type 0
AreNumber ts (pos n) = (ds : List ℕ) × (ts ≡ Numeral ds ∷ []) × (digits_value 10 ds ≡ n)
AreNumber ts (negsuc n) = (ds : List ℕ) × (ts ≡ Left ∷ Word (codes "-") ∷ Numeral ds ∷ Right ∷ []) × (digits_value 10 ds ≡ suc n)

-- A printed symbol is one token, and this is the symbol.
abbrev pub SymbolsReadBack : Type 0
SymbolsReadBack = (name rest : List ℕ) → IsName name → is_apart rest ≡ true → (t : Lexeme) × Begins true (spelt_symbol name ++ rest) (t ∷ []) rest × IsSymbol t name

-- A printed number is a numeral, or a minus and a numeral between parentheses, and this is the number.
abbrev pub NumbersReadBack : Type 0
NumbersReadBack = (n : ℤ) (rest : List ℕ) → FitsSigned w128 n → is_apart rest ≡ true → (ts : List Lexeme) × Begins true (spelt_number n ++ rest) ts rest × AreNumber ts n

-- A printed value is `(as v U)` for the symbols of the value and its sort.
abbrev pub ValuesReadBack : Type 0
ValuesReadBack = (sort rest : List ℕ) (n : ℤ) → IsName sort → FitsSigned w128 n → (t u : Lexeme) × Begins true (spelt_abstract sort n ++ rest) (Left ∷ Word (codes "as") ∷ t ∷ u ∷ Right ∷ []) rest × IsSymbol t (value_name sort n) × IsSymbol u sort

-- A value's name tells its sort and its number.
abbrev pub ValuesDiffer : Type 0
ValuesDiffer = (sort other : List ℕ) (m n : ℤ) → FitsSigned w128 m → FitsSigned w128 n → value_name sort m ≡ value_name other n → (sort ≡ other) × (m ≡ n)

-- A printed error is `(error l)` for the literal l of its text, and then a line feed.
abbrev pub ErrorsReadBack : Type 0
ErrorsReadBack = (line : ℕ) (code : Code) (rest : List ℕ) → Begins true (spelt_error line code ++ rest) (Left ∷ Word (codes "error") ∷ Literal (34 ∷ error_text line (code_text code) ++ 34 ∷ []) ∷ Right ∷ []) (10 ∷ rest)
