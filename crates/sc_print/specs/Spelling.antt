-- How symbols, numbers, abstract values and errors are spelt.
use Rattle.std.specs.Prelude.{ℕ, ℤ, pos, negsuc, suc, Bool, false, ◌&&◌, not, if◌then◌else◌, List, [], ◌∷◌, ◌++◌, codes, decimal}
use Rattle.std.specs.Fmt.{signed_decimal}
use Rattle.std.specs.List.{list_all, concat}
use Rattle.sc_text.specs.Bytes.{is_digit, is_symbol_byte}
use Rattle.sc_text.specs.Names.{is_reserved}
use Rattle.sc_text.specs.declared.code.Code.{Code}
use Rattle.sc_text.specs.declared.code.Code.TheVariants as code

-- a simple symbol of SMT-LIB 2.6, or a reserved word
abbrev pub is_simple : List ℕ → Bool
is_simple [] = false
is_simple (b ∷ bs) = not (is_digit b) && list_all is_symbol_byte (b ∷ bs)

-- what stands for itself
abbrev pub is_bare : List ℕ → Bool
is_bare name = is_simple name && not (is_reserved name)

-- bare, or between bars
abbrev pub spelt_symbol : List ℕ → List ℕ
spelt_symbol name = if is_bare name then name else 124 ∷ name ++ 124 ∷ []

-- 3, or (- 3)
abbrev pub spelt_number : ℤ → List ℕ
spelt_number (pos n) = decimal n
spelt_number (negsuc n) = concat (codes "(- " ∷ decimal (suc n) ∷ codes ")" ∷ [])

-- @U_3, or @U_-3: the name of the value n of the sort U
abbrev pub value_name : List ℕ → ℤ → List ℕ
value_name sort n = 64 ∷ sort ++ 95 ∷ signed_decimal n

-- (as @U_3 U), each of both symbols bare or between bars
abbrev pub spelt_abstract : List ℕ → ℤ → List ℕ
spelt_abstract sort n = concat (codes "(as " ∷ spelt_symbol (value_name sort n) ∷ codes " " ∷ spelt_symbol sort ∷ codes ")" ∷ [])

-- a code and its text, for a limit with its number
abbrev pub code_text : Code → List ℕ
code_text code.E1 = codes "E1 lexical fault"
code_text code.E2 = codes "E2 unmatched parenthesis"
code_text code.E3 = codes "E3 input ends inside a command"
code_text code.E4 = codes "E4 unknown command"
code_text code.E5 = codes "E5 malformed command"
code_text code.E6 = codes "E6 unknown symbol"
code_text code.E7 = codes "E7 wrong sort or number of arguments"
code_text code.E8 = codes "E8 outside the profile"
code_text code.E9 = codes "E9 name already declared or reserved"
code_text code.E10 = codes "E10 number too wide"
code_text code.E11 = codes "E11 non-linear product"
code_text code.E12 = codes "E12 pop below the first level"
code_text code.E13 = codes "E13 no model"
code_text code.E14 = codes "E14 no proof"
code_text (code.E16 n) = concat (codes "E16 limit " ∷ decimal n ∷ codes " passed" ∷ [])

-- what an error line says between its double quotes
abbrev pub error_text : ℕ → List ℕ → List ℕ
error_text line text = concat (codes "line " ∷ decimal line ∷ codes ": " ∷ text ∷ [])

-- (error "line 3: ..") with this text, and a line feed
abbrev pub error_with : ℕ → List ℕ → List ℕ
error_with line text = concat (codes "(error \"" ∷ error_text line text ∷ codes "\")" ∷ (10 ∷ []) ∷ [])

-- (error "line 3: E1 lexical fault"), and a line feed
abbrev pub spelt_error : ℕ → Code → List ℕ
spelt_error line code = error_with line (code_text code)
