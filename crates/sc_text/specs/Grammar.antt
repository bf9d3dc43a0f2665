-- The tokens by their spelling: longest stretches of symbol bytes, and quotations.
use Rattle.std.specs.Prelude.{◌≡◌, ◌≢◌, ℕ, ◌+◌, Bool, true, false, ◌&&◌, ◌||◌, ◌==◌, not, if◌then◌else◌, List, [], ◌∷◌, ◌++◌, length, take_while, Option, Some, None}
use Rattle.std.specs.List.{list_all}
use Rattle.sc_text.specs.declared.token.Kind.{Kind}
use Rattle.sc_text.specs.declared.token.Kind.TheVariants as kind
use Rattle.sc_text.specs.declared.mode.Mode.TheVariants as mode
use Rattle.sc_text.specs.Bytes.{is_digit, is_hex_digit, is_binary_digit, is_symbol_byte}
use Rattle.sc_text.specs.declared.front.Front.TheVariants.{Token, Open, Broken}
use Rattle.sc_text.specs.Modes.{run}
use Rattle.sc_text.specs.Fronts.{ended, front_of}

abbrev pub is_some_of : (ℕ → Bool) → List ℕ → Bool
is_some_of p [] = false
is_some_of p (b ∷ bs) = list_all p (b ∷ bs)

abbrev pub is_empty : List ℕ → Bool
is_empty [] = true
is_empty (b ∷ bs) = false

-- 0, or digits without a leading 0
abbrev pub is_numeral : List ℕ → Bool
is_numeral [] = false
is_numeral (b ∷ bs) = if b == 48 then is_empty bs else list_all is_digit (b ∷ bs)

-- a dot and digits
abbrev pub is_fraction : List ℕ → Bool
is_fraction [] = false
is_fraction (b ∷ bs) = b == 46 && is_some_of is_digit bs

abbrev pub after_digits : List ℕ → List ℕ
after_digits [] = []
after_digits (b ∷ bs) = if is_digit b then after_digits bs else b ∷ bs

-- a numeral, a dot and digits
abbrev pub is_decimal : List ℕ → Bool
is_decimal bs = is_numeral (take_while is_digit bs) && is_fraction (after_digits bs)

-- x and hexadecimal digits, or b and binary digits
abbrev pub is_based : List ℕ → Bool
is_based [] = false
is_based (b ∷ bs) = if b == 120 then is_some_of is_hex_digit bs else b == 98 && is_some_of is_binary_digit bs

-- What a longest stretch of symbol bytes is, or none: a colon or a # may stand before it.
abbrev pub stretch_kind : List ℕ → Option Kind
stretch_kind [] = None
stretch_kind (b ∷ bs) =
    if b == 58 then if is_empty bs then None else Some kind.Keyword
    else if b == 35 then if is_based bs then Some kind.Foreign else None
    else if is_digit b then if is_numeral (b ∷ bs) then Some kind.Numeral else if is_decimal (b ∷ bs) then Some kind.Foreign else None
    else if is_symbol_byte b then Some kind.Word
    else None

abbrev pub stretch : List ℕ → List ℕ
stretch [] = []
stretch (b ∷ bs) = b ∷ take_while is_symbol_byte bs

-- no quotation and no parenthesis begins
abbrev pub IsBare : ℕ → Type 0
IsBare b = (b ≢ 34) × (b ≢ 124) × (b ≢ 40) × (b ≢ 41)

-- Where no quotation and no parenthesis begins, the token is the whole longest stretch, or there is none.
abbrev pub AreStretches : Type 0
AreStretches = (b : ℕ) (bs : List ℕ) → IsBare b → front_of true (run mode.Start (b ∷ bs)) ≡ ended (length (stretch (b ∷ bs))) (stretch_kind (stretch (b ∷ bs)))

-- what may stand between bars: every byte but a bar and a backslash
abbrev pub is_quotable : ℕ → Bool
is_quotable b = not (b == 124 || b == 92)

-- what stands between double quotes for these bytes: a quote is written twice
abbrev pub escaped : List ℕ → List ℕ
escaped [] = []
escaped (b ∷ bs) = if b == 34 then 34 ∷ 34 ∷ escaped bs else b ∷ escaped bs

-- A parenthesis is a token. A quoted symbol ends with its second bar, and holds no backslash. A literal ends with a quote behind which no other one stands.
pub record AreQuotations : Type 0 where
  pub left : (last : Bool) (rest : List ℕ) → front_of last (run mode.Start (40 ∷ rest)) ≡ Token kind.Left 1
  pub right : (last : Bool) (rest : List ℕ) → front_of last (run mode.Start (41 ∷ rest)) ≡ Token kind.Right 1
  pub quoted : (last : Bool) (body rest : List ℕ) → list_all is_quotable body ≡ true → front_of last (run mode.Start (124 ∷ body ++ 124 ∷ rest)) ≡ Token kind.Quoted (length body + 2)
  pub quoted_backslash : (last : Bool) (body rest : List ℕ) → list_all is_quotable body ≡ true → front_of last (run mode.Start (124 ∷ body ++ 92 ∷ rest)) ≡ Broken
  pub quoted_open : (last : Bool) (body : List ℕ) → list_all is_quotable body ≡ true → front_of last (run mode.Start (124 ∷ body)) ≡ (if last then Broken else Open)
  pub literal : (last : Bool) (content rest : List ℕ) (b : ℕ) → b ≢ 34 → front_of last (run mode.Start (34 ∷ escaped content ++ 34 ∷ b ∷ rest)) ≡ Token kind.Literal (length (escaped content) + 2)
  pub literal_at_end : (last : Bool) (content : List ℕ) → front_of last (run mode.Start (34 ∷ escaped content ++ 34 ∷ [])) ≡ (if last then Token kind.Literal (length (escaped content) + 2) else Open)
  pub literal_open : (last : Bool) (content : List ℕ) → front_of last (run mode.Start (34 ∷ escaped content)) ≡ (if last then Broken else Open)
