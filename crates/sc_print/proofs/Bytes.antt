-- The bytes of symbols and numbers.
use Rattle.std.proofs.Common.{◌≡◌, ◌≢◌, ℕ, ℤ, pos, negsuc, suc, Bool, true, false, ◌||◌, ◌==◌, not, List, [], ◌∷◌, refl, sym, ap, ◌∙◌}
use Rattle.std.specs.Prelude.{codes, decimal}
use Rattle.std.specs.Fmt.{signed_decimal}
use Rattle.std.specs.List.{list_all}
use Rattle.std.proofs.lemmas.Bool.{eqb-true, and_parts, and_from}
use Rattle.sc_text.specs.Bytes.{is_white, is_digit, is_letter, is_mark, is_symbol_byte}
use Rattle.sc_text.specs.Grammar.{IsBare, is_quotable}
use Rattle.sc_print.specs.Spelling.{is_simple}
use Rattle.sc_print.specs.Readback.{is_apart}
use Rattle.sc_print.proofs.Digits.{decimal_digits}

or_left : (a b : Bool) → a ≡ true → (a || b) ≡ true
or_left true b e = refl
or_left false b e = absurd cc

or_right : (a b : Bool) → b ≡ true → (a || b) ≡ true
or_right true b e = refl
or_right false b e = e

pub digit_symbol : (b : ℕ) → is_digit b ≡ true → is_symbol_byte b ≡ true
unfolding is_symbol_byte
digit_symbol b e = or_left (is_letter b || is_digit b) (is_mark b) (or_right (is_letter b) (is_digit b) e)

differ_by : (b c : ℕ) (t : Bool) → (b == c) ≡ t → is_symbol_byte c ≡ false → is_symbol_byte b ≡ true → (b == c) ≡ false
differ_by b c true e f g = let same : b ≡ c = eqb-true b c e in let no : false ≡ true = sym f ∙ ap is_symbol_byte (sym same) ∙ g in absurd cc
differ_by b c false e f g = e

differ : (b c : ℕ) → is_symbol_byte c ≡ false → is_symbol_byte b ≡ true → (b == c) ≡ false
differ b c f g = differ_by b c (b == c) refl f g

apart : (b c : ℕ) → is_symbol_byte c ≡ false → is_symbol_byte b ≡ true → b ≢ c
apart b c f g same = let no : false ≡ true = sym f ∙ ap is_symbol_byte (sym same) ∙ g in absurd cc

-- no byte of a symbol is white, begins a comment or is one of the other bytes that begin tokens
pub record IsPlainByte (b : ℕ) : Type 0 where
  pub not_white : is_white b ≡ false
  pub not_comment : (b == 59) ≡ false
  pub not_colon : (b == 58) ≡ false
  pub not_hash : (b == 35) ≡ false
  pub bare : IsBare b

none : (a b c d : Bool) → a ≡ false → b ≡ false → c ≡ false → d ≡ false → (a || b || c || d) ≡ false
none a b c d e f g h = rw (e, f, g, h) refl

pub plain_byte : (b : ℕ) → is_symbol_byte b ≡ true → IsPlainByte b
unfolding is_symbol_byte
plain_byte b e = record {
  not_white = none (b == 32) (b == 9) (b == 10) (b == 13) (differ b 32 refl e) (differ b 9 refl e) (differ b 10 refl e) (differ b 13 refl e);
  not_comment = differ b 59 refl e;
  not_colon = differ b 58 refl e;
  not_hash = differ b 35 refl e;
  bare = (apart b 34 refl e, apart b 124 refl e, apart b 40 refl e, apart b 41 refl e);
}

pub digits_symbol : (ds : List ℕ) → list_all is_digit ds ≡ true → list_all is_symbol_byte ds ≡ true
digits_symbol [] e = refl
digits_symbol (d ∷ ds) e =
    let parts = and_parts (is_digit d) (list_all is_digit ds) e in
    and_from (is_symbol_byte d) (list_all is_symbol_byte ds) (digit_symbol d parts.0) (digits_symbol ds parts.1)

pub minus_symbol : is_symbol_byte 45 ≡ true
unfolding is_symbol_byte
minus_symbol = refl

pub low_symbol : is_symbol_byte 95 ≡ true
unfolding is_symbol_byte
low_symbol = refl

pub at_symbol : is_symbol_byte 64 ≡ true
unfolding is_symbol_byte
at_symbol = refl

pub space_after : (rest : List ℕ) → is_apart (32 ∷ rest) ≡ true
unfolding is_symbol_byte
space_after rest = refl

pub right_after : (rest : List ℕ) → is_apart (41 ∷ rest) ≡ true
unfolding is_symbol_byte
right_after rest = refl

pub minus_simple : is_simple (45 ∷ []) ≡ true
unfolding is_symbol_byte
minus_simple = refl

pub as_simple : is_simple (codes "as") ≡ true
unfolding is_symbol_byte
as_simple = refl

pub error_simple : is_simple (codes "error") ≡ true
unfolding is_symbol_byte
error_simple = refl

no_bar : (a b : Bool) → a ≡ false → b ≡ false → not (a || b) ≡ true
no_bar a b e f = rw (e, f) refl

-- a byte of a symbol may stand between bars
symbol_quotable : (b : ℕ) → is_symbol_byte b ≡ true → is_quotable b ≡ true
unfolding is_symbol_byte
symbol_quotable b e = no_bar (b == 124) (b == 92) (differ b 124 refl e) (differ b 92 refl e)

-- a byte of a symbol is no double quote
pub symbol_unquoted : (b : ℕ) → is_symbol_byte b ≡ true → not (b == 34) ≡ true
unfolding is_symbol_byte
symbol_unquoted b e = ap not (differ b 34 refl e)

pub symbols_quotable : (bs : List ℕ) → list_all is_symbol_byte bs ≡ true → list_all is_quotable bs ≡ true
symbols_quotable [] e = refl
symbols_quotable (b ∷ bs) e =
    let parts = and_parts (is_symbol_byte b) (list_all is_symbol_byte bs) e in
    and_from (is_quotable b) (list_all is_quotable bs) (symbol_quotable b parts.0) (symbols_quotable bs parts.1)

pub signed_symbol : (n : ℤ) → list_all is_symbol_byte (signed_decimal n) ≡ true
signed_symbol (pos n) = digits_symbol (decimal n) (decimal_digits n)
signed_symbol (negsuc n) = and_from (is_symbol_byte 45) (list_all is_symbol_byte (decimal (suc n))) minus_symbol (digits_symbol (decimal (suc n)) (decimal_digits (suc n)))
