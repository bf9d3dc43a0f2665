-- The names of values.
use Rattle.std.proofs.Common.{◌≡◌, ℕ, ℤ, Bool, true, false, ◌&&◌, not, if◌then◌else◌, List, [], ◌∷◌, ◌++◌, refl, sym, ap, ◌∙◌, append_assoc}
use Rattle.std.specs.Prelude.{codes}
use Rattle.std.specs.Fmt.{signed_decimal}
use Rattle.std.specs.List.{list_all, concat}
use Rattle.std.proofs.lemmas.Bool.{and_parts, and_from, true≢false}
use Rattle.std.proofs.lemmas.List.Folds.{list_all-append}
use Rattle.sc_text.specs.Bytes.{is_digit, is_symbol_byte}
use Rattle.sc_text.specs.Names.{is_reserved}
use Rattle.sc_print.specs.Spelling.{is_simple, is_bare, spelt_symbol, value_name, spelt_abstract}
use Rattle.sc_print.proofs.Bytes.{at_symbol, low_symbol, signed_symbol}

-- ---- whether they are bare

-- no reserved word begins with @
own_unreserved : (bs : List ℕ) → is_reserved (64 ∷ bs) ≡ false
unfolding is_reserved
own_unreserved bs = refl

with_true : (a : Bool) → (a && true) ≡ a
with_true true = refl
with_true false = refl

tail_symbol : (n : ℤ) → list_all is_symbol_byte (95 ∷ signed_decimal n) ≡ true
tail_symbol n = and_from (is_symbol_byte 95) (list_all is_symbol_byte (signed_decimal n)) low_symbol (signed_symbol n)

pub name_bare : (sort : List ℕ) (n : ℤ) → is_bare (value_name sort n) ≡ list_all is_symbol_byte sort
name_bare sort n =
    let tail : list_all is_symbol_byte (sort ++ 95 ∷ signed_decimal n) ≡ list_all is_symbol_byte sort = list_all-append is_symbol_byte sort (95 ∷ signed_decimal n) ∙ ap (λ (x : Bool). list_all is_symbol_byte sort && x) (tail_symbol n) ∙ with_true (list_all is_symbol_byte sort) in
    ap (λ (x : Bool). (x && list_all is_symbol_byte (sort ++ 95 ∷ signed_decimal n)) && not (is_reserved (value_name sort n))) at_symbol ∙ ap (λ (x : Bool). list_all is_symbol_byte (sort ++ 95 ∷ signed_decimal n) && not x) (own_unreserved (sort ++ 95 ∷ signed_decimal n)) ∙ with_true (list_all is_symbol_byte (sort ++ 95 ∷ signed_decimal n)) ∙ tail

bare_symbols : (sort : List ℕ) → is_bare sort ≡ true → list_all is_symbol_byte sort ≡ true
bare_symbols [] e = refl
bare_symbols (b ∷ bs) e = (and_parts (not (is_digit b)) (list_all is_symbol_byte (b ∷ bs)) (and_parts (is_simple (b ∷ bs)) (not (is_reserved (b ∷ bs))) e).0).1

pub spelt_as : (name : List ℕ) (c : Bool) → is_bare name ≡ c → spelt_symbol name ≡ (if c then name else 124 ∷ name ++ 124 ∷ [])
spelt_as name c e = ap (λ (x : Bool). if x then name else 124 ∷ name ++ 124 ∷ []) e

-- ---- the pieces of a printed value

value_by : (sort : List ℕ) (n : ℤ) (c d : Bool) → list_all is_symbol_byte sort ≡ c → is_bare sort ≡ d → concat (codes "(as " ∷ (if c then value_name sort n else 124 ∷ value_name sort n ++ 124 ∷ []) ∷ codes " " ∷ (if d then sort else 124 ∷ sort ++ 124 ∷ []) ∷ codes ")" ∷ []) ≡ spelt_abstract sort n
value_by sort n c d e f =
    ap (λ (t : List ℕ). concat (codes "(as " ∷ t ∷ codes " " ∷ (if d then sort else 124 ∷ sort ++ 124 ∷ []) ∷ codes ")" ∷ [])) (sym (spelt_as (value_name sort n) c (name_bare sort n ∙ e)))
    ∙ ap (λ (t : List ℕ). concat (codes "(as " ∷ spelt_symbol (value_name sort n) ∷ codes " " ∷ t ∷ codes ")" ∷ [])) (sym (spelt_as sort d f))

-- what follows a value's name
named_first : (sort number rest : List ℕ) → sort ++ (95 ∷ (number ++ rest)) ≡ (sort ++ (95 ∷ number)) ++ rest
named_first sort number rest = sym (append_assoc sort (95 ∷ number) rest)

barred_first : (sort number rest : List ℕ) → sort ++ (95 ∷ (number ++ (124 ∷ rest))) ≡ ((sort ++ (95 ∷ number)) ++ (124 ∷ [])) ++ rest
barred_first sort number rest = named_first sort number (124 ∷ rest) ∙ sym (append_assoc (sort ++ (95 ∷ number)) (124 ∷ []) rest)

barred : (sort rest : List ℕ) → sort ++ (124 ∷ rest) ≡ (sort ++ (124 ∷ [])) ++ rest
barred sort rest = sym (append_assoc sort (124 ∷ []) rest)

pub bare_value : (sort : List ℕ) (n : ℤ) → is_bare sort ≡ true → codes "(as @" ++ (sort ++ (95 ∷ (signed_decimal n ++ (32 ∷ (sort ++ (41 ∷ [])))))) ≡ spelt_abstract sort n
bare_value sort n e =
    ap (λ (t : List ℕ). codes "(as @" ++ t) (named_first sort (signed_decimal n) (32 ∷ (sort ++ (41 ∷ [])))) ∙ value_by sort n true true (bare_symbols sort e) e

pub half_value : (sort : List ℕ) (n : ℤ) → is_bare sort ≡ false → list_all is_symbol_byte sort ≡ true → codes "(as @" ++ (sort ++ (95 ∷ (signed_decimal n ++ (32 ∷ 124 ∷ (sort ++ (124 ∷ 41 ∷ [])))))) ≡ spelt_abstract sort n
half_value sort n e f =
    ap (λ (t : List ℕ). codes "(as @" ++ (sort ++ (95 ∷ (signed_decimal n ++ (32 ∷ 124 ∷ t))))) (barred sort (41 ∷ []))
    ∙ (ap (λ (t : List ℕ). codes "(as @" ++ t) (named_first sort (signed_decimal n) (32 ∷ 124 ∷ ((sort ++ (124 ∷ [])) ++ (41 ∷ []))))
    ∙ value_by sort n true false f e)

unbare_by : (sort : List ℕ) (c : Bool) → is_bare sort ≡ c → list_all is_symbol_byte sort ≡ false → is_bare sort ≡ false
unbare_by sort true e f = absurd (true≢false (sym (bare_symbols sort e) ∙ f))
unbare_by sort false e f = e

pub barred_value : (sort : List ℕ) (n : ℤ) → list_all is_symbol_byte sort ≡ false → codes "(as |@" ++ (sort ++ (95 ∷ (signed_decimal n ++ (124 ∷ 32 ∷ 124 ∷ (sort ++ (124 ∷ 41 ∷ [])))))) ≡ spelt_abstract sort n
barred_value sort n f =
    ap (λ (t : List ℕ). codes "(as |@" ++ (sort ++ (95 ∷ (signed_decimal n ++ (124 ∷ 32 ∷ 124 ∷ t))))) (barred sort (41 ∷ []))
    ∙ (ap (λ (t : List ℕ). codes "(as |@" ++ t) (barred_first sort (signed_decimal n) (32 ∷ 124 ∷ ((sort ++ (124 ∷ [])) ++ (41 ∷ []))))
    ∙ value_by sort n false false f (unbare_by sort (is_bare sort) refl f))
