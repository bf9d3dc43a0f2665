-- Single tokens at the front of a text, behind which it goes on.
use Rattle.std.proofs.Common.{◌≡◌, ℕ, suc, ◌+◌, Bool, true, false, ◌||◌, ◌==◌, not, if◌then◌else◌, List, [], ◌∷◌, ◌++◌, length, take, drop, Option, Some, None, refl, sym, ap, subst, ◌∙◌, arith}
use Rattle.std.specs.List.{list_all, take_while, prefix_len}
use Rattle.std.proofs.lemmas.Bool.{and_parts, not-true}
use Rattle.sc_text.specs.declared.token.Kind.{Kind}
use Rattle.sc_text.specs.declared.token.Kind.TheVariants as kind
use Rattle.sc_text.specs.declared.mode.Mode.TheVariants as mode
use Rattle.sc_text.specs.declared.front.Front.{Front}
use Rattle.sc_text.specs.declared.front.Front.TheVariants.{Token as Found}
use Rattle.sc_text.specs.Bytes.{is_white, is_symbol_byte}
use Rattle.sc_text.specs.Modes.{run}
use Rattle.sc_text.specs.Fronts.{ended, gap, after_gap_step, gap_len, after_gap, front_of, front_at, front}
use Rattle.sc_text.specs.Grammar.{stretch, stretch_kind}
use Rattle.sc_text.specs.Readings.{Lexeme, named, Token, first_of, first, taken, rest_of, Begins}
use Rattle.sc_text.proofs.Stretches.{are_stretches}
use Rattle.sc_text.proofs.Quotations.{are_quotations}
use Rattle.sc_text.proofs.Gaps.{are_passed_over}
use Rattle.sc_print.specs.Readback.{is_apart}
use Rattle.sc_print.proofs.Bytes.{IsPlainByte}

-- no white space and no comment begins
abbrev begins_none : ℕ → Bool
begins_none b = not (is_white b || b == 59)

starts_by : (white comment : Bool) (bs : List ℕ) → not (white || comment) ≡ true → (after_gap_step false (if white then Some false else if comment then Some true else None) (λ c. gap c bs)).len ≡ 0
starts_by true comment bs e = absurd cc
starts_by false true bs e = absurd cc
starts_by false false bs e = refl

starts : (b : ℕ) (bs : List ℕ) → begins_none b ≡ true → gap_len (b ∷ bs) ≡ 0
unfolding gap
starts b bs e = starts_by (is_white b) (b == 59) bs e

front_here : (b : ℕ) (bs : List ℕ) (f : Front) → begins_none b ≡ true → front_of true (run mode.Start (b ∷ bs)) ≡ f → front true (b ∷ bs) ≡ f
unfolding front
front_here b bs f e is = ap (λ (n : ℕ). front_at true (gap false (b ∷ bs)).comment (drop n (b ∷ bs))) (starts b bs e) ∙ is

take_front : (xs ys : List ℕ) → take (length xs) (xs ++ ys) ≡ xs
take_front [] ys = refl
take_front (x ∷ xs) ys = ap (λ (zs : List ℕ). x ∷ zs) (take_front xs ys)

pub drop_front : (xs ys : List ℕ) → drop (length xs) (xs ++ ys) ≡ ys
drop_front [] ys = refl
drop_front (x ∷ xs) ys = drop_front xs ys

-- the token that the bytes at the front are
pub token : (b : ℕ) (bs rest : List ℕ) (k : Kind) → begins_none b ≡ true → front_of true (run mode.Start (b ∷ (bs ++ rest))) ≡ Found k (length (b ∷ bs)) → Begins true (b ∷ (bs ++ rest)) (named k (b ∷ bs) ∷ []) rest
unfolding first rest_of
token b bs rest k e is =
    let here : front true (b ∷ (bs ++ rest)) ≡ Found k (length (b ∷ bs)) = front_here b (bs ++ rest) (Found k (length (b ∷ bs))) e is in
    let behind : after_gap (b ∷ (bs ++ rest)) ≡ b ∷ (bs ++ rest) = ap (λ (n : ℕ). drop n (b ∷ (bs ++ rest))) (starts b (bs ++ rest) e) in (
      ap (λ (f : Front). first_of f (after_gap (b ∷ (bs ++ rest)))) here ∙ (ap (λ (t : List ℕ). first_of (Found k (length (b ∷ bs))) t) behind ∙ ap (λ (t : List ℕ). Token (named k t)) (take_front (b ∷ bs) rest)),
      ap (λ (f : Front). drop (taken f) (after_gap (b ∷ (bs ++ rest)))) here ∙ (ap (λ (t : List ℕ). drop (length (b ∷ bs)) t) behind ∙ drop_front (b ∷ bs) rest),
    )

-- ---- words and numerals

ends_at : (rest : List ℕ) → is_apart rest ≡ true → take_while is_symbol_byte rest ≡ []
ends_at [] e = refl
ends_at (b ∷ bs) e = ap (λ (c : Bool). take (if c then 1 + prefix_len is_symbol_byte bs else 0) (b ∷ bs)) (not-true (is_symbol_byte b) e)

takes : (bs rest : List ℕ) → list_all is_symbol_byte bs ≡ true → is_apart rest ≡ true → take_while is_symbol_byte (bs ++ rest) ≡ bs
takes [] rest e f = ends_at rest f
takes (b ∷ bs) rest e f =
    let parts = and_parts (is_symbol_byte b) (list_all is_symbol_byte bs) e in
    let one : 1 + prefix_len is_symbol_byte (bs ++ rest) ≡ suc (prefix_len is_symbol_byte (bs ++ rest)) = omega arith in
    let further : take (1 + prefix_len is_symbol_byte (bs ++ rest)) (b ∷ (bs ++ rest)) ≡ b ∷ take_while is_symbol_byte (bs ++ rest) = ap (λ (n : ℕ). take n (b ∷ (bs ++ rest))) one in
    ap (λ (c : Bool). take (if c then 1 + prefix_len is_symbol_byte (bs ++ rest) else 0) (b ∷ (bs ++ rest))) parts.0 ∙ (further ∙ ap (λ (t : List ℕ). b ∷ t) (takes bs rest parts.1 f))

plain_starts : (white comment : Bool) → white ≡ false → comment ≡ false → not (white || comment) ≡ true
plain_starts white comment e f = rw (e, f) refl

pub word : (b : ℕ) (bs rest : List ℕ) (k : Kind) → IsPlainByte b → list_all is_symbol_byte bs ≡ true → stretch_kind (b ∷ bs) ≡ Some k → is_apart rest ≡ true → Begins true (b ∷ (bs ++ rest)) (named k (b ∷ bs) ∷ []) rest
word b bs rest k plain all is after =
    let whole : stretch (b ∷ (bs ++ rest)) ≡ b ∷ bs = ap (λ (t : List ℕ). b ∷ t) (takes bs rest all after) in
    token b bs rest k (plain_starts (is_white b) (b == 59) plain.not_white plain.not_comment)
    (are_stretches b (bs ++ rest) plain.bare ∙ (ap (λ (t : List ℕ). ended (length t) (stretch_kind t)) whole ∙ ap (λ (o : Option Kind). ended (length (b ∷ bs)) o) is))

-- ---- parentheses and quotations

pub left : (rest : List ℕ) → Begins true (40 ∷ rest) (named kind.Left (40 ∷ []) ∷ []) rest
left rest = token 40 [] rest kind.Left refl (are_quotations.left true rest)

pub right : (rest : List ℕ) → Begins true (41 ∷ rest) (named kind.Right (41 ∷ []) ∷ []) rest
right rest = token 41 [] rest kind.Right refl (are_quotations.right true rest)

-- ---- one after the other

-- a token, and then those behind it
pub and_then : (text mid rest : List ℕ) (t : Lexeme) (ts : List Lexeme) → Begins true text (t ∷ []) mid → Begins true mid ts rest → Begins true text (t ∷ ts) rest
and_then text mid rest t ts now later = (now.0, subst (λ (x : List ℕ). Begins true x ts rest) (sym now.1) later)

-- behind a space
pub spaced : (text rest : List ℕ) (t : Lexeme) (ts : List Lexeme) → Begins true text (t ∷ ts) rest → Begins true (32 ∷ text) (t ∷ ts) rest
spaced text rest t ts now =
    let same = are_passed_over.white true 32 text refl in
    (same.0 ∙ now.0, subst (λ (x : List ℕ). Begins true x ts rest) (sym same.1) now.1)
