-- What lists of spans hold.
use Rattle.std.proofs.Common.{◌≡◌, ℕ, zero, suc, ◌+◌, ◌≤◌, Bool, true, false, not, ◌&&◌, ◌||◌, ℤ, pos, ◌+ℤ◌, ◌-ℤ◌, ◌<ℤ◌, ◌≤ℤ◌, ◌⊎◌, inl, inr, List, [], ◌∷◌, ◌++◌, length, refl, sym, ap, ◌∙◌, arith, append-nil}
use Rattle.std.specs.Prelude.{int_lt, int_le, if◌then◌else◌}
use Rattle.std.specs.Int.{int_max, int_min}
use Rattle.std.specs.List.{AllByRecursion}
use Rattle.std.proofs.lemmas.Int.{ints, clamps}
use Rattle.std.proofs.lemmas.Bool.{false≢true}
use Rattle.std.proofs.lemmas.List.Folds.{list_any-append}
use Rattle.sc_base.specs.declared.span.Span.{Span}
use Rattle.sc_base.specs.Integers.{lowest, highest}
use Rattle.sc_base.specs.Spans.{contains_value, covers, IsSpan, AreApart, gap, gaps, overlap, common}
use Rattle.sc_base.proofs.Integers.{all_weaker, all-append}

-- a value of 128 bits
abbrev pub is_wide_enough : ℤ → Bool
is_wide_enough x = int_le lowest x && int_le x highest

held_in_range : (a b x : ℤ) → lowest ≤ℤ a → b ≤ℤ highest → (int_le a x && int_le x b) ≡ (is_wide_enough x && (int_le a x && int_le x b))
held_in_range a b x h k = grind (arith, ints)

and-or : (a b c : Bool) → ((a && b) || (a && c)) ≡ (a && (b || c))
and-or true b c = refl
and-or false b c = refl

pub covers_in_range : (ss : List Span) → AreApart ss → (x : ℤ) → covers ss x ≡ (is_wide_enough x && covers ss x)
covers_in_range [] h x = grind arith
covers_in_range (s ∷ ss) h x =
    ap (λ b. b || covers ss x) (held_in_range s.low s.high x h.0.lower h.0.upper)
    ∙ (ap (λ b. (is_wide_enough x && contains_value x s) || b) (covers_in_range ss h.2 x)
    ∙ and-or (is_wide_enough x) (contains_value x s) (covers ss x))

-- no value below all spans is held
pub covers_below : (x : ℤ) (ss : List Span) → AllByRecursion (λ t. x <ℤ t.low) ss → covers ss x ≡ false
covers_below x [] h = refl
covers_below x (s ∷ ss) h =
    let e : contains_value x s ≡ false = outside x s.low s.high h.0 in
    rw e (covers_below x ss h.1) where
      outside : (x a b : ℤ) → x <ℤ a → (int_le a x && int_le x b) ≡ false
      outside x a b h = grind (arith, ints)

-- ---- gaps
covers-gap : (a b : ℤ) (t : Bool) → int_lt a b ≡ t → (x : ℤ) → covers (if t then record { low = a; high = b -ℤ pos 1 } ∷ [] else []) x ≡ (int_le a x && int_lt x b)
covers-gap a b true e x = grind (arith, ints)
covers-gap a b false e x = grind (arith, ints)

covers-gaps_step : (next low high x : ℤ) (c : Bool) → next ≤ℤ low → low ≤ℤ high → high ≤ℤ highest
    → (int_lt x low ≡ true → c ≡ false) → (int_le x high ≡ true → c ≡ false)
    → ((int_le next x && int_lt x low) || ((int_le (high +ℤ pos 1) x && int_le x highest) && not c)) ≡ ((int_le next x && int_le x highest) && not ((int_le low x && int_le x high) || c))
covers-gaps_step next low high x c h k m f g = grind (arith, ints)

below_true : (x b : ℤ) → int_le x b ≡ true → x ≤ℤ b
below_true x b h = grind (arith, ints)

pub covers-gaps : (next : ℤ) (ss : List Span) → AreApart ss → AllByRecursion (λ t. next ≤ℤ t.low) ss → (x : ℤ) → covers (gaps next ss) x ≡ ((int_le next x && int_le x highest) && not (covers ss x))
covers-gaps next [] h k x = covers-gap next (highest +ℤ pos 1) (int_lt next (highest +ℤ pos 1)) refl x ∙ last next x where
  last : (next x : ℤ) → (int_le next x && int_lt x (highest +ℤ pos 1)) ≡ ((int_le next x && int_le x highest) && true)
  last next x = grind (arith, ints)
covers-gaps next (s ∷ ss) h k x =
    let beyond : int_le x s.high ≡ true → covers ss x ≡ false =
    λ e. covers_below x ss (all_weaker (λ t. (s.high +ℤ pos 1) <ℤ t.low) (λ t. x <ℤ t.low) (λ t g. let m : x ≤ℤ s.high = below_true x s.high e in omega (arith, ints)) ss h.1) in
    let before : int_lt x s.low ≡ true → int_le x s.high ≡ true = λ e. earlier x s.low s.high h.0.ordered e in
    list_any-append (contains_value x) (gap next s.low) (gaps (s.high +ℤ pos 1) ss)
    ∙ (ap (λ b. b || covers (gaps (s.high +ℤ pos 1) ss) x) (covers-gap next s.low (int_lt next s.low) refl x)
    ∙ (ap (λ b. (int_le next x && int_lt x s.low) || b) (covers-gaps (s.high +ℤ pos 1) ss h.2 (all_weaker (λ t. (s.high +ℤ pos 1) <ℤ t.low) (λ t. (s.high +ℤ pos 1) ≤ℤ t.low) (λ t g. omega (arith, ints)) ss h.1) x)
    ∙ covers-gaps_step next s.low s.high x (covers ss x) k.0 h.0.ordered h.0.upper (λ e. beyond (before e)) beyond)) where
      earlier : (x low high : ℤ) → low ≤ℤ high → int_lt x low ≡ true → int_le x high ≡ true
      earlier x low high h e = grind (arith, ints)

all-gap : (P : Span → Type 0) (a b : ℤ) (t : Bool) → (int_lt a b ≡ t) → (a <ℤ b → P (record { low = a; high = b -ℤ pos 1 })) → AllByRecursion P (if t then record { low = a; high = b -ℤ pos 1 } ∷ [] else [])
all-gap P a b true e f = let lt : a <ℤ b = grind (arith, ints) in (f lt, tt)
all-gap P a b false e f = tt

-- no gap begins before next
gaps_from : (next : ℤ) (ss : List Span) → AreApart ss → AllByRecursion (λ t. next ≤ℤ t.low) ss → AllByRecursion (λ t. next ≤ℤ t.low) (gaps next ss)
gaps_from next [] h k = all-gap (λ t. next ≤ℤ t.low) next (highest +ℤ pos 1) (int_lt next (highest +ℤ pos 1)) refl (λ _. omega (arith, ints))
gaps_from next (s ∷ ss) h k =
    all-append (λ t. next ≤ℤ t.low) (gap next s.low) (gaps (s.high +ℤ pos 1) ss)
    (all-gap (λ t. next ≤ℤ t.low) next s.low (int_lt next s.low) refl (λ _. omega (arith, ints)))
    (all_weaker (λ t. (s.high +ℤ pos 1) ≤ℤ t.low) (λ t. next ≤ℤ t.low) (λ t g. later next s.low s.high t.low k.0 h.0.ordered g)
    (gaps (s.high +ℤ pos 1) ss)
    (gaps_from (s.high +ℤ pos 1) ss h.2 (all_weaker (λ t. (s.high +ℤ pos 1) <ℤ t.low) (λ t. (s.high +ℤ pos 1) ≤ℤ t.low) (λ t g. omega (arith, ints)) ss h.1))) where
      later : (next low high x : ℤ) → next ≤ℤ low → low ≤ℤ high → (high +ℤ pos 1) ≤ℤ x → next ≤ℤ x
      later next low high x h k m = omega (arith, ints)

apart-gap : (a b : ℤ) (ss : List Span) (t : Bool) → int_lt a b ≡ t → lowest ≤ℤ a → b ≤ℤ (highest +ℤ pos 1) → AllByRecursion (λ u. b <ℤ u.low) ss → AreApart ss → AreApart ((if t then record { low = a; high = b -ℤ pos 1 } ∷ [] else []) ++ ss)
apart-gap a b ss true e h k f g =
    let lt : a <ℤ b = grind (arith, ints) in
    (record { lower = h; ordered = omega (arith, ints); upper = omega (arith, ints) }, all_weaker (λ u. b <ℤ u.low) (λ u. ((b -ℤ pos 1) +ℤ pos 1) <ℤ u.low) (λ u m. omega (arith, ints)) ss f, g)
apart-gap a b ss false e h k f g = g

AreApart-gaps_from : (next : ℤ) (ss : List Span) → lowest ≤ℤ next → AreApart ss → AreApart (gaps next ss)
AreApart-gaps_from next [] l h = rw append-nil at (apart-gap next (highest +ℤ pos 1) [] (int_lt next (highest +ℤ pos 1)) refl l (omega (arith, ints)) tt tt)
AreApart-gaps_from next (s ∷ ss) l h =
    let l' : lowest ≤ℤ (s.high +ℤ pos 1) = low_next s.low s.high h.0.lower h.0.ordered in
    let fits : s.low ≤ℤ (highest +ℤ pos 1) = high_low s.low s.high h.0.ordered h.0.upper in
    apart-gap next s.low (gaps (s.high +ℤ pos 1) ss) (int_lt next s.low) refl l fits
    (all_weaker (λ t. (s.high +ℤ pos 1) ≤ℤ t.low) (λ t. s.low <ℤ t.low) (λ t g. after s.low s.high t.low h.0.ordered g) (gaps (s.high +ℤ pos 1) ss)
    (gaps_from (s.high +ℤ pos 1) ss h.2 (all_weaker (λ t. (s.high +ℤ pos 1) <ℤ t.low) (λ t. (s.high +ℤ pos 1) ≤ℤ t.low) (λ t g. omega (arith, ints)) ss h.1)))
    (AreApart-gaps_from (s.high +ℤ pos 1) ss l' h.2) where
      low_next : (low high : ℤ) → lowest ≤ℤ low → low ≤ℤ high → lowest ≤ℤ (high +ℤ pos 1)
      low_next low high h k = omega (arith, ints)

      high_low : (low high : ℤ) → low ≤ℤ high → high ≤ℤ highest → low ≤ℤ (highest +ℤ pos 1)
      high_low low high h k = omega (arith, ints)

      after : (low high x : ℤ) → low ≤ℤ high → (high +ℤ pos 1) ≤ℤ x → low <ℤ x
      after low high x h k = omega (arith, ints)

all_low : (ss : List Span) → AreApart ss → AllByRecursion (λ t. lowest ≤ℤ t.low) ss
all_low [] h = tt
all_low (s ∷ ss) h = (h.0.lower, all_low ss h.2)

-- the gaps from the least number on
pub AreApart-gaps : (ss : List Span) → AreApart ss → AreApart (gaps lowest ss)
AreApart-gaps ss h = AreApart-gaps_from lowest ss (omega (arith, ints)) h

pub covers-complement : (ss : List Span) → AreApart ss → (x : ℤ) → covers (gaps lowest ss) x ≡ (is_wide_enough x && not (covers ss x))
covers-complement ss h x = covers-gaps lowest ss h (all_low ss h) x

-- ---- what two lists share
covers-overlap_case : (a b c d x : ℤ) (t : Bool) → int_le (int_max a c) (int_min b d) ≡ t → covers (if t then record { low = int_max a c; high = int_min b d } ∷ [] else []) x ≡ ((int_le a x && int_le x b) && (int_le c x && int_le x d))
covers-overlap_case a b c d x true e = within a b c d x where
  within : (a b c d x : ℤ) → ((int_le (int_max a c) x && int_le x (int_min b d)) || false) ≡ ((int_le a x && int_le x b) && (int_le c x && int_le x d))
  within a b c d x = grind (arith, ints)
covers-overlap_case a b c d x false e = grind (arith, ints)

covers-overlap : (s t : Span) (x : ℤ) → covers (overlap s t) x ≡ (contains_value x s && contains_value x t)
covers-overlap s t x = covers-overlap_case s.low s.high t.low t.high x (int_le (int_max s.low t.low) (int_min s.high t.high)) refl

-- ---- what two lists share, as a whole
share_left : (p q c d : Bool) → (p ≡ true → d ≡ false) → ((p && q) || (c && (q || d))) ≡ ((p || c) && (q || d))
share_left true true c d h = refl
share_left true false true d h = refl
share_left true false false d h = sym (h refl)
share_left false q c d h = refl

share_right : (p q c d : Bool) → (q ≡ true → c ≡ false) → ((p && q) || ((p || c) && d)) ≡ ((p || c) && (q || d))
share_right true q c d h = refl
share_right false true true d h = absurd (false≢true (sym (h refl)))
share_right false true false d h = refl
share_right false false c d h = refl

inside : (x a b : ℤ) → (int_le a x && int_le x b) ≡ true → x ≤ℤ b
inside x a b h = grind (arith, ints)

not_later : (s t : Span) (ss : List Span) (x : ℤ) → AllByRecursion (λ u. (s.high +ℤ pos 1) <ℤ u.low) ss → t.high ≤ℤ s.high → contains_value x t ≡ true → covers ss x ≡ false
not_later s t ss x h le e =
    let m : x ≤ℤ t.high = inside x t.low t.high e in
    covers_below x ss (all_weaker (λ u. (s.high +ℤ pos 1) <ℤ u.low) (λ u. x <ℤ u.low) (λ u g. omega (arith, ints)) ss h)

covers-common_step : (n : ℕ) (s t : Span) (ss ts : List Span) (x : ℤ) (b : Bool) → int_lt s.high t.high ≡ b → AreApart (s ∷ ss) → AreApart (t ∷ ts)
    → covers (common n ss (t ∷ ts)) x ≡ (covers ss x && covers (t ∷ ts) x)
    → covers (common n (s ∷ ss) ts) x ≡ (covers (s ∷ ss) x && covers ts x)
    → covers (overlap s t ++ (if b then common n ss (t ∷ ts) else common n (s ∷ ss) ts)) x ≡ (covers (s ∷ ss) x && covers (t ∷ ts) x)
covers-common_step n s t ss ts x true e h k f g =
    let le : s.high ≤ℤ t.high = grind (arith, ints) in
    list_any-append (contains_value x) (overlap s t) (common n ss (t ∷ ts))
    ∙ (ap (λ b. b || covers (common n ss (t ∷ ts)) x) (covers-overlap s t x)
    ∙ (ap (λ b. (contains_value x s && contains_value x t) || b) f
    ∙ share_left (contains_value x s) (contains_value x t) (covers ss x) (covers ts x) (λ p. not_later t s ts x k.1 le p)))
covers-common_step n s t ss ts x false e h k f g =
    let le : t.high ≤ℤ s.high = grind (arith, ints) in
    list_any-append (contains_value x) (overlap s t) (common n (s ∷ ss) ts)
    ∙ (ap (λ b. b || covers (common n (s ∷ ss) ts) x) (covers-overlap s t x)
    ∙ (ap (λ b. (contains_value x s && contains_value x t) || b) g
    ∙ share_right (contains_value x s) (contains_value x t) (covers ss x) (covers ts x) (λ p. not_later s t ss x h.1 le p)))

and_none : (b : Bool) → false ≡ (b && false)
and_none true = refl
and_none false = refl

pub covers-common : (n : ℕ) (ss ts : List Span) → length ss + length ts ≤ n → AreApart ss → AreApart ts → (x : ℤ) → covers (common n ss ts) x ≡ (covers ss x && covers ts x)
covers-common zero [] ts l h k x = refl
covers-common zero (s ∷ ss) ts l h k x = absurd (omega arith)
covers-common (suc n) [] ts l h k x = refl
covers-common (suc n) (s ∷ ss) [] l h k x = and_none (covers (s ∷ ss) x)
covers-common (suc n) (s ∷ ss) (t ∷ ts) l h k x =
    covers-common_step n s t ss ts x (int_lt s.high t.high) refl h k
    (covers-common n ss (t ∷ ts) (omega arith) h.2 k x)
    (covers-common n (s ∷ ss) ts (omega arith) h k.2 x)

-- what is shared begins where both lists do
from-overlap : (a : ℤ) (s t : Span) (b : Bool) → (a <ℤ s.low) ⊎ (a <ℤ t.low) → AllByRecursion (λ (u : Span). a <ℤ u.low) (if b then record { low = int_max s.low t.low; high = int_min s.high t.high } ∷ [] else [])
from-overlap a s t true (inl h) = (omega (arith, ints, clamps), tt)
from-overlap a s t true (inr h) = (omega (arith, ints, clamps), tt)
from-overlap a s t false h = tt

all_if : (P : Span → Type 0) (b : Bool) (ss ts : List Span) → AllByRecursion P ss → AllByRecursion P ts → AllByRecursion P (if b then ss else ts)
all_if P true ss ts h k = h
all_if P false ss ts h k = k

from_left : (a : ℤ) (n : ℕ) (ss ts : List Span) → AllByRecursion (λ u. a <ℤ u.low) ss → AllByRecursion (λ u. a <ℤ u.low) (common n ss ts)
from_left a zero ss ts h = tt
from_left a (suc n) [] ts h = tt
from_left a (suc n) (s ∷ ss) [] h = tt
from_left a (suc n) (s ∷ ss) (t ∷ ts) h =
    all-append (λ u. a <ℤ u.low) (overlap s t) (if int_lt s.high t.high then common n ss (t ∷ ts) else common n (s ∷ ss) ts)
    (from-overlap a s t (int_le (int_max s.low t.low) (int_min s.high t.high)) (inl h.0))
    (all_if (λ u. a <ℤ u.low) (int_lt s.high t.high) (common n ss (t ∷ ts)) (common n (s ∷ ss) ts) (from_left a n ss (t ∷ ts) h.1) (from_left a n (s ∷ ss) ts h))

from_right : (a : ℤ) (n : ℕ) (ss ts : List Span) → AllByRecursion (λ u. a <ℤ u.low) ts → AllByRecursion (λ u. a <ℤ u.low) (common n ss ts)
from_right a zero ss ts h = tt
from_right a (suc n) [] ts h = tt
from_right a (suc n) (s ∷ ss) [] h = tt
from_right a (suc n) (s ∷ ss) (t ∷ ts) h =
    all-append (λ u. a <ℤ u.low) (overlap s t) (if int_lt s.high t.high then common n ss (t ∷ ts) else common n (s ∷ ss) ts)
    (from-overlap a s t (int_le (int_max s.low t.low) (int_min s.high t.high)) (inr h.0))
    (all_if (λ u. a <ℤ u.low) (int_lt s.high t.high) (common n ss (t ∷ ts)) (common n (s ∷ ss) ts) (from_right a n ss (t ∷ ts) h) (from_right a n (s ∷ ss) ts h.1))

apart-overlap : (s t : Span) (rest : List Span) (b : Bool) → int_le (int_max s.low t.low) (int_min s.high t.high) ≡ b → IsSpan s → IsSpan t
    → AllByRecursion (λ u. (int_min s.high t.high +ℤ pos 1) <ℤ u.low) rest → AreApart rest
    → AreApart ((if b then record { low = int_max s.low t.low; high = int_min s.high t.high } ∷ [] else []) ++ rest)
apart-overlap s t rest true e h k f g =
    (record { lower = low_max s.low t.low h.lower; ordered = le_true (int_max s.low t.low) (int_min s.high t.high) e; upper = high_min s.high t.high h.upper }, f, g) where
      low_max : (a c : ℤ) → lowest ≤ℤ a → lowest ≤ℤ int_max a c
      low_max a c h = omega (arith, ints, clamps)

      high_min : (b d : ℤ) → b ≤ℤ highest → int_min b d ≤ℤ highest
      high_min b d h = omega (arith, ints, clamps)

      le_true : (a b : ℤ) → int_le a b ≡ true → a ≤ℤ b
      le_true a b e = grind (arith, ints)
apart-overlap s t rest false e h k f g = g

AreApart-common_step : (n : ℕ) (s t : Span) (ss ts : List Span) (b : Bool) → int_lt s.high t.high ≡ b → AreApart (s ∷ ss) → AreApart (t ∷ ts)
    → AreApart (common n ss (t ∷ ts)) → AreApart (common n (s ∷ ss) ts)
    → AreApart (overlap s t ++ (if b then common n ss (t ∷ ts) else common n (s ∷ ss) ts))
AreApart-common_step n s t ss ts true e h k f g =
    let same : int_min s.high t.high ≤ℤ s.high = min_left s.high t.high in
    apart-overlap s t (common n ss (t ∷ ts)) (int_le (int_max s.low t.low) (int_min s.high t.high)) refl h.0 k.0
    (from_left (int_min s.high t.high +ℤ pos 1) n ss (t ∷ ts) (all_weaker (λ u. (s.high +ℤ pos 1) <ℤ u.low) (λ u. (int_min s.high t.high +ℤ pos 1) <ℤ u.low) (λ u m. omega (arith, ints)) ss h.1)) f where
      min_left : (b d : ℤ) → int_min b d ≤ℤ b
      min_left b d = omega (arith, ints, clamps)
AreApart-common_step n s t ss ts false e h k f g =
    let same : int_min s.high t.high ≤ℤ t.high = min_right s.high t.high in
    apart-overlap s t (common n (s ∷ ss) ts) (int_le (int_max s.low t.low) (int_min s.high t.high)) refl h.0 k.0
    (from_right (int_min s.high t.high +ℤ pos 1) n (s ∷ ss) ts (all_weaker (λ u. (t.high +ℤ pos 1) <ℤ u.low) (λ u. (int_min s.high t.high +ℤ pos 1) <ℤ u.low) (λ u m. omega (arith, ints)) ts k.1)) g where
      min_right : (b d : ℤ) → int_min b d ≤ℤ d
      min_right b d = omega (arith, ints, clamps)

pub AreApart-common : (n : ℕ) (ss ts : List Span) → AreApart ss → AreApart ts → AreApart (common n ss ts)
AreApart-common zero ss ts h k = tt
AreApart-common (suc n) [] ts h k = tt
AreApart-common (suc n) (s ∷ ss) [] h k = tt
AreApart-common (suc n) (s ∷ ss) (t ∷ ts) h k =
    AreApart-common_step n s t ss ts (int_lt s.high t.high) refl h k (AreApart-common n ss (t ∷ ts) h.2 k) (AreApart-common n (s ∷ ss) ts h k.2)
