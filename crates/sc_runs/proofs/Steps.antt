-- The steps of loops over spans.
use Rattle.std.proofs.Common.{◌≡◌, ℕ, zero, suc, ◌+◌, ◌<◌, ◌≤◌, true, false, ℤ, pos, ◌+ℤ◌, ◌-ℤ◌, ◌<ℤ◌, ◌≤ℤ◌, List, [], ◌∷◌, ◌++◌, length, drop, get_or, refl, sym, ap, ◌∙◌, arith, length-append, append_assoc, append-nil}
use Rattle.std.specs.Prelude.{int_lt, unsigned_abs, if◌then◌else◌, FitsSigned}
use Rattle.std.specs.Int.{w128}
use Rattle.std.specs.List.{AllByRecursion}
use Rattle.std.proofs.lemmas.Int.{ints, by_lt_z}
use Rattle.std.proofs.lemmas.List.{drop_more, drop_all}
use Rattle.sc_base.specs.declared.span.Span.{Span}
use Rattle.sc_base.specs.Integers.{upward, lowest, highest}
use Rattle.sc_base.specs.Spans.{width, members, IsSpan, AreApart, gap, gaps, overlap, common}
use Rattle.sc_base.proofs.Integers.{length-upward}

-- what a read past the end gives
abbrev pub zero_span : Span
zero_span = record { low = pos 0; high = pos 0 }

-- ---- parts of a list of spans
pub AreApart-drop : (i : ℕ) (ss : List Span) → AreApart ss → AreApart (drop i ss)
AreApart-drop zero ss h = h
AreApart-drop (suc i) [] h = tt
AreApart-drop (suc i) (s ∷ ss) h = AreApart-drop i ss h.2

pub IsSpan-at : (ss : List Span) (i : ℕ) (d : Span) → AreApart ss → i < length ss → IsSpan (get_or ss i d)
IsSpan-at [] i d h l = absurd (omega arith)
IsSpan-at (s ∷ ss) zero d h l = h.0
IsSpan-at (s ∷ ss) (suc i) d h l = IsSpan-at ss i d h.2 (omega arith)

pub apart-at : (ss : List Span) (i : ℕ) (d : Span) → AreApart ss → i < length ss → AllByRecursion (λ t. ((get_or ss i d).high +ℤ pos 1) <ℤ t.low) (drop (i + 1) ss)
apart-at ss i d h l =
    let e = drop_more ss i d l in
    let a : AreApart (get_or ss i d ∷ drop (i + 1) ss) = subst_apart e (AreApart-drop i ss h) in
    a.1 where
      subst_apart : {ss ts : List Span} → ss ≡ ts → AreApart ss → AreApart ts
      subst_apart e h = rw (← e) h

-- ---- gaps
pub gaps_more : (out new : List Span) (next after : ℤ) (ss all : List Span) (i : ℕ) (d : Span) → i < length ss → new ≡ out ++ gap next (get_or ss i d).low → after ≡ (get_or ss i d).high +ℤ pos 1 → out ++ gaps next (drop i ss) ≡ all → new ++ gaps after (drop (i + 1) ss) ≡ all
gaps_more out new next after ss all i d l e f h =
    rw (e, f) (append_assoc out (gap next (get_or ss i d).low) (gaps ((get_or ss i d).high +ℤ pos 1) (drop (i + 1) ss)) ∙ (ap (λ xs. out ++ gaps next xs) (sym (drop_more ss i d l)) ∙ h))

top_is : (z : ℤ) → lowest ≤ℤ z → z ≤ℤ highest → (FitsSigned w128 (z +ℤ pos 1) → ⊥) → z ≡ highest
top_is z h k f =
    by_lt_z z highest (λ l. absurd (f (next_fits z h l))) (λ m. omega (arith, ints)) where
      next_fits : (z : ℤ) → lowest ≤ℤ z → z <ℤ highest → FitsSigned w128 (z +ℤ pos 1)
      next_fits z h l = omega (arith, ints)

none_after : (h : ℤ) (ss : List Span) → h ≡ highest → AreApart ss → AllByRecursion (λ t. (h +ℤ pos 1) <ℤ t.low) ss → ss ≡ []
none_after h [] e a f = refl
none_after h (s ∷ ss) e a f = absurd (past h s.low s.high e f.0 a.0.ordered a.0.upper) where
  past : (h low high : ℤ) → h ≡ highest → (h +ℤ pos 1) <ℤ low → low ≤ℤ high → high ≤ℤ highest → ⊥
  past h low high e k m n = omega (arith, ints)

-- no gap follows the greatest number
pub gaps_end : (out new : List Span) (next : ℤ) (ss all : List Span) (i : ℕ) (d : Span) → AreApart ss → i < length ss → new ≡ out ++ gap next (get_or ss i d).low → (FitsSigned w128 ((get_or ss i d).high +ℤ pos 1) → ⊥) → out ++ gaps next (drop i ss) ≡ all → new ≡ all
gaps_end out new next ss all i d a l e f h =
    let s : IsSpan (get_or ss i d) = IsSpan-at ss i d a l in
    let top : (get_or ss i d).high ≡ highest = top_is (get_or ss i d).high (low_high s) s.upper f in
    let none : drop (i + 1) ss ≡ [] = none_after (get_or ss i d).high (drop (i + 1) ss) top (AreApart-drop (i + 1) ss a) (apart-at ss i d a l) in
    let ends : gaps ((get_or ss i d).high +ℤ pos 1) (drop (i + 1) ss) ≡ [] = ap (gaps ((get_or ss i d).high +ℤ pos 1)) none ∙ ap (λ z. gaps (z +ℤ pos 1) []) top in
    e ∙ (sym (append-nil (out ++ gap next (get_or ss i d).low)) ∙ (ap (λ xs. (out ++ gap next (get_or ss i d).low) ++ xs) (sym ends) ∙ (append_assoc out (gap next (get_or ss i d).low) (gaps ((get_or ss i d).high +ℤ pos 1) (drop (i + 1) ss)) ∙ (ap (λ xs. out ++ gaps next xs) (sym (drop_more ss i d l)) ∙ h)))) where
      low_high : {s : Span} → IsSpan s → lowest ≤ℤ s.high
      low_high {s} h = le_trans' lowest s.low s.high h.lower h.ordered where
        le_trans' : (a b c : ℤ) → a ≤ℤ b → b ≤ℤ c → a ≤ℤ c
        le_trans' a b c h k = omega (arith, ints)

-- ---- what two lists share
common_at : (s t : Span) (ss ts : List Span) → common (length (s ∷ ss) + length (t ∷ ts)) (s ∷ ss) (t ∷ ts) ≡ overlap s t ++ (if int_lt s.high t.high then common (length ss + length (t ∷ ts)) ss (t ∷ ts) else common (length (s ∷ ss) + length ts) (s ∷ ss) ts)
common_at s t ss ts =
    let e : length (s ∷ ss) + length (t ∷ ts) ≡ suc (length ss + length (t ∷ ts)) = omega arith in
    let f : length ss + length (t ∷ ts) ≡ length (s ∷ ss) + length ts = omega arith in
    ap (λ n. common n (s ∷ ss) (t ∷ ts)) e ∙ ap (λ n. overlap s t ++ (if int_lt s.high t.high then common (length ss + length (t ∷ ts)) ss (t ∷ ts) else common n (s ∷ ss) ts)) f

lt_true : (a b : ℤ) → a <ℤ b → int_lt a b ≡ true
lt_true a b h = grind (arith, ints)

lt_false : (a b : ℤ) → b ≤ℤ a → int_lt a b ≡ false
lt_false a b h = grind (arith, ints)

common_left : (out : List Span) (s t : Span) (ss ts all : List Span) → s.high <ℤ t.high → out ++ common (length (s ∷ ss) + length (t ∷ ts)) (s ∷ ss) (t ∷ ts) ≡ all → (out ++ overlap s t) ++ common (length ss + length (t ∷ ts)) ss (t ∷ ts) ≡ all
common_left out s t ss ts all l h =
    append_assoc out (overlap s t) (common (length ss + length (t ∷ ts)) ss (t ∷ ts))
    ∙ (ap (λ b. out ++ (overlap s t ++ (if b then common (length ss + length (t ∷ ts)) ss (t ∷ ts) else common (length (s ∷ ss) + length ts) (s ∷ ss) ts))) (sym (lt_true s.high t.high l))
    ∙ (ap (λ xs. out ++ xs) (sym (common_at s t ss ts)) ∙ h))

common_right : (out : List Span) (s t : Span) (ss ts all : List Span) → t.high ≤ℤ s.high → out ++ common (length (s ∷ ss) + length (t ∷ ts)) (s ∷ ss) (t ∷ ts) ≡ all → (out ++ overlap s t) ++ common (length (s ∷ ss) + length ts) (s ∷ ss) ts ≡ all
common_right out s t ss ts all l h =
    append_assoc out (overlap s t) (common (length (s ∷ ss) + length ts) (s ∷ ss) ts)
    ∙ (ap (λ b. out ++ (overlap s t ++ (if b then common (length ss + length (t ∷ ts)) ss (t ∷ ts) else common (length (s ∷ ss) + length ts) (s ∷ ss) ts))) (sym (lt_false s.high t.high l))
    ∙ (ap (λ xs. out ++ xs) (sym (common_at s t ss ts)) ∙ h))

-- the same, at places of the lists
rest_in : (out ss ts : List Span) → List Span
rest_in out ss ts = out ++ common (length ss + length ts) ss ts

pub common_more_left : (out new ss ts all : List Span) (i j : ℕ) (d : Span) → i < length ss → j < length ts
    → new ≡ out ++ overlap (get_or ss i d) (get_or ts j d) → (get_or ss i d).high <ℤ (get_or ts j d).high
    → out ++ common (length (drop i ss) + length (drop j ts)) (drop i ss) (drop j ts) ≡ all
    → new ++ common (length (drop (i + 1) ss) + length (drop j ts)) (drop (i + 1) ss) (drop j ts) ≡ all
unfolding rest_in
common_more_left out new ss ts all i j d l m e f h =
    let s = get_or ss i d in
    let t = get_or ts j d in
    let h' : rest_in out (s ∷ drop (i + 1) ss) (t ∷ drop (j + 1) ts) ≡ all =
    ap (λ xs. rest_in out xs (t ∷ drop (j + 1) ts)) (sym (drop_more ss i d l)) ∙ (ap (λ ys. rest_in out (drop i ss) ys) (sym (drop_more ts j d m)) ∙ h) in
    ap (λ xs. xs ++ common (length (drop (i + 1) ss) + length (drop j ts)) (drop (i + 1) ss) (drop j ts)) e
    ∙ (ap (λ ys. rest_in (out ++ overlap s t) (drop (i + 1) ss) ys) (drop_more ts j d m)
    ∙ common_left out s t (drop (i + 1) ss) (drop (j + 1) ts) all f h')

pub common_more_right : (out new ss ts all : List Span) (i j : ℕ) (d : Span) → i < length ss → j < length ts
    → new ≡ out ++ overlap (get_or ss i d) (get_or ts j d) → (get_or ts j d).high ≤ℤ (get_or ss i d).high
    → out ++ common (length (drop i ss) + length (drop j ts)) (drop i ss) (drop j ts) ≡ all
    → new ++ common (length (drop i ss) + length (drop (j + 1) ts)) (drop i ss) (drop (j + 1) ts) ≡ all
unfolding rest_in
common_more_right out new ss ts all i j d l m e f h =
    let s = get_or ss i d in
    let t = get_or ts j d in
    let h' : rest_in out (s ∷ drop (i + 1) ss) (t ∷ drop (j + 1) ts) ≡ all =
    ap (λ xs. rest_in out xs (t ∷ drop (j + 1) ts)) (sym (drop_more ss i d l)) ∙ (ap (λ ys. rest_in out (drop i ss) ys) (sym (drop_more ts j d m)) ∙ h) in
    ap (λ xs. xs ++ common (length (drop i ss) + length (drop (j + 1) ts)) (drop i ss) (drop (j + 1) ts)) e
    ∙ (ap (λ xs. rest_in (out ++ overlap s t) xs (drop (j + 1) ts)) (drop_more ss i d l)
    ∙ common_right out s t (drop (i + 1) ss) (drop (j + 1) ts) all f h')

common_none_left : (n : ℕ) (ts : List Span) → common n [] ts ≡ []
common_none_left zero ts = refl
common_none_left (suc n) ts = refl

common_none_right : (n : ℕ) (ss : List Span) → common n ss [] ≡ []
common_none_right zero ss = refl
common_none_right (suc n) [] = refl
common_none_right (suc n) (s ∷ ss) = refl

pub common_ends_left : (out ss ts all : List Span) (i j : ℕ) → length ss ≤ i → out ++ common (length (drop i ss) + length (drop j ts)) (drop i ss) (drop j ts) ≡ all → out ≡ all
unfolding rest_in
common_ends_left out ss ts all i j l h =
    sym (append-nil out) ∙ (ap (λ xs. out ++ xs) (sym (common_none_left (0 + length (drop j ts)) (drop j ts))) ∙ (ap (λ xs. rest_in out xs (drop j ts)) (sym (drop_all i ss l)) ∙ h))

pub common_ends_right : (out ss ts all : List Span) (i j : ℕ) → length ts ≤ j → out ++ common (length (drop i ss) + length (drop j ts)) (drop i ss) (drop j ts) ≡ all → out ≡ all
unfolding rest_in
common_ends_right out ss ts all i j l h =
    sym (append-nil out) ∙ (ap (λ xs. out ++ xs) (sym (common_none_right (length (drop i ss) + 0) (drop i ss))) ∙ (ap (λ ys. rest_in out (drop i ss) ys) (sym (drop_all j ts l)) ∙ h))

-- ---- counting values
pub upward-add : (a : ℤ) (m n : ℕ) → upward a (m + n) ≡ upward a m ++ upward (a +ℤ pos m) n
unfolding upward
upward-add a zero n = let e : a +ℤ pos 0 ≡ a = omega (arith, ints) in let f : 0 + n ≡ n = omega arith in rw (e, f) refl
upward-add a (suc m) n =
    let e : suc m + n ≡ suc (m + n) = omega arith in
    let f : (a +ℤ pos 1) +ℤ pos m ≡ a +ℤ pos (suc m) = omega (arith, ints) in
    ap (upward a) e ∙ ap (λ xs. a ∷ xs) (upward-add (a +ℤ pos 1) m n ∙ ap (λ z. upward (a +ℤ pos 1) m ++ upward z n) f)

pub members_at : (ss : List Span) (i : ℕ) (d : Span) → i < length ss → members (drop i ss) ≡ upward (get_or ss i d).low (width (get_or ss i d) + 1) ++ members (drop (i + 1) ss)
members_at ss i d h = ap members (drop_more ss i d h)

pub length-members_at : (ss : List Span) (i : ℕ) (d : Span) → i < length ss → length (members (drop i ss)) ≡ width (get_or ss i d) + 1 + length (members (drop (i + 1) ss))
length-members_at ss i d h =
    ap length (members_at ss i d h)
    ∙ (length-append (upward (get_or ss i d).low (width (get_or ss i d) + 1)) (members (drop (i + 1) ss))
    ∙ ap (λ n. n + length (members (drop (i + 1) ss))) (length-upward (get_or ss i d).low (width (get_or ss i d) + 1)))

pub length-members_past : (ss : List Span) (i : ℕ) → length ss ≤ i → length (members (drop i ss)) ≡ 0
length-members_past ss i h = ap (λ xs. length (members xs)) (drop_all i ss h)

-- a step within a span stays in 128 bits
pub step_fits : (a b : ℤ) (k : ℕ) → lowest ≤ℤ a → a ≤ℤ b → b ≤ℤ highest → k ≤ unsigned_abs (b -ℤ a) → FitsSigned w128 (a +ℤ pos k)
step_fits a b k h m n l = omega (arith, ints)
