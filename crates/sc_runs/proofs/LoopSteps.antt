-- Loops' steps, with numbers as code that reads them has them.
use Rattle.std.proofs.Common.{◌≡◌, ℕ, zero, suc, ◌+◌, ◌-◌, ◌<◌, ◌≤◌, ℤ, pos, ◌+ℤ◌, ◌≤ℤ◌, ◌<ℤ◌, List, [], ◌∷◌, ◌++◌, length, drop, get_or, refl, sym, ap, subst, ◌∙◌, arith, append_assoc, append-nil, to_z, of_z, Bool, true, false, ◌&&◌, ◌||◌}
use Rattle.std.specs.Prelude.{int_lt, int_le, FitsSigned}
use Rattle.std.specs.Int.{w128}
use Rattle.std.proofs.lemmas.Int.{ints, to_z-of_z}
use Rattle.std.proofs.lemmas.Bool.Decides.{nat_tests}
use Rattle.std.proofs.lemmas.List.{drop_more}
use Rattle.std.specs.List.{AllByRecursion}
use Rattle.std.specs.List.Sorted.{IsPartitionedBy, IsPartitionPoint}
use Prim.Native.Nat.{zero-le}
use Rattle.sc_base.specs.declared.span.Span.{Span}
use Rattle.sc_base.specs.Integers.{lowest, highest}
use Rattle.sc_base.specs.Spans.{contains_value, covers, width, IsSpan, AreApart, gap, gaps, first_values, later_values}
use Rattle.sc_base.proofs.Integers.{all_weaker}
use Rattle.sc_runs.proofs.Covered.{covers_below}
use Rattle.sc_runs.proofs.Steps.{IsSpan-at, gaps_more, gaps_end, step_fits}

-- a number that went to its bits and back
abbrev pub read : ℤ → ℤ
read z = to_z w128 (of_z w128 z)

pub read_fit : (z : ℤ) → FitsSigned w128 z → read z ≡ z
read_fit z h = to_z-of_z w128 z h

pub read_in : (z : ℤ) → lowest ≤ℤ z → z ≤ℤ highest → read z ≡ z
read_in z h k = read_fit z (omega (arith, ints))

pub read_low : (s : Span) → IsSpan s → read s.low ≡ s.low
read_low s h = read_in s.low h.lower (below s.low s.high h.ordered h.upper) where
  below : (a b : ℤ) → a ≤ℤ b → b ≤ℤ highest → a ≤ℤ highest
  below a b h k = omega (arith, ints)

pub read_high : (s : Span) → IsSpan s → read s.high ≡ s.high
read_high s h = read_in s.high (above s.low s.high h.lower h.ordered) h.upper where
  above : (a b : ℤ) → lowest ≤ℤ a → a ≤ℤ b → lowest ≤ℤ b
  above a b h k = omega (arith, ints)

pub step_read : (s : Span) (k n : ℕ) → IsSpan s → n ≤ width s → k ≤ n → FitsSigned w128 (read s.low +ℤ pos k)
step_read s k n h l m = rw (read_low s h) (step_fits s.low s.high k h.lower h.ordered h.upper (omega arith))

pub gaps_next : (out new : List Span) (next after : ℤ) (ss all : List Span) (i : ℕ) (d : Span) → AreApart ss → i < length ss
    → new ≡ out ++ gap next (read (get_or ss i d).low)
    → FitsSigned w128 (read (get_or ss i d).high +ℤ pos 1) × (after ≡ read (get_or ss i d).high +ℤ pos 1)
    → out ++ gaps next (drop i ss) ≡ all → new ++ gaps (read after) (drop (i + 1) ss) ≡ all
gaps_next out new next after ss all i d a l e f h =
    let s : IsSpan (get_or ss i d) = IsSpan-at ss i d a l in
    let fits : FitsSigned w128 after = subst (FitsSigned w128) (sym f.1) f.0 in
    let low : read (get_or ss i d).low ≡ (get_or ss i d).low = read_low (get_or ss i d) s in
    let high : read (get_or ss i d).high ≡ (get_or ss i d).high = read_high (get_or ss i d) s in
    ap (λ z. new ++ gaps z (drop (i + 1) ss)) (read_fit after fits)
    ∙ gaps_more out new next after ss all i d l (e ∙ ap (λ z. out ++ gap next z) low) (f.1 ∙ ap (λ z. z +ℤ pos 1) high) h

pub gaps_last : (out new : List Span) (next : ℤ) (ss all : List Span) (i : ℕ) (d : Span) → AreApart ss → i < length ss
    → new ≡ out ++ gap next (read (get_or ss i d).low)
    → (FitsSigned w128 (read (get_or ss i d).high +ℤ pos 1) → ⊥)
    → out ++ gaps next (drop i ss) ≡ all → new ≡ all
gaps_last out new next ss all i d a l e f h =
    let s : IsSpan (get_or ss i d) = IsSpan-at ss i d a l in
    let low : read (get_or ss i d).low ≡ (get_or ss i d).low = read_low (get_or ss i d) s in
    let high : read (get_or ss i d).high ≡ (get_or ss i d).high = read_high (get_or ss i d) s in
    gaps_end out new next ss all i d a l (e ∙ ap (λ z. out ++ gap next z) low) (λ k. f (subst (λ z. FitsSigned w128 (z +ℤ pos 1)) (sym high) k)) h

-- ---- the first values, and those after them
first_zero : (ss : List Span) → first_values 0 ss ≡ []
first_zero [] = refl
first_zero (s ∷ ss) = refl

pub first_done : (out : List Span) (n : ℕ) (ss all : List Span) → n ≡ 0 → out ++ first_values n ss ≡ all → out ≡ all
first_done out n ss all e h = sym (append-nil out) ∙ (ap (λ xs. out ++ xs) (sym (first_zero ss)) ∙ (ap (λ m. out ++ first_values m ss) (sym e) ∙ h))

first_part : (n : ℕ) (s : Span) (ss : List Span) → 0 < n → n ≤ width s → first_values n (s ∷ ss) ≡ record { low = s.low; high = s.low +ℤ pos (n - 1) } ∷ []
first_part n s ss h k = grind (arith, nat_tests)

first_whole : (n : ℕ) (s : Span) (ss : List Span) → width s < n → first_values n (s ∷ ss) ≡ s ∷ first_values (n - (width s + 1)) ss
first_whole n s ss k = grind (arith, nat_tests)

pub first_front : (out new : List Span) (n : ℕ) (ss all : List Span) (i : ℕ) (d t : Span) → i < length ss → 0 < n → n ≤ width (get_or ss i d)
    → t ≡ record { low = (get_or ss i d).low; high = (get_or ss i d).low +ℤ pos (n - 1) } → new ≡ out ++ t ∷ []
    → out ++ first_values n (drop i ss) ≡ all → new ≡ all
first_front out new n ss all i d t l p m e f h =
    f ∙ (ap (λ u. out ++ u ∷ []) e ∙ (ap (λ xs. out ++ xs) (sym (ap (first_values n) (drop_more ss i d l) ∙ first_part n (get_or ss i d) (drop (i + 1) ss) p m)) ∙ h))

pub first_more : (out new : List Span) (n : ℕ) (ss all : List Span) (i : ℕ) (d : Span) → i < length ss → width (get_or ss i d) < n
    → new ≡ out ++ get_or ss i d ∷ []
    → out ++ first_values n (drop i ss) ≡ all → new ++ first_values (n - (width (get_or ss i d) + 1)) (drop (i + 1) ss) ≡ all
first_more out new n ss all i d l m f h =
    ap (λ xs. xs ++ first_values (n - (width (get_or ss i d) + 1)) (drop (i + 1) ss)) f
    ∙ (append_assoc out (get_or ss i d ∷ []) (first_values (n - (width (get_or ss i d) + 1)) (drop (i + 1) ss))
    ∙ (ap (λ xs. out ++ xs) (sym (ap (first_values n) (drop_more ss i d l) ∙ first_whole n (get_or ss i d) (drop (i + 1) ss) m)) ∙ h))

later_part : (n : ℕ) (s : Span) (ss : List Span) → n ≤ width s → later_values n (s ∷ ss) ≡ record { low = s.low +ℤ pos n; high = s.high } ∷ ss
later_part n s ss k = grind (arith, nat_tests)

later_whole : (n : ℕ) (s : Span) (ss : List Span) → width s < n → later_values n (s ∷ ss) ≡ later_values (n - (width s + 1)) ss
later_whole n s ss k = grind (arith, nat_tests)

pub later_back : (n : ℕ) (ss all : List Span) (i : ℕ) (d t : Span) → i < length ss → n ≤ width (get_or ss i d)
    → t ≡ record { low = (get_or ss i d).low +ℤ pos n; high = (get_or ss i d).high }
    → later_values n (drop i ss) ≡ all → t ∷ drop (i + 1) ss ≡ all
later_back n ss all i d t l m e h =
    ap (λ u. u ∷ drop (i + 1) ss) e ∙ (sym (ap (later_values n) (drop_more ss i d l) ∙ later_part n (get_or ss i d) (drop (i + 1) ss) m) ∙ h)

pub later_more : (n : ℕ) (ss all : List Span) (i : ℕ) (d : Span) → i < length ss → width (get_or ss i d) < n
    → later_values n (drop i ss) ≡ all → later_values (n - (width (get_or ss i d) + 1)) (drop (i + 1) ss) ≡ all
later_more n ss all i d l m h = sym (ap (later_values n) (drop_more ss i d l) ∙ later_whole n (get_or ss i d) (drop (i + 1) ss) m) ∙ h

lt_holds : (a b : ℤ) → int_lt a b ≡ true → a <ℤ b
lt_holds a b h = grind (arith, ints)

lt_fails : (a b : ℤ) → int_lt a b ≡ false → b ≤ℤ a
lt_fails a b h = grind (arith, ints)

pub ends_before : (s t : Span) → IsSpan s → IsSpan t → int_lt (read s.high) (read t.high) ≡ true → s.high <ℤ t.high
ends_before s t h k l = lt_holds s.high t.high (ap (λ z. int_lt z t.high) (sym (read_high s h)) ∙ (ap (int_lt (read s.high)) (sym (read_high t k)) ∙ l))

pub ends_within : (s t : Span) → IsSpan s → IsSpan t → int_lt (read s.high) (read t.high) ≡ false → t.high ≤ℤ s.high
ends_within s t h k l = lt_fails s.high t.high (ap (λ z. int_lt z t.high) (sym (read_high s h)) ∙ (ap (int_lt (read s.high)) (sym (read_high t k)) ∙ l))

-- ---- search
pub high_rises : (ss : List Span) (i j : ℕ) (d : Span) → AreApart ss → i ≤ j → j < length ss → (get_or ss i d).high ≤ℤ (get_or ss j d).high
high_rises [] i j d a l m = absurd (omega arith)
high_rises (s ∷ ss) zero zero d a l m = omega (arith, ints)
high_rises (s ∷ ss) zero (suc j) d a l m =
    let t : IsSpan (get_or ss j d) = IsSpan-at ss j d a.2 (omega arith) in
    far s.high (get_or ss j d).low (get_or ss j d).high (at_place (λ u. (s.high +ℤ pos 1) <ℤ u.low) ss j d a.1 (omega arith)) t.ordered where
      far : (a b c : ℤ) → (a +ℤ pos 1) <ℤ b → b ≤ℤ c → a ≤ℤ c
      far a b c h k = omega (arith, ints)

      at_place : (P : Span → Type 0) (ss : List Span) (j : ℕ) (d : Span) → AllByRecursion P ss → j < length ss → P (get_or ss j d)
      at_place P [] j d h l = absurd (omega arith)
      at_place P (s ∷ ss) zero d h l = h.0
      at_place P (s ∷ ss) (suc j) d h l = at_place P ss j d h.1 (omega arith)
high_rises (s ∷ ss) (suc i) zero d a l m = absurd (omega arith)
high_rises (s ∷ ss) (suc i) (suc j) d a l m = high_rises ss i j d a.2 (omega arith) (omega arith)

-- the test of the search: the span ends before v
abbrev pub is_before : ℤ → Span → Bool
is_before v s = int_lt (read s.high) (read v)

before_both : (a b v : ℤ) → a ≤ℤ b → int_lt b v ≡ true → int_lt a v ≡ true
before_both a b v h e = grind (arith, ints)

pub is_before-parted : (v : ℤ) (ss : List Span) → AreApart ss → IsPartitionedBy (is_before v) ss
is_before-parted v ss a i j d l m e =
    let s : IsSpan (get_or ss i d) = IsSpan-at ss i d a (omega arith) in
    let t : IsSpan (get_or ss j d) = IsSpan-at ss j d a m in
    ap (λ z. int_lt z (read v)) (read_high (get_or ss i d) s)
    ∙ before_both (get_or ss i d).high (get_or ss j d).high (read v) (high_rises ss i j d a l m) (ap (λ z. int_lt z (read v)) (sym (read_high (get_or ss j d) t)) ∙ e)

past_one : (v : ℤ) (s : Span) → s.high <ℤ v → contains_value v s ≡ false
past_one v s h = grind (arith, ints)

covers_past : (ss : List Span) (v : ℤ) → ((k : ℕ) (d : Span) → k < length ss → (get_or ss k d).high <ℤ v) → covers ss v ≡ false
covers_past [] v h = refl
covers_past (s ∷ ss) v h = rw (past_one v s (h 0 s (omega arith))) (covers_past ss v (λ k d l. h (suc k) d (omega arith)))

within_first : (low high v : ℤ) (c : Bool) → v ≤ℤ high → c ≡ false → int_le low v ≡ ((int_le low v && int_le v high) || c)
within_first low high v c h e = grind (arith, ints)

covers_found : (ss : List Span) (v : ℤ) (r : ℕ) (d : Span) → AreApart ss → r < length ss → ((k : ℕ) (e : Span) → k < r → (get_or ss k e).high <ℤ v) → v ≤ℤ (get_or ss r d).high → int_le (get_or ss r d).low v ≡ covers ss v
covers_found [] v r d a l f h = absurd (omega arith)
covers_found (s ∷ ss) v zero d a l f h =
    within_first s.low s.high v (covers ss v) h (covers_below v ss (all_weaker (λ t. (s.high +ℤ pos 1) <ℤ t.low) (λ t. v <ℤ t.low) (λ t g. omega (arith, ints)) ss a.1))
covers_found (s ∷ ss) v (suc r) d a l f h = rw (past_one v s (f 0 s (omega arith))) (covers_found ss v r d a.2 (omega arith) (λ k e m. f (suc k) e (omega arith)) h)

tests_high : (v : ℤ) (ss : List Span) (k : ℕ) (d : Span) → AreApart ss → FitsSigned w128 v → k < length ss → is_before v (get_or ss k d) ≡ true → (get_or ss k d).high <ℤ v
tests_high v ss k d a f l e =
    lt_holds (get_or ss k d).high v (ap (λ z. int_lt z v) (sym (read_high (get_or ss k d) (IsSpan-at ss k d a l))) ∙ (ap (int_lt (read (get_or ss k d).high)) (sym (read_fit v f)) ∙ e))

tests_low : (v : ℤ) (ss : List Span) (k : ℕ) (d : Span) → AreApart ss → FitsSigned w128 v → k < length ss → is_before v (get_or ss k d) ≡ false → v ≤ℤ (get_or ss k d).high
tests_low v ss k d a f l e =
    lt_fails (get_or ss k d).high v (ap (λ z. int_lt z v) (sym (read_high (get_or ss k d) (IsSpan-at ss k d a l))) ∙ (ap (int_lt (read (get_or ss k d).high)) (sym (read_fit v f)) ∙ e))

pub covers_at : (ss : List Span) (v : ℤ) (r : ℕ) (t : Span) → AreApart ss → FitsSigned w128 v → IsPartitionPoint (λ s. is_before v s ≡ true) (λ s. is_before v s ≡ false) ss r
    → r < length ss → t ≡ get_or ss r t → int_le (read t.low) (read v) ≡ covers ss v
covers_at ss v r t a f p l e =
    let s : IsSpan (get_or ss r t) = IsSpan-at ss r t a l in
    ap (λ (u : Span). int_le (read u.low) (read v)) e
    ∙ (ap (λ z. int_le z (read v)) (read_low (get_or ss r t) s)
    ∙ (ap (int_le (get_or ss r t).low) (read_fit v f)
    ∙ covers_found ss v r t a l (λ k d m. tests_high v ss k d a f (omega arith) (p.0 k d zero-le m)) (tests_low v ss r t a f l (p.1 r t (omega arith) l))))

pub covers_nowhere : (ss : List Span) (v : ℤ) (r : ℕ) → AreApart ss → FitsSigned w128 v → IsPartitionPoint (λ s. is_before v s ≡ true) (λ s. is_before v s ≡ false) ss r
    → length ss ≤ r → false ≡ covers ss v
covers_nowhere ss v r a f p l = sym (covers_past ss v (λ k d m. tests_high v ss k d a f m (p.0 k d zero-le (omega arith))))
