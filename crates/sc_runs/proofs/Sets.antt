-- Operations on sets of integers, as spans and as lists.
use Rattle.std.proofs.Common.{◌≡◌, ℕ, zero, suc, ◌+◌, ◌-◌, ◌<◌, ◌≤◌, ◌^◌, Bool, true, false, not, ◌&&◌, ◌||◌, cond, ℤ, pos, ◌+ℤ◌, ◌-ℤ◌, ◌<ℤ◌, ◌≤ℤ◌, List, [], ◌∷◌, ◌++◌, length, take, drop, reverse, refl, sym, ap, subst, ◌∙◌, arith, length-append, append-nil, append_assoc}
use Rattle.std.specs.Prelude.{int_lt, int_le, nat_eq, nat_le, unsigned_abs, filter, if◌then◌else◌}
use Rattle.std.specs.List.{AllByRecursion}
use Rattle.std.specs.Ordering.{int_eq}
use Rattle.std.proofs.lemmas.Int.{ints, by_lt_z}
use Rattle.std.proofs.lemmas.Bool.{false≢true}
use Rattle.std.proofs.lemmas.Bool.Decides.{nat_tests}
use Rattle.std.proofs.lemmas.List.{take_at, drop_at, drop-append-le, take-append-le, take-append-drop, length-drop, length-reverse, reverse-append}
use Rattle.std.proofs.lemmas.List.Elements.{filter-append}
use Rattle.std.proofs.lemmas.List.Folds.{list_any-append}
use Rattle.std.specs.Bool.{Decides}
use Rattle.std.specs.Cmp.{signed_Decides}
use Rattle.std.specs.Cmp.Lexicographic.{pointwise, pointwise_decides}
use Rattle.sc_base.specs.declared.span.Span.{Span}
use Rattle.sc_base.specs.Integers.{has_element, without, IsAscending, upward, in_order, lowest, highest, fresh_values, fresh_up, fresh_down}
use Rattle.sc_base.specs.Spans.{contains_value, covers, width, members, IsSpan, AreApart, gap, gaps, common, first_values, later_values}
use Rattle.sc_base.proofs.Integers.{all_weaker, has_element-filter, IsAscending-filter, has_element-in_order, IsAscending-in_order, ascending_same, has_element-upward, length-upward, IsAscending-upward, int_eq-same, rest_same}
use Rattle.sc_runs.proofs.Covered.{is_wide_enough, covers_in_range, covers_below, covers-common, AreApart-common, covers-complement, AreApart-gaps}
use Rattle.sc_base.proofs.Members.{has_element-members, IsAscending-members, members_same}
use Rattle.sc_runs.proofs.Steps.{upward-add}

abbrev shared : List Span → List Span → List Span
shared ss ts = common (length ss + length ts) ss ts

pub AreApart-shared : (ss ts : List Span) → AreApart ss → AreApart ts → AreApart (shared ss ts)
AreApart-shared ss ts h k = AreApart-common (length ss + length ts) ss ts h k

covers-shared : (ss ts : List Span) → AreApart ss → AreApart ts → (x : ℤ) → covers (shared ss ts) x ≡ (covers ss x && covers ts x)
covers-shared ss ts h k x = covers-common (length ss + length ts) ss ts (omega arith) h k x

pub inter_is : (ss ts : List Span) → AreApart ss → AreApart ts → members (shared ss ts) ≡ filter (has_element (members ts)) (members ss)
inter_is ss ts h k =
    members_same (shared ss ts) (filter (has_element (members ts)) (members ss)) (AreApart-shared ss ts h k) (IsAscending-filter (has_element (members ts)) (members ss) (IsAscending-members ss h))
    (λ x. covers-shared ss ts h k x ∙ sym (has_element-filter (has_element (members ts)) (members ss) x ∙ (ap (λ b. b && has_element (members ts) x) (has_element-members ss h x) ∙ ap (λ b. covers ss x && b) (has_element-members ts k x))))

in_range_and : (w a b : Bool) → a ≡ (w && a) → (a && (w && b)) ≡ (a && b)
in_range_and true a b e = refl
in_range_and false true b e = sym (e) ∙ absurd (false≢true (sym e))
in_range_and false false b e = refl

pub minus_is : (ss ts : List Span) → AreApart ss → AreApart ts → members (shared ss (gaps lowest ts)) ≡ without (members ss) (members ts)
minus_is ss ts h k =
    members_same (shared ss (gaps lowest ts)) (without (members ss) (members ts)) (AreApart-shared ss (gaps lowest ts) h (AreApart-gaps ts k)) (IsAscending-filter (λ x. not (has_element (members ts) x)) (members ss) (IsAscending-members ss h))
    (λ x. covers-shared ss (gaps lowest ts) h (AreApart-gaps ts k) x
    ∙ (ap (λ b. covers ss x && b) (covers-complement ts k x)
    ∙ (in_range_and (is_wide_enough x) (covers ss x) (not (covers ts x)) (covers_in_range ss h x)
    ∙ sym (has_element-filter (λ y. not (has_element (members ts) y)) (members ss) x ∙ (ap (λ b. b && not (has_element (members ts) x)) (has_element-members ss h x) ∙ ap (λ b. covers ss x && not b) (has_element-members ts k x))))))

-- ---- union
or_without : (a b : Bool) → (a || (b && not a)) ≡ (a || b)
or_without true b = refl
or_without false true = refl
or_without false false = refl

pub has_element-joined : (xs ys : List ℤ) (x : ℤ) → has_element (xs ++ without ys xs) x ≡ (has_element xs x || has_element ys x)
has_element-joined xs ys x =
    list_any-append (int_eq x) xs (without ys xs)
    ∙ (ap (λ b. has_element xs x || b) (has_element-filter (λ y. not (has_element xs y)) ys x)
    ∙ or_without (has_element xs x) (has_element ys x))

pub union_is : (vs ss ts : List Span) → AreApart vs → AreApart ss → AreApart ts → ((x : ℤ) → covers vs x ≡ (covers ss x || covers ts x)) → members vs ≡ in_order (members ss ++ without (members ts) (members ss))
union_is vs ss ts h k l f =
    members_same vs (in_order (members ss ++ without (members ts) (members ss))) h (IsAscending-in_order (members ss ++ without (members ts) (members ss)))
    (λ x. f x
    ∙ sym (has_element-in_order (members ss ++ without (members ts) (members ss)) x
    ∙ (has_element-joined (members ss) (members ts) x
    ∙ (ap (λ b. b || has_element (members ts) x) (has_element-members ss k x) ∙ ap (λ b. covers ss x || b) (has_element-members ts l x)))))

-- ---- equality
holds_low : (s : Span) (ss : List Span) → IsSpan s → covers (s ∷ ss) s.low ≡ true
holds_low s ss h = low_in s.low s.high (covers ss s.low) h.ordered where
  low_in : (a b : ℤ) (c : Bool) → a ≤ℤ b → ((int_le a a && int_le a b) || c) ≡ true
  low_in a b c h = grind (arith, ints)

lacks_lower : (x : ℤ) (t : Span) (ts : List Span) → AreApart (t ∷ ts) → x <ℤ t.low → covers (t ∷ ts) x ≡ false
lacks_lower x t ts h l = covers_below x (t ∷ ts) (l, all_weaker (λ u. (t.high +ℤ pos 1) <ℤ u.low) (λ u. x <ℤ u.low) (λ u g. later x t.low t.high u.low l h.0.ordered g) ts h.1) where
  later : (x a b c : ℤ) → x <ℤ a → a ≤ℤ b → (b +ℤ pos 1) <ℤ c → x <ℤ c
  later x a b c h k m = omega (arith, ints)

-- just past a span nothing is held
lacks_next : (s : Span) (ss : List Span) → AreApart (s ∷ ss) → covers (s ∷ ss) (s.high +ℤ pos 1) ≡ false
lacks_next s ss h = past s.low s.high (covers ss (s.high +ℤ pos 1)) (covers_below (s.high +ℤ pos 1) ss h.1) where
  past : (a b : ℤ) (c : Bool) → c ≡ false → ((int_le a (b +ℤ pos 1) && int_le (b +ℤ pos 1) b) || c) ≡ false
  past a b c e = grind (arith, ints)

holds_next : (a b d : ℤ) (c : Bool) → a ≤ℤ b → b <ℤ d → ((int_le a (b +ℤ pos 1) && int_le (b +ℤ pos 1) d) || c) ≡ true
holds_next a b d c h k = grind (arith, ints)

low_same : (s t : Span) (ss ts : List Span) → AreApart (s ∷ ss) → AreApart (t ∷ ts) → ((x : ℤ) → covers (s ∷ ss) x ≡ covers (t ∷ ts) x) → s.low ≡ t.low
low_same s t ss ts h k e =
    by_lt_z s.low t.low
    (λ l. absurd (false≢true (sym (lacks_lower s.low t ts k l) ∙ (sym (e s.low) ∙ holds_low s ss h.0))))
    (λ m. by_lt_z t.low s.low (λ l. absurd (false≢true (sym (lacks_lower t.low s ss h l) ∙ (e t.low ∙ holds_low t ts k.0)))) (λ n. omega (arith, ints)))

high_same : (s t : Span) (ss ts : List Span) → AreApart (s ∷ ss) → AreApart (t ∷ ts) → s.low ≡ t.low → ((x : ℤ) → covers (s ∷ ss) x ≡ covers (t ∷ ts) x) → s.high ≡ t.high
high_same s t ss ts h k f e =
    by_lt_z s.high t.high
    (λ l. absurd (false≢true (sym (lacks_next s ss h) ∙ (e (s.high +ℤ pos 1) ∙ holds_next t.low s.high t.high (covers ts (s.high +ℤ pos 1)) (moved s.low t.low s.high f h.0.ordered) l))))
    (λ m. by_lt_z t.high s.high
    (λ l. absurd (false≢true (sym (lacks_next t ts k) ∙ (sym (e (t.high +ℤ pos 1)) ∙ holds_next s.low t.high s.high (covers ss (t.high +ℤ pos 1)) (moved t.low s.low t.high (sym f) k.0.ordered) l))))
    (λ n. omega (arith, ints))) where
      moved : (a b c : ℤ) → a ≡ b → a ≤ℤ c → b ≤ℤ c
      moved a b c e h = omega (arith, ints)

later_lacks : (s : Span) (ss : List Span) (x : ℤ) → AreApart (s ∷ ss) → contains_value x s ≡ true → covers ss x ≡ false
later_lacks s ss x h e =
    let m : x ≤ℤ s.high = inside x s.low s.high e in
    covers_below x ss (all_weaker (λ u. (s.high +ℤ pos 1) <ℤ u.low) (λ u. x <ℤ u.low) (λ u g. omega (arith, ints)) ss h.1) where
      inside : (x a b : ℤ) → (int_le a x && int_le x b) ≡ true → x ≤ℤ b
      inside x a b h = grind (arith, ints)

spans_same : (ss ts : List Span) → AreApart ss → AreApart ts → ((x : ℤ) → covers ss x ≡ covers ts x) → ss ≡ ts
spans_same [] [] h k e = refl
spans_same [] (t ∷ ts) h k e = absurd (false≢true (e t.low ∙ holds_low t ts k.0))
spans_same (s ∷ ss) [] h k e = absurd (false≢true (sym (e s.low) ∙ holds_low s ss h.0))
spans_same (s ∷ ss) (t ∷ ts) h k e =
    let a : s.low ≡ t.low = low_same s t ss ts h k e in
    let b : s.high ≡ t.high = high_same s t ss ts h k a e in
    let f : s ≡ t = λ i. record { low = a i; high = b i } in
    let rest : ss ≡ ts = spans_same ss ts h.2 k.2 (λ x. rest_same (contains_value x s) (covers ss x) (covers ts x) (λ c. later_lacks s ss x h c ∙ sym (later_lacks t ts x k (ap (contains_value x) (sym f) ∙ c))) (e x ∙ ap (λ u. contains_value x u || covers ts x) (sym f))) in
    λ i. f i ∷ rest i

pub same_spans : (ss ts : List Span) → AreApart ss → AreApart ts → members ss ≡ members ts → ss ≡ ts
same_spans ss ts h k e = spans_same ss ts h k (λ x. sym (has_element-members ss h x) ∙ (ap (λ xs. has_element xs x) e ∙ has_element-members ts k x))

-- ---- how many
length_up_to : (a : ℤ) (ss : List Span) → AreApart ss → AllByRecursion (λ t. a ≤ℤ t.low) ss → a ≤ℤ (highest +ℤ pos 1) → (a +ℤ pos (length (members ss))) ≤ℤ (highest +ℤ pos 1)
length_up_to a [] h k l = omega (arith, ints)
length_up_to a (s ∷ ss) h k l =
    let n = length (members ss) in
    let more : (s.high +ℤ pos 1 +ℤ pos (length (members ss))) ≤ℤ (highest +ℤ pos 1) = length_up_to (s.high +ℤ pos 1) ss h.2 (all_weaker (λ t. (s.high +ℤ pos 1) <ℤ t.low) (λ t. (s.high +ℤ pos 1) ≤ℤ t.low) (λ t g. omega (arith, ints)) ss h.1) (top s.high h.0.upper) in
    let e : length (members (s ∷ ss)) ≡ width s + 1 + length (members ss) = length-append (upward s.low (width s + 1)) (members ss) ∙ ap (λ m. m + length (members ss)) (length-upward s.low (width s + 1)) in
    subst (λ m. (a +ℤ pos m) ≤ℤ (highest +ℤ pos 1)) (sym e) (joins a s.low s.high (length (members ss)) k.0 h.0.ordered more) where
      top : (b : ℤ) → b ≤ℤ highest → (b +ℤ pos 1) ≤ℤ (highest +ℤ pos 1)
      top b h = omega (arith, ints)

      joins : (a low high : ℤ) (n : ℕ) → a ≤ℤ low → low ≤ℤ high → (high +ℤ pos 1 +ℤ pos n) ≤ℤ (highest +ℤ pos 1) → (a +ℤ pos (unsigned_abs (high -ℤ low) + 1 + n)) ≤ℤ (highest +ℤ pos 1)
      joins a low high n h k m = omega (arith, ints)

all_low : (ss : List Span) → AreApart ss → AllByRecursion (λ t. lowest ≤ℤ t.low) ss
all_low [] h = tt
all_low (s ∷ ss) h = (h.0.lower, all_low ss h.2)

pub length-members_le : (ss : List Span) → AreApart ss → length (members ss) ≤ 2 ^ 128
length-members_le ss h =
    let m : (lowest +ℤ pos (length (members ss))) ≤ℤ (highest +ℤ pos 1) = length_up_to lowest ss h (all_low ss h) (omega (arith, ints)) in
    omega (arith, ints)

-- ---- the first values and those after them
upward_take : (a : ℤ) (m n : ℕ) → n ≤ m → take n (upward a m) ≡ upward a n
upward_take a m n h =
    let e : m ≡ n + (m - n) = omega arith in
    ap (λ k. take n (upward a k)) e ∙ (ap (take n) (upward-add a n (m - n)) ∙ take_at (upward a n) (upward (a +ℤ pos n) (m - n)) n (length-upward a n))

upward_drop : (a : ℤ) (m n : ℕ) → n ≤ m → drop n (upward a m) ≡ upward (a +ℤ pos n) (m - n)
upward_drop a m n h =
    let e : m ≡ n + (m - n) = omega arith in
    ap (λ k. drop n (upward a k)) e ∙ (ap (drop n) (upward-add a n (m - n)) ∙ drop_at (upward a n) (upward (a +ℤ pos n) (m - n)) n (length-upward a n))

take_past : (xs ys : List ℤ) (n : ℕ) → length xs ≤ n → take n (xs ++ ys) ≡ xs ++ take (n - length xs) ys
take_past [] ys n h = ap (λ m. take m ys) (let e : n ≡ n - 0 = omega arith in e)
take_past (x ∷ xs) ys zero h = absurd (omega arith)
take_past (x ∷ xs) ys (suc n) h = let e : n - length xs ≡ suc n - length (x ∷ xs) = omega arith in ap (λ zs. x ∷ zs) (take_past xs ys n (omega arith) ∙ ap (λ m. xs ++ take m ys) e)

drop_past : (xs ys : List ℤ) (n : ℕ) → length xs ≤ n → drop n (xs ++ ys) ≡ drop (n - length xs) ys
drop_past [] ys n h = ap (λ m. drop m ys) (let e : n ≡ n - 0 = omega arith in e)
drop_past (x ∷ xs) ys zero h = absurd (omega arith)
drop_past (x ∷ xs) ys (suc n) h = let e : n - length xs ≡ suc n - length (x ∷ xs) = omega arith in drop_past xs ys n (omega arith) ∙ ap (λ m. drop m ys) e

width_front : (a : ℤ) (n : ℕ) → 0 < n → width (record { low = a; high = a +ℤ pos (n - 1) }) + 1 ≡ n
width_front a n h = front_is a n h where
  front_is : (a : ℤ) (n : ℕ) → 0 < n → unsigned_abs ((a +ℤ pos (n - 1)) -ℤ a) + 1 ≡ n
  front_is a n h = omega (arith, ints)

width_back : (a b : ℤ) (n : ℕ) → a ≤ℤ b → n ≤ unsigned_abs (b -ℤ a) → unsigned_abs (b -ℤ (a +ℤ pos n)) + 1 ≡ unsigned_abs (b -ℤ a) + 1 - n
width_back a b n h k = omega (arith, ints)

first_step : (n : ℕ) (s : Span) (ss : List Span) (z w : Bool) → nat_eq n 0 ≡ z → nat_le n (width s) ≡ w
    → (width s < n → members (first_values (n - (width s + 1)) ss) ≡ take (n - (width s + 1)) (members ss))
    → members (if z then [] else (if w then record { low = s.low; high = s.low +ℤ pos (n - 1) } ∷ [] else s ∷ first_values (n - (width s + 1)) ss)) ≡ take n (members (s ∷ ss))
first_step n s ss true w e f h = let z : n ≡ 0 = grind (arith, nat_tests) in ap (λ m. take m (members (s ∷ ss))) (sym z)
first_step n s ss false true e f h =
    let p : 0 < n = grind (arith, nat_tests) in
    let l : n ≤ width s = grind (arith, nat_tests) in
    append-nil (upward s.low (width (record { low = s.low; high = s.low +ℤ pos (n - 1) }) + 1))
    ∙ (ap (upward s.low) (width_front s.low n p)
    ∙ sym (take-append-le n (upward s.low (width s + 1)) (members ss) (let e = length-upward s.low (width s + 1) in omega arith) ∙ upward_take s.low (width s + 1) n (omega arith)))
first_step n s ss false false e f h =
    let l : width s < n = grind (arith, nat_tests) in
    let m = length-upward s.low (width s + 1) in
    ap (λ xs. upward s.low (width s + 1) ++ xs) (h l)
    ∙ sym (take_past (upward s.low (width s + 1)) (members ss) n (omega arith) ∙ ap (λ k. upward s.low (width s + 1) ++ take (n - k) (members ss)) m)

pub members-first_values : (n : ℕ) (ss : List Span) → members (first_values n ss) ≡ take n (members ss)
members-first_values zero [] = refl
members-first_values (suc n) [] = refl
members-first_values n (s ∷ ss) = first_step n s ss (nat_eq n 0) (nat_le n (width s)) refl refl (λ _. members-first_values (n - (width s + 1)) ss)

later_step : (n : ℕ) (s : Span) (ss : List Span) (w : Bool) → s.low ≤ℤ s.high → nat_le n (width s) ≡ w
    → members (later_values (n - (width s + 1)) ss) ≡ drop (n - (width s + 1)) (members ss)
    → members (if w then record { low = s.low +ℤ pos n; high = s.high } ∷ ss else later_values (n - (width s + 1)) ss) ≡ drop n (members (s ∷ ss))
later_step n s ss true o f h =
    let l : n ≤ width s = grind (arith, nat_tests) in
    let m = length-upward s.low (width s + 1) in
    ap (λ k. upward (s.low +ℤ pos n) k ++ members ss) (width_back s.low s.high n o l)
    ∙ sym (drop-append-le n (upward s.low (width s + 1)) (members ss) (omega arith) ∙ ap (λ xs. xs ++ members ss) (upward_drop s.low (width s + 1) n (omega arith)))
later_step n s ss false o f h =
    let l : width s < n = grind (arith, nat_tests) in
    let m = length-upward s.low (width s + 1) in
    h ∙ sym (drop_past (upward s.low (width s + 1)) (members ss) n (omega arith) ∙ ap (λ k. drop (n - k) (members ss)) m)

pub members-later_values : (n : ℕ) (ss : List Span) → AreApart ss → members (later_values n ss) ≡ drop n (members ss)
members-later_values zero [] h = refl
members-later_values (suc n) [] h = refl
members-later_values n (s ∷ ss) h = later_step n s ss (nat_le n (width s)) h.0.ordered refl (members-later_values (n - (width s + 1)) ss h.2)

first_lows_step : (a : ℤ) (n : ℕ) (s : Span) (rest : List Span) (z w : Bool) → a <ℤ s.low → AllByRecursion (λ (t : Span). a <ℤ t.low) rest
    → AllByRecursion (λ (t : Span). a <ℤ t.low) (if z then [] else (if w then record { low = s.low; high = s.low +ℤ pos (n - 1) } ∷ [] else s ∷ rest))
first_lows_step a n s rest true w h k = tt
first_lows_step a n s rest false true h k = (h, tt)
first_lows_step a n s rest false false h k = (h, k)

first_lows : (a : ℤ) (n : ℕ) (ss : List Span) → AllByRecursion (λ t. a <ℤ t.low) ss → AllByRecursion (λ t. a <ℤ t.low) (first_values n ss)
first_lows a n [] h = tt
first_lows a n (s ∷ ss) h = first_lows_step a n s (first_values (n - (width s + 1)) ss) (nat_eq n 0) (nat_le n (width s)) h.0 (first_lows a (n - (width s + 1)) ss h.1)

apart-first_step : (n : ℕ) (s : Span) (rest : List Span) (z w : Bool) → nat_eq n 0 ≡ z → nat_le n (width s) ≡ w → IsSpan s → AllByRecursion (λ t. (s.high +ℤ pos 1) <ℤ t.low) rest → AreApart rest
    → AreApart (if z then [] else (if w then record { low = s.low; high = s.low +ℤ pos (n - 1) } ∷ [] else s ∷ rest))
apart-first_step n s rest true w e f h k m = tt
apart-first_step n s rest false true e f h k m =
    let p : 0 < n = grind (arith, nat_tests) in
    let l : n ≤ width s = grind (arith, nat_tests) in
    (record { lower = h.lower; ordered = rises s.low (n - 1); upper = stays s.low s.high n h.ordered h.upper l }, tt, tt) where
      rises : (a : ℤ) (k : ℕ) → a ≤ℤ (a +ℤ pos k)
      rises a k = omega (arith, ints)

      stays : (a b : ℤ) (n : ℕ) → a ≤ℤ b → b ≤ℤ highest → n ≤ unsigned_abs (b -ℤ a) → (a +ℤ pos (n - 1)) ≤ℤ highest
      stays a b n h k l = omega (arith, ints)
apart-first_step n s rest false false e f h k m = (h, k, m)

pub AreApart-first_values : (n : ℕ) (ss : List Span) → AreApart ss → AreApart (first_values n ss)
AreApart-first_values n [] h = tt
AreApart-first_values n (s ∷ ss) h =
    apart-first_step n s (first_values (n - (width s + 1)) ss) (nat_eq n 0) (nat_le n (width s)) refl refl h.0
    (first_lows (s.high +ℤ pos 1) (n - (width s + 1)) ss h.1) (AreApart-first_values (n - (width s + 1)) ss h.2)

apart-later_step : (n : ℕ) (s : Span) (ss rest : List Span) (w : Bool) → nat_le n (width s) ≡ w → AreApart (s ∷ ss) → AreApart rest
    → AreApart (if w then record { low = s.low +ℤ pos n; high = s.high } ∷ ss else rest)
apart-later_step n s ss rest true e h k =
    let l : n ≤ width s = grind (arith, nat_tests) in
    (record { lower = rises s.low n h.0.lower; ordered = stays s.low s.high n h.0.ordered l; upper = h.0.upper }, h.1, h.2) where
      rises : (a : ℤ) (k : ℕ) → lowest ≤ℤ a → lowest ≤ℤ (a +ℤ pos k)
      rises a k h = omega (arith, ints)

      stays : (a b : ℤ) (n : ℕ) → a ≤ℤ b → n ≤ unsigned_abs (b -ℤ a) → (a +ℤ pos n) ≤ℤ b
      stays a b n h l = omega (arith, ints)
apart-later_step n s ss rest false e h k = k

pub AreApart-later_values : (n : ℕ) (ss : List Span) → AreApart ss → AreApart (later_values n ss)
AreApart-later_values n [] h = tt
AreApart-later_values n (s ∷ ss) h = apart-later_step n s ss (later_values (n - (width s + 1)) ss) (nat_le n (width s)) refl h (AreApart-later_values (n - (width s + 1)) ss h.2)

-- ---- fresh values
pub in_order_same : (xs ys : List ℤ) → ((x : ℤ) → has_element xs x ≡ has_element ys x) → in_order xs ≡ in_order ys
in_order_same xs ys e =
    ascending_same (in_order xs) (in_order ys) (IsAscending-in_order xs) (IsAscending-in_order ys) (λ x. has_element-in_order xs x ∙ (e x ∙ sym (has_element-in_order ys x)))

pub in_order_ascending : (xs : List ℤ) → IsAscending xs → in_order xs ≡ xs
in_order_ascending xs h = ascending_same (in_order xs) xs (IsAscending-in_order xs) h (has_element-in_order xs)

all-take : (P : ℤ → Type 0) (n : ℕ) (xs : List ℤ) → AllByRecursion P xs → AllByRecursion P (take n xs)
all-take P zero xs h = tt
all-take P (suc n) [] h = tt
all-take P (suc n) (x ∷ xs) h = (h.0, all-take P n xs h.1)

IsAscending-take : (n : ℕ) (xs : List ℤ) → IsAscending xs → IsAscending (take n xs)
IsAscending-take zero xs h = tt
IsAscending-take (suc n) [] h = tt
IsAscending-take (suc n) (x ∷ xs) h = (all-take (λ y. x <ℤ y) n xs h.0, IsAscending-take n xs h.1)

or_none : (b c : Bool) → (b || (c || false)) ≡ (c || b)
or_none true true = refl
or_none true false = refl
or_none false true = refl
or_none false false = refl

or_last : (b c : Bool) → (b || (c || false)) ≡ (c || b)
or_last b c = or_none b c

pub has-reverse : (xs : List ℤ) (x : ℤ) → has_element (reverse xs) x ≡ has_element xs x
has-reverse [] x = refl
has-reverse (y ∷ ys) x = ap (λ zs. has_element zs x) (reverse-append (y ∷ []) ys) ∙ (list_any-append (int_eq x) (reverse ys) (y ∷ []) ∙ (ap (λ b. b || (int_eq x y || false)) (has-reverse ys x) ∙ or_last (has_element ys x) (int_eq x y)))

filter-reverse : (p : ℤ → Bool) (xs : List ℤ) → filter p (reverse xs) ≡ reverse (filter p xs)
filter-reverse p [] = refl
filter-reverse p (y ∷ ys) =
    ap (filter p) (reverse-append (y ∷ []) ys)
    ∙ (filter-append p (reverse ys) (y ∷ [])
    ∙ (ap (λ zs. zs ++ filter p (y ∷ [])) (filter-reverse p ys) ∙ one (p y) y (filter p ys))) where
      one : (b : Bool) (y : ℤ) (zs : List ℤ) → reverse zs ++ cond b (y ∷ []) [] ≡ reverse (cond b (y ∷ zs) zs)
      one true y zs = sym (reverse-append (y ∷ []) zs)
      one false y zs = append-nil (reverse zs)

take-reverse : (n : ℕ) (xs : List ℤ) → n ≤ length xs → take n (reverse xs) ≡ reverse (drop (length xs - n) xs)
take-reverse n xs h =
    ap (λ ys. take n (reverse ys)) (sym (take-append-drop (length xs - n) xs))
    ∙ (ap (take n) (reverse-append (take (length xs - n) xs) (drop (length xs - n) xs))
    ∙ take_at (reverse (drop (length xs - n) xs)) (reverse (take (length xs - n) xs)) n (length-reverse (drop (length xs - n) xs) ∙ (length-drop (length xs - n) xs ∙ omega arith)))

fresh_parts : (xs : List ℤ) → fresh_values xs ≡ fresh_up xs ++ reverse (fresh_down xs)
fresh_parts xs =
    filter-append (λ x. not (has_element xs x)) (upward (pos 0) (2 ^ 127)) (reverse (upward lowest (2 ^ 127)))
    ∙ ap (λ ys. fresh_up xs ++ ys) (filter-reverse (λ x. not (has_element xs x)) (upward lowest (2 ^ 127)))

pub length-fresh_values : (xs : List ℤ) → length (fresh_values xs) ≡ length (fresh_up xs) + length (fresh_down xs)
length-fresh_values xs = ap length (fresh_parts xs) ∙ (length-append (fresh_up xs) (reverse (fresh_down xs)) ∙ ap (λ n. length (fresh_up xs) + n) (length-reverse (fresh_down xs)))

IsAscending-fresh_up : (xs : List ℤ) → IsAscending (fresh_up xs)
IsAscending-fresh_up xs = IsAscending-filter (λ x. not (has_element xs x)) (upward (pos 0) (2 ^ 127)) (IsAscending-upward (pos 0) (2 ^ 127))

-- where enough of the fresh values are not negative
pub fresh_from_up : (n : ℕ) (xs : List ℤ) → n ≤ length (fresh_up xs) → take n (fresh_up xs) ≡ in_order (take n (fresh_values xs))
fresh_from_up n xs h =
    sym (in_order_ascending (take n (fresh_up xs)) (IsAscending-take n (fresh_up xs) (IsAscending-fresh_up xs)))
    ∙ ap in_order (sym (ap (take n) (fresh_parts xs) ∙ take-append-le n (fresh_up xs) (reverse (fresh_down xs)) h))

or_comm : (a b : Bool) → (a || b) ≡ (b || a)
or_comm true true = refl
or_comm true false = refl
or_comm false true = refl
or_comm false false = refl

-- where negative values are needed too
pub fresh_from_both : (n m : ℕ) (xs : List ℤ) → n ≡ length (fresh_up xs) + m → m ≤ length (fresh_down xs)
    → in_order (drop (length (fresh_down xs) - m) (fresh_down xs) ++ without (fresh_up xs) (drop (length (fresh_down xs) - m) (fresh_down xs))) ≡ in_order (take n (fresh_values xs))
fresh_from_both n m xs e h =
    let low : List ℤ = drop (length (fresh_down xs) - m) (fresh_down xs) in
    let k : n - length (fresh_up xs) ≡ m = omega arith in
    let taken : take n (fresh_values xs) ≡ fresh_up xs ++ reverse low =
    ap (take n) (fresh_parts xs) ∙ (take_past (fresh_up xs) (reverse (fresh_down xs)) n (omega arith) ∙ ap (λ ys. fresh_up xs ++ ys) (ap (λ j. take j (reverse (fresh_down xs))) k ∙ take-reverse m (fresh_down xs) h)) in
    in_order_same (low ++ without (fresh_up xs) low) (take n (fresh_values xs))
    (λ x. has_element-joined low (fresh_up xs) x
    ∙ (or_comm (has_element low x) (has_element (fresh_up xs) x)
    ∙ sym (ap (λ ys. has_element ys x) taken ∙ (list_any-append (int_eq x) (fresh_up xs) (reverse low) ∙ ap (λ b. has_element (fresh_up xs) x || b) (has-reverse low x)))))

pub length-without_le : (xs ys : List ℤ) → length (without xs ys) ≤ length xs
length-without_le xs ys = kept (λ x. not (has_element ys x)) xs where
  kept_one : (p : ℤ → Bool) (b : Bool) (x : ℤ) (zs : List ℤ) (n : ℕ) → length zs ≤ n → length (cond b (x ∷ zs) zs) ≤ suc n
  kept_one p true x zs n h = omega arith
  kept_one p false x zs n h = omega arith

  kept : (p : ℤ → Bool) (xs : List ℤ) → length (filter p xs) ≤ length xs
  kept p [] = omega arith
  kept p (x ∷ xs) = kept_one p (p x) x (filter p xs) (length xs) (kept p xs)

-- ---- how many values are outside
length-gap : (a b : ℤ) (t : Bool) → int_lt a b ≡ t → a ≤ℤ b → a +ℤ pos (length (members (if t then record { low = a; high = b -ℤ pos 1 } ∷ [] else []))) ≡ b
length-gap a b true e h =
    let l : a <ℤ b = grind (arith, ints) in
    ap (λ xs. a +ℤ pos (length xs)) (append-nil (upward a (width (record { low = a; high = b -ℤ pos 1 }) + 1))) ∙ (ap (λ n. a +ℤ pos n) (length-upward a (width (record { low = a; high = b -ℤ pos 1 }) + 1)) ∙ closes a b l) where
      closes : (a b : ℤ) → a <ℤ b → a +ℤ pos (unsigned_abs ((b -ℤ pos 1) -ℤ a) + 1) ≡ b
      closes a b h = omega (arith, ints)
length-gap a b false e h = let l : b ≤ℤ a = grind (arith, ints) in omega (arith, ints)

members-append : (ss ts : List Span) → members (ss ++ ts) ≡ members ss ++ members ts
members-append [] ts = refl
members-append (s ∷ ss) ts = ap (λ xs. upward s.low (width s + 1) ++ xs) (members-append ss ts) ∙ sym (append_assoc (upward s.low (width s + 1)) (members ss) (members ts))

length-gaps : (next : ℤ) (ss : List Span) → AreApart ss → AllByRecursion (λ t. next ≤ℤ t.low) ss → next ≤ℤ (highest +ℤ pos 1) → next +ℤ pos (length (members (gaps next ss)) + length (members ss)) ≡ highest +ℤ pos 1
length-gaps next [] h k l = ap (λ n. next +ℤ pos n) (let e : length (members (gaps next [])) + 0 ≡ length (members (gaps next [])) = omega arith in e) ∙ length-gap next (highest +ℤ pos 1) (int_lt next (highest +ℤ pos 1)) refl l
length-gaps next (s ∷ ss) h k l =
    let before : next +ℤ pos (length (members (gap next s.low))) ≡ s.low = length-gap next s.low (int_lt next s.low) refl k.0 in
    let after : (s.high +ℤ pos 1) +ℤ pos (length (members (gaps (s.high +ℤ pos 1) ss)) + length (members ss)) ≡ highest +ℤ pos 1 =
    length-gaps (s.high +ℤ pos 1) ss h.2 (all_weaker (λ t. (s.high +ℤ pos 1) <ℤ t.low) (λ t. (s.high +ℤ pos 1) ≤ℤ t.low) (λ t g. omega (arith, ints)) ss h.1) (top s.high h.0.upper) in
    let e : length (members (gaps next (s ∷ ss))) ≡ length (members (gap next s.low)) + length (members (gaps (s.high +ℤ pos 1) ss)) =
    ap length (members-append (gap next s.low) (gaps (s.high +ℤ pos 1) ss)) ∙ length-append (members (gap next s.low)) (members (gaps (s.high +ℤ pos 1) ss)) in
    let f : length (members (s ∷ ss)) ≡ width s + 1 + length (members ss) = length-append (upward s.low (width s + 1)) (members ss) ∙ ap (λ m. m + length (members ss)) (length-upward s.low (width s + 1)) in
    joins next s.low s.high (highest +ℤ pos 1) (length (members (gap next s.low))) (length (members (gaps (s.high +ℤ pos 1) ss))) (length (members ss)) (length (members (gaps next (s ∷ ss)))) (length (members (s ∷ ss))) before after e f h.0.ordered where
      top : (b : ℤ) → b ≤ℤ highest → (b +ℤ pos 1) ≤ℤ (highest +ℤ pos 1)
      top b h = omega (arith, ints)

      joins : (next low high end : ℤ) (g r m p q : ℕ) → next +ℤ pos g ≡ low → (high +ℤ pos 1) +ℤ pos (r + m) ≡ end → p ≡ g + r → q ≡ unsigned_abs (high -ℤ low) + 1 + m → low ≤ℤ high → next +ℤ pos (p + q) ≡ end
      joins next low high end g r m p q h k e f l = omega (arith, ints)

all_values : upward lowest (2 ^ 128) ≡ upward lowest (2 ^ 127) ++ upward (pos 0) (2 ^ 127)
all_values = upward-add lowest (2 ^ 127) (2 ^ 127)

complement_is : (ss : List Span) → AreApart ss → members (gaps lowest ss) ≡ fresh_down (members ss) ++ fresh_up (members ss)
complement_is ss h =
    let p : ℤ → Bool = λ x. not (has_element (members ss) x) in
    members_same (gaps lowest ss) (filter p (upward lowest (2 ^ 128))) (AreApart-gaps ss h) (IsAscending-filter p (upward lowest (2 ^ 128)) (IsAscending-upward lowest (2 ^ 128)))
    (λ x. covers-complement ss h x
    ∙ sym (has_element-filter p (upward lowest (2 ^ 128)) x
    ∙ (ap (λ b. b && not (has_element (members ss) x)) (has_element-upward lowest (2 ^ 128) x)
    ∙ (ap (λ b. (int_le lowest x && int_lt x (lowest +ℤ pos (2 ^ 128))) && not b) (has_element-members ss h x) ∙ ranged x (not (covers ss x))))))
    ∙ (ap (filter p) all_values ∙ filter-append p (upward lowest (2 ^ 127)) (upward (pos 0) (2 ^ 127))) where
      ranged : (x : ℤ) (c : Bool) → ((int_le lowest x && int_lt x (lowest +ℤ pos (2 ^ 128))) && c) ≡ (is_wide_enough x && c)
      ranged x c = grind (arith, ints)

pub length-outside : (ss : List Span) → AreApart ss → length (fresh_values (members ss)) + length (members ss) ≡ 2 ^ 128
length-outside ss h =
    let e : lowest +ℤ pos (length (members (gaps lowest ss)) + length (members ss)) ≡ highest +ℤ pos 1 = length-gaps lowest ss h (all_low ss h) (omega (arith, ints)) in
    let f : length (members (gaps lowest ss)) ≡ length (fresh_down (members ss)) + length (fresh_up (members ss)) = ap length (complement_is ss h) ∙ length-append (fresh_down (members ss)) (fresh_up (members ss)) in
    let g = length-fresh_values (members ss) in
    total (length (fresh_values (members ss))) (length (members ss)) (length (members (gaps lowest ss))) e (g ∙ (let c : length (fresh_up (members ss)) + length (fresh_down (members ss)) ≡ length (fresh_down (members ss)) + length (fresh_up (members ss)) = omega arith in c) ∙ sym f) where
      total : (a b c : ℕ) → lowest +ℤ pos (c + b) ≡ highest +ℤ pos 1 → a ≡ c → a + b ≡ 2 ^ 128
      total a b c e f = omega (arith, ints)

pub length-fresh_up_le : (xs : List ℤ) → length (fresh_up xs) ≤ 2 ^ 127
length-fresh_up_le xs = omega (arith, length-without_le (upward (pos 0) (2 ^ 127)) xs, length-upward (pos 0) (2 ^ 127))

pub length-fresh_down_le : (xs : List ℤ) → length (fresh_down xs) ≤ 2 ^ 127
length-fresh_down_le xs = omega (arith, length-without_le (upward lowest (2 ^ 127)) xs, length-upward lowest (2 ^ 127))

-- the same, as the code computes it
pub fresh_joined : (n m k : ℕ) (xs up down low : List ℤ) → up ≡ fresh_up xs → down ≡ fresh_down xs → low ≡ drop k down → k ≡ length down - m → n ≡ length up + m → m ≤ length down
    → in_order (low ++ without up low) ≡ in_order (take n (fresh_values xs))
fresh_joined n m k xs up down low e f g d a l =
    let low' : low ≡ drop (length (fresh_down xs) - m) (fresh_down xs) = g ∙ (ap (λ j. drop j down) d ∙ ap (λ ys. drop (length ys - m) ys) f) in
    ap (λ ys. in_order (ys ++ without up ys)) low'
    ∙ (ap (λ ys. in_order (drop (length (fresh_down xs) - m) (fresh_down xs) ++ without ys (drop (length (fresh_down xs) - m) (fresh_down xs)))) e
    ∙ fresh_from_both n m xs (a ∙ ap (λ ys. length ys + m) e) (subst (λ (ys : List ℤ). m ≤ length ys) f l))

-- ---- the derived `==` of spans
pub span_eq-Decides : (a b : Span) → Decides (int_eq a.low b.low && int_eq a.high b.high) (a ≡ b)
span_eq-Decides a b = (
  λ e. let f : (a.low ≡ b.low) × (a.high ≡ b.high) = both (int_eq a.low b.low) (int_eq a.high b.high) (signed_Decides a.low b.low) (signed_Decides a.high b.high) e in λ i. record { low = f.0 i; high = f.1 i },
  λ e. ap (λ (s : Span). int_eq a.low s.low && int_eq a.high s.high) (sym e) ∙ (ap (λ t. t && int_eq a.high a.high) (int_eq-same a.low) ∙ int_eq-same a.high),
) where
  both : {P Q : Type 0} (s t : Bool) → Decides s P → Decides t Q → (s && t) ≡ true → P × Q
  both true t p q e = (p.0 refl, q.0 e)
  both false t p q e = absurd (false≢true e)

pub spans_eq-Decides : (ss ts : List Span) (b : Bool) → b ≡ pointwise (λ a b. int_eq a.low b.low && int_eq a.high b.high) ss ts → Decides b (ss ≡ ts)
spans_eq-Decides ss ts b e = subst (λ r. Decides r (ss ≡ ts)) (sym e) (pointwise_decides span_eq-Decides ss ts)
