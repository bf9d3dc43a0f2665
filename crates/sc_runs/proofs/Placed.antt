-- The value at a place, found by the last places of spans.
use Rattle.std.proofs.Common.{◌≡◌, ℕ, zero, suc, ◌+◌, ◌-◌, ◌<◌, ◌≤◌, ℤ, pos, ◌+ℤ◌, List, [], ◌∷◌, ◌++◌, length, drop, get_or, Some, None, refl, ap, sym, subst, ◌∙◌, ◌^◌, arith, append_assoc, append-nil}
use Rattle.std.specs.Prelude.{slice_get, nat_lt, FitsSigned, true, false}
use Rattle.std.specs.Int.{w128}
use Rattle.std.specs.List.Sorted.{IsNonDecreasingBy, IsPartitionPoint, IsPartitionedBy}
use Rattle.std.proofs.lemmas.Int.{ints}
use Rattle.std.proofs.lemmas.List.{drop_more}
use Rattle.std.proofs.lemmas.Bool.Decides.{nat_tests}
use Rattle.sc_base.specs.declared.span.Span.{Span}
use Rattle.sc_base.specs.Integers.{upward}
use Rattle.sc_base.specs.Spans.{width, members, IsSpan, AreApart}
use Rattle.sc_base.proofs.Integers.{length-upward}
use Rattle.sc_runs.specs.Places.{last_places}
use Rattle.sc_runs.proofs.Steps.{IsSpan-at, step_fits, length-members_at}

-- the number at a place
get-upward : (a : ℤ) (n k : ℕ) (rest : List ℤ) → k < n → slice_get (upward a n ++ rest) k ≡ Some (a +ℤ pos k)
unfolding upward
get-upward a zero k rest h = absurd (omega arith)
get-upward a (suc n) zero rest h = ap Some (zero_more a) where
  zero_more : (a : ℤ) → a ≡ a +ℤ pos 0
  zero_more a = omega (arith, ints)
get-upward a (suc n) (suc k) rest h = get-upward (a +ℤ pos 1) n k rest (omega arith) ∙ ap Some (one_more a k) where
  one_more : (a : ℤ) (k : ℕ) → (a +ℤ pos 1) +ℤ pos k ≡ a +ℤ pos (suc k)
  one_more a k = omega (arith, ints)

get-past : (xs ys : List ℤ) (k n : ℕ) → length xs ≡ n → n ≤ k → slice_get (xs ++ ys) k ≡ slice_get ys (k - n)
get-past [] ys k n e h = let z : k ≡ k - n = omega arith in ap (slice_get ys) z
get-past (x ∷ xs) ys zero n e h = absurd (omega arith)
get-past (x ∷ xs) ys (suc k) n e h = let z : k - length xs ≡ suc k - n = omega arith in get-past xs ys k (length xs) refl (omega arith) ∙ ap (slice_get ys) z

-- a value past a span's is one of the later spans'
past : (s : Span) (ss : List Span) (n k : ℕ) → n + width s < k → slice_get (members (s ∷ ss)) (k - n) ≡ slice_get (members ss) (k - (n + width s + 1))
past s ss n k h =
    let z : k - n - (width s + 1) ≡ k - (n + width s + 1) = omega arith in
    get-past (upward s.low (width s + 1)) (members ss) (k - n) (width s + 1) (length-upward s.low (width s + 1)) (omega arith) ∙ ap (slice_get (members ss)) z

-- Where the spans' last places before the i-th are below k and the i-th one's is not, the value at k lies in the i-th span.
pub value_at : (ss : List Span) (n k i e : ℕ) (d : Span) → n ≤ k → i < length ss → ((j : ℕ) → j < i → get_or (last_places n ss) j e < k) → k ≤ get_or (last_places n ss) i e
    → (get_or (last_places n ss) i e ≤ k + width (get_or ss i d)) × (slice_get (members ss) (k - n) ≡ Some ((get_or ss i d).low +ℤ pos (width (get_or ss i d) - (get_or (last_places n ss) i e - k))))
value_at [] n k i e d h l below at = absurd (omega arith)
value_at (s ∷ ss) n k zero e d h l below at =
    let z : k - n ≡ width s - (n + width s - k) = omega arith in
    (omega arith, get-upward s.low (width s + 1) (k - n) (members ss) (omega arith) ∙ ap (λ m. Some (s.low +ℤ pos m)) z)
value_at (s ∷ ss) n k (suc i) e d h l below at =
    let first : n + width s < k = below 0 (omega arith) in
    let rest = value_at ss (n + width s + 1) k i e d (omega (arith, first)) (omega arith) (λ j m. below (suc j) (omega (arith, m))) at in
    (rest.0, past s ss n k first ∙ rest.1)

-- Where all last places are below k there is no value at k.
pub no_value : (ss : List Span) (n k e : ℕ) → n ≤ k → ((j : ℕ) → j < length ss → get_or (last_places n ss) j e < k) → slice_get (members ss) (k - n) ≡ None
no_value [] n k e h below = refl
no_value (s ∷ ss) n k e h below =
    let first : n + width s < k = below 0 (omega arith) in
    past s ss n k first ∙ no_value ss (n + width s + 1) k e (omega (arith, first)) (λ j m. below (suc j) (omega (arith, m)))

-- there is one last place for each span
pub length-last_places : (ss : List Span) (n : ℕ) → length (last_places n ss) ≡ length ss
length-last_places [] n = refl
length-last_places (s ∷ ss) n = ap suc (length-last_places ss (n + width s + 1))

-- ---- last places rise
from : (ss : List Span) (n j e : ℕ) → j < length ss → n ≤ get_or (last_places n ss) j e
from [] n j e l = absurd (omega arith)
from (s ∷ ss) n zero e l = omega arith
from (s ∷ ss) n (suc j) e l = omega (arith, from ss (n + width s + 1) j e (omega arith))

rise : (ss : List Span) (n i j e : ℕ) → i ≤ j → j < length ss → get_or (last_places n ss) i e ≤ get_or (last_places n ss) j e
rise [] n i j e m l = absurd (omega arith)
rise (s ∷ ss) n zero zero e m l = omega arith
rise (s ∷ ss) n zero (suc j) e m l = omega (arith, from ss (n + width s + 1) j e (omega arith))
rise (s ∷ ss) n (suc i) zero e m l = absurd (omega arith)
rise (s ∷ ss) n (suc i) (suc j) e m l = rise ss (n + width s + 1) i j e (omega arith) (omega arith)

pub never_fall : (ss : List Span) (n : ℕ) → IsNonDecreasingBy (λ p. p) (last_places n ss)
never_fall ss n i j e m l = rise ss n i j e m (let c = length-last_places ss n in omega (arith, c, l))

-- ---- what a bisection of the last places finds
abbrev pub IsPlaced : List ℕ → ℕ → ℕ → Type 0
IsPlaced lasts k i = IsPartitionPoint (λ y. nat_lt y k ≡ true) (λ y. nat_lt y k ≡ false) lasts i

less_too : (a b k : ℕ) → a ≤ b → nat_lt b k ≡ true → nat_lt a k ≡ true
less_too a b k h e = grind (arith, nat_tests)

less_holds : (a k : ℕ) → nat_lt a k ≡ true → a < k
less_holds a k e = grind (arith, nat_tests)

less_fails : (a k : ℕ) → nat_lt a k ≡ false → k ≤ a
less_fails a k e = grind (arith, nat_tests)

pub parted : (ss : List Span) (lasts : List ℕ) (k : ℕ) → lasts ≡ last_places 0 ss → IsPartitionedBy (λ y. nat_lt y k) lasts
parted ss lasts k e = subst (IsPartitionedBy (λ y. nat_lt y k)) (sym e) (λ i j d l m t. less_too _ _ k (never_fall ss 0 i j d l m) t)

pub record Found (ss : List Span) (lasts : List ℕ) (k i : ℕ) (t : Span) : Type 0 where
  pub within : i < length lasts
  pub proper : IsSpan t
  pub before : k ≤ get_or lasts i 0
  pub reach : get_or lasts i 0 ≤ k + width t
  pub value : slice_get (members ss) k ≡ Some (t.low +ℤ pos (width t - (get_or lasts i 0 - k)))
  pub fits : FitsSigned w128 (t.low +ℤ pos (width t - (get_or lasts i 0 - k)))

found_at : (ss : List Span) (k i : ℕ) (d : Span) → AreApart ss → IsPlaced (last_places 0 ss) k i → i < length ss → Found ss (last_places 0 ss) k i (get_or ss i d)
found_at ss k i d apart p l =
    let c = length-last_places ss 0 in
    let s : IsSpan (get_or ss i d) = IsSpan-at ss i d apart l in
    let w : i < length (last_places 0 ss) = omega (arith, c, l) in
    let at : k ≤ get_or (last_places 0 ss) i 0 = less_fails _ k (p.1 i 0 (omega arith) w) in
    let v = value_at ss 0 k i 0 d (omega arith) l (λ j m. less_holds _ k (p.0 j 0 (omega arith) m)) at in
    let z : k ≡ k - 0 = omega arith in
    record {
      within = w;
      proper = s;
      before = at;
      reach = v.0;
      value = ap (slice_get (members ss)) z ∙ v.1;
      fits = step_fits (get_or ss i d).low (get_or ss i d).high (width (get_or ss i d) - (get_or (last_places 0 ss) i 0 - k)) s.lower s.ordered s.upper (omega arith);
    }

pub found : (ss : List Span) (lasts : List ℕ) (k i : ℕ) (t : Span) → AreApart ss → lasts ≡ last_places 0 ss → IsPlaced lasts k i → i < length ss → t ≡ get_or ss i t → Found ss lasts k i t
found ss lasts k i t apart e p l f =
    subst (λ (u : Span). Found ss lasts k i u) (sym f)
    (subst (λ xs. Found ss xs k i (get_or ss i t)) (sym e) (found_at ss k i t apart (subst (λ xs. IsPlaced xs k i) e p) l))

pub found_nowhere : (ss : List Span) (lasts : List ℕ) (k i : ℕ) → lasts ≡ last_places 0 ss → IsPlaced lasts k i → length ss ≤ i → None ≡ slice_get (members ss) k
found_nowhere ss lasts k i e p l =
    let q = subst (λ xs. IsPlaced xs k i) e p in
    let z : k ≡ k - 0 = omega arith in
    sym (ap (slice_get (members ss)) z ∙ no_value ss 0 k 0 (omega arith) (λ j m. less_holds _ k (q.0 j 0 (omega arith) (omega arith))))

-- ---- the loop that finds the last places
pub room : (ss : List Span) (i first w : ℕ) (d : Span) → i < length ss → first + length (members (drop i ss)) ≤ 2 ^ 128 → w ≡ width (get_or ss i d) → first + w < 2 ^ 128
room ss i first w d l h e = let m = length-members_at ss i d l in omega (arith, m, h, e)

pub room_more : (ss : List Span) (i first next : ℕ) (d : Span) → i < length ss → first + length (members (drop i ss)) ≤ 2 ^ 128 → next ≡ first + width (get_or ss i d) + 1 → next + length (members (drop (i + 1) ss)) ≤ 2 ^ 128
room_more ss i first next d l h e = let m = length-members_at ss i d l in omega (arith, m, h, e)

pub places_more : (places new all : List ℕ) (ss : List Span) (i first last next : ℕ) (d : Span) → i < length ss → new ≡ places ++ last ∷ [] → last ≡ first + width (get_or ss i d) → next ≡ last + 1
    → places ++ last_places first (drop i ss) ≡ all → new ++ last_places next (drop (i + 1) ss) ≡ all
places_more places new all ss i first last next d l e f g h =
    let step : last ∷ last_places next (drop (i + 1) ss) ≡ last_places first (drop i ss) =
    ap (λ n. last ∷ last_places n (drop (i + 1) ss)) (g ∙ ap (λ n. n + 1) f) ∙ (ap (λ n. n ∷ last_places (first + width (get_or ss i d) + 1) (drop (i + 1) ss)) f ∙ sym (ap (last_places first) (drop_more ss i d l))) in
    ap (λ xs. xs ++ last_places next (drop (i + 1) ss)) e
    ∙ (append_assoc places (last ∷ []) (last_places next (drop (i + 1) ss)) ∙ (ap (λ xs. places ++ xs) step ∙ h))

none_left : (ss : List Span) → length (members ss) ≤ 0 → ss ≡ []
none_left [] h = refl
none_left (s ∷ ss) h = let m = length-members_at (s ∷ ss) 0 s (omega arith) in absurd (omega (arith, m, h))

pub places_done : (places new all : List ℕ) (ss : List Span) (i first last : ℕ) (d : Span) → i < length ss → new ≡ places ++ last ∷ [] → last ≡ first + width (get_or ss i d) → 2 ^ 128 ≤ last + 1
    → first + length (members (drop i ss)) ≤ 2 ^ 128 → places ++ last_places first (drop i ss) ≡ all → new ≡ all
places_done places new all ss i first last d l e f big few h =
    let m = length-members_at ss i d l in
    let none : drop (i + 1) ss ≡ [] = none_left (drop (i + 1) ss) (omega (arith, m, few, f, big)) in
    let whole : new ++ last_places (last + 1) (drop (i + 1) ss) ≡ all = places_more places new all ss i first last (last + 1) d l e f refl h in
    sym (append-nil new) ∙ (ap (λ ss. new ++ last_places (last + 1) ss) (sym none) ∙ whole)

pub at_least : (n : ℕ) → (n < 2 ^ 128 → ⊥) → 2 ^ 128 ≤ n
at_least n h = grind arith
