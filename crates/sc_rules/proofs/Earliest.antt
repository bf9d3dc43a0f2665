-- The earliest of some facts, found by look-ups, is the first fact of the path that is one of them.
use Rattle.std.proofs.Common.{◌≡◌, ℕ, ◌+◌, Bool, true, false, ◌||◌, cond, nat_lt, List, [], ◌∷◌, Option, Some, None, refl, sym, ap, ◌∙◌, arith}
use Rattle.std.specs.Prelude.{find, ⊤}
use Rattle.std.specs.List.{position_from}
use Rattle.std.proofs.lemmas.Bool.{false≢true}
use Rattle.std.proofs.lemmas.Iterator.Adapters.{position_from-zero}
use Rattle.sc_facts.specs.declared.fact.Fact.{Fact}
use Rattle.sc_facts.specs.Same.{same_fact, same_fact-Decides}
use Rattle.sc_facts.specs.Facts.{has, first_place}
use Rattle.sc_base.proofs.Bools.{or_false}
use Rattle.sc_rules.specs.Needs.{is_before, earlier, earliest, EarliestIsFirst}

by_bool : {A : Type 0} (b : Bool) → (b ≡ true → A) → (b ≡ false → A) → A
by_bool true f g = f refl
by_bool false f g = g refl

-- the place behind
next : Option ℕ → Option ℕ
next None = None
next (Some n) = Some (n + 1)

place-next : (p : Fact → Bool) (n : ℕ) (xs : List Fact) → position_from p (n + 1) xs ≡ next (position_from p n xs)
unfolding next
place-next p n [] = refl
place-next p n (x ∷ xs) = by (p x) (place-next p (n + 1) xs)
  where
    by : (b : Bool) → position_from p (n + 1 + 1) xs ≡ next (position_from p (n + 1) xs) → cond b (Some (n + 1)) (position_from p (n + 1 + 1) xs) ≡ next (cond b (Some n) (position_from p (n + 1) xs))
    by true rest = refl
    by false rest = rest

same-other : (f g : Fact) → same_fact f g ≡ false → same_fact g f ≡ false
same-other f g e = by_bool (same_fact g f) (λ t. absurd (false≢true (sym e ∙ (same_fact-Decides f g).1 (sym ((same_fact-Decides g f).0 t))))) (λ t. t)

module _ (x : Fact) (xs : List Fact) where
  at-head : (f : Fact) → same_fact f x ≡ true → first_place (x ∷ xs) f ≡ Some 0
  at-head f e = position_from-zero (same_fact f) (x ∷ xs) ∙ ap (λ b. cond b (Some 0) (position_from (same_fact f) 1 xs)) e

  behind : (f : Fact) → same_fact f x ≡ false → first_place (x ∷ xs) f ≡ next (first_place xs f)
  behind f e =
      position_from-zero (same_fact f) (x ∷ xs) ∙ ap (λ b. cond b (Some 0) (position_from (same_fact f) 1 xs)) e ∙ place-next (same_fact f) 0 xs ∙ ap next (sym (position_from-zero (same_fact f) xs))

  x-is-x : same_fact x x ≡ true
  x-is-x = (same_fact-Decides x x).1 refl

  lt-next : (m n : ℕ) → nat_lt (m + 1) (n + 1) ≡ nat_lt m n
  lt-next m n = grind arith

  lt-zero : (m : ℕ) → nat_lt m 0 ≡ false
  lt-zero m = grind arith

  zero-lt : (n : ℕ) → nat_lt 0 (n + 1) ≡ true
  zero-lt n = grind arith

  before-next : (a b : Option ℕ) → is_before (next a) (next b) ≡ is_before a b
  unfolding next
  before-next None b = refl
  before-next (Some m) None = refl
  before-next (Some m) (Some n) = lt-next m n

  none-before : (a : Option ℕ) → is_before a (Some 0) ≡ false
  none-before None = refl
  none-before (Some m) = lt-zero m

  zero-before : (a : Option ℕ) → is_before (Some 0) (next a) ≡ true
  unfolding next
  zero-before None = refl
  zero-before (Some n) = zero-lt n

  -- once it is the head it stays so
  stays-head : (fs : List Fact) → earliest (x ∷ xs) (Some x) fs ≡ Some x
  stays-head [] = refl
  stays-head (f ∷ fs) =
      let no : is_before (first_place (x ∷ xs) f) (first_place (x ∷ xs) x) ≡ false = ap (is_before (first_place (x ∷ xs) f)) (at-head x x-is-x) ∙ none-before (first_place (x ∷ xs) f) in
      ap (λ b. earliest (x ∷ xs) (cond b (Some f) (Some x)) fs) no ∙ stays-head fs

  -- the head is taken
  takes-head : (best : Option Fact) → earlier (x ∷ xs) best x ≡ Some x
  takes-head None = ap (λ b. cond (b || has xs x) (Some x) None) x-is-x
  takes-head (Some d) =
      by_bool (same_fact d x)
      (λ t. let same : d ≡ x = (same_fact-Decides d x).0 t in ap (λ e. earlier (x ∷ xs) (Some e) x) same ∙ stays-head (x ∷ []))
      (λ t.
      let yes_before : is_before (first_place (x ∷ xs) x) (first_place (x ∷ xs) d) ≡ true = ap (λ a. is_before a (first_place (x ∷ xs) d)) (at-head x x-is-x) ∙ ap (is_before (Some 0)) (behind d t) ∙ zero-before (first_place xs d) in
      ap (λ b. cond b (Some x) (Some d)) yes_before)

  among : (fs : List Fact) (best : Option Fact) → has fs x ≡ true → earliest (x ∷ xs) best fs ≡ Some x
  among [] best e = absurd (false≢true e)
  among (f ∷ fs) best e =
      by_bool (same_fact x f)
      (λ t. let same : f ≡ x = sym ((same_fact-Decides x f).0 t) in ap (λ g. earliest (x ∷ xs) (earlier (x ∷ xs) best g) fs) same ∙ ap (λ b. earliest (x ∷ xs) b fs) (takes-head best) ∙ stays-head fs)
      (λ t. among fs (earlier (x ∷ xs) best f) (sym (ap (λ b. b || has fs x) t) ∙ e))

  -- the best so far is not the head
  Behind : Option Fact → Type 0
  Behind None = ⊤
  Behind (Some f) = same_fact f x ≡ false

  earlier-behind : (best : Option Fact) (f : Fact) → same_fact f x ≡ false → Behind best → Behind (earlier xs best f)
  unfolding Behind
  earlier-behind None f e h = by (has xs f)
    where
      by : (b : Bool) → Behind (cond b (Some f) None)
      by true = e
      by false = tt
  earlier-behind (Some d) f e h = by (is_before (first_place xs f) (first_place xs d))
    where
      by : (b : Bool) → Behind (cond b (Some f) (Some d))
      by true = e
      by false = h

  earlier-same : (best : Option Fact) (f : Fact) → same_fact f x ≡ false → Behind best → earlier (x ∷ xs) best f ≡ earlier xs best f
  unfolding Behind
  earlier-same None f e h = ap (λ b. cond (b || has xs f) (Some f) None) e
  earlier-same (Some d) f e h =
      let same : is_before (first_place (x ∷ xs) f) (first_place (x ∷ xs) d) ≡ is_before (first_place xs f) (first_place xs d) =
      ap (λ a. is_before a (first_place (x ∷ xs) d)) (behind f e) ∙ ap (is_before (next (first_place xs f))) (behind d h) ∙ before-next (first_place xs f) (first_place xs d) in
      ap (λ b. cond b (Some f) (Some d)) same

  not-among : (fs : List Fact) (best : Option Fact) → has fs x ≡ false → Behind best → earliest (x ∷ xs) best fs ≡ earliest xs best fs
  not-among [] best e h = refl
  not-among (f ∷ fs) best e h =
      let p = or_false (same_fact x f) (has fs x) e in
      let other = same-other x f p.0 in
      ap (λ b. earliest (x ∷ xs) b fs) (earlier-same best f other h) ∙ not-among fs (earlier xs best f) p.1 (earlier-behind best f other h)

  head-or-later : (fs : List Fact) → earliest xs None fs ≡ find (has fs) xs → earliest (x ∷ xs) None fs ≡ find (has fs) (x ∷ xs)
  unfolding Behind
  head-or-later fs rest =
      by_bool (has fs x)
      (λ t. among fs None t ∙ sym (ap (λ b. cond b (Some x) (find (has fs) xs)) t))
      (λ t. not-among fs None t tt ∙ rest ∙ sym (ap (λ b. cond b (Some x) (find (has fs) xs)) t))

on-nothing : (fs : List Fact) → earliest [] None fs ≡ None
on-nothing [] = refl
on-nothing (f ∷ fs) = on-nothing fs

pub earliest_is_first : EarliestIsFirst
earliest_is_first [] fs = on-nothing fs
earliest_is_first (x ∷ xs) fs = head-or-later x xs fs (earliest_is_first xs fs)
