-- What tests that computed to a value say of their parts.
use Rattle.std.proofs.Common.{◌≡◌, ℕ, zero, suc, Bool, true, false, ◌&&◌, ◌||◌, cond, List, [], ◌∷◌, take, drop, Some, ◌⊎◌, inl, inr, refl, sym}
use Rattle.std.specs.Prelude.{slice_get}
use Rattle.std.specs.List.{list_any, list_all}
use Rattle.std.proofs.lemmas.Bool.{false≢true}

pub cond_cases : {A : Type 0} (b : Bool) (x y z : A) → cond b x y ≡ z → ((b ≡ true) × (x ≡ z)) ⊎ ((b ≡ false) × (y ≡ z))
cond_cases true x y z e = inl (refl, e)
cond_cases false x y z e = inr (refl, e)

pub and_true : (a b : Bool) → (a && b) ≡ true → (a ≡ true) × (b ≡ true)
and_true true b e = (refl, e)
and_true false b e = absurd (false≢true e)

pub or_true : (a b : Bool) → (a || b) ≡ true → (a ≡ true) ⊎ (b ≡ true)
or_true true b e = inl refl
or_true false b e = inr e

pub or_false : (a b : Bool) → (a || b) ≡ false → (a ≡ false) × (b ≡ false)
or_false true b e = absurd (false≢true (sym e))
or_false false b e = (refl, e)

pub and_one : (a : Bool) → (a && true) ≡ a
and_one true = refl
and_one false = refl

pub or_none : (a : Bool) → (a || false) ≡ a
or_none true = refl
or_none false = refl

pub or_right : (a b : Bool) → b ≡ true → (a || b) ≡ true
or_right true b e = refl
or_right false b e = e

pub and_right : (a b : Bool) → b ≡ false → (a && b) ≡ false
and_right true b e = e
and_right false b e = refl

module _ {X : Type 0} (p t : X → Bool) where
  -- where p tells that t is true
  pub all_true : ((x : X) → p x ≡ true → t x ≡ true) → (xs : List X) → list_all p xs ≡ true → list_all t xs ≡ true
  all_true h [] e = refl
  all_true h (x ∷ xs) e =
      let parts = and_true (p x) (list_all p xs) e in rw (h x parts.0) (all_true h xs parts.1)

  pub some_true : ((x : X) → p x ≡ true → t x ≡ true) → (xs : List X) → list_any p xs ≡ true → list_any t xs ≡ true
  some_true h [] e = absurd (false≢true e)
  some_true h (x ∷ xs) e =
      elim (or_true (p x) (list_any p xs) e) [ inl a ↦ rw (h x a) | inr b ↦ or_right (t x) (list_any t xs) (some_true h xs b) ]

  -- where p tells that t is false
  pub all_false : ((x : X) → p x ≡ true → t x ≡ false) → (xs : List X) → list_all p xs ≡ true → list_any t xs ≡ false
  all_false h [] e = refl
  all_false h (x ∷ xs) e =
      let parts = and_true (p x) (list_all p xs) e in rw (h x parts.0) (all_false h xs parts.1)

  pub some_false : ((x : X) → p x ≡ true → t x ≡ false) → (xs : List X) → list_any p xs ≡ true → list_all t xs ≡ false
  some_false h [] e = absurd (false≢true e)
  some_false h (x ∷ xs) e =
      elim (or_true (p x) (list_any p xs) e) [ inl a ↦ rw (h x a) | inr b ↦ and_right (t x) (list_all t xs) (some_false h xs b) ]

module _ {X : Type 0} (t : X → Bool) where
  -- an element of a list that all passes
  pub all_at : (xs : List X) (i : ℕ) (x : X) → slice_get xs i ≡ Some x → list_all t xs ≡ true → t x ≡ true
  all_at [] i x e h = absurd cc
  all_at (y ∷ ys) zero x e h = let s : y ≡ x = cc in rw (← s) ((and_true (t y) (list_all t ys) h).0)
  all_at (y ∷ ys) (suc i) x e h = all_at ys i x e ((and_true (t y) (list_all t ys) h).1)

  pub none_at : (xs : List X) (i : ℕ) (x : X) → slice_get xs i ≡ Some x → list_any t xs ≡ false → t x ≡ false
  none_at [] i x e h = absurd cc
  none_at (y ∷ ys) zero x e h = let s : y ≡ x = cc in rw (← s) ((or_false (t y) (list_any t ys) h).0)
  none_at (y ∷ ys) (suc i) x e h = none_at ys i x e ((or_false (t y) (list_any t ys) h).1)

  -- where all others pass, the one decides
  pub all_but : (xs : List X) (i : ℕ) (x : X) → slice_get xs i ≡ Some x → list_all t (take i xs) ≡ true → list_all t (drop (suc i) xs) ≡ true → list_all t xs ≡ t x
  all_but [] i x e a b = absurd cc
  all_but (y ∷ ys) zero x e a b = let s : y ≡ x = cc in let b' : list_all t ys ≡ true = b in rw (s, b') (and_one (t x))
  all_but (y ∷ ys) (suc i) x e a b =
      let parts = and_true (t y) (list_all t (take i ys)) a in rw (parts.0) (all_but ys i x e parts.1 b)

  -- where no other passes, the one decides
  pub none_but : (xs : List X) (i : ℕ) (x : X) → slice_get xs i ≡ Some x → list_any t (take i xs) ≡ false → list_any t (drop (suc i) xs) ≡ false → list_any t xs ≡ t x
  none_but [] i x e a b = absurd cc
  none_but (y ∷ ys) zero x e a b = let s : y ≡ x = cc in let b' : list_any t ys ≡ false = b in rw (s, b') (or_none (t x))
  none_but (y ∷ ys) (suc i) x e a b =
      let parts = or_false (t y) (list_any t (take i ys)) a in rw (parts.0) (none_but ys i x e parts.1 b)
