-- Cells by their numbers, after one is changed or others are added.
use Rattle.std.proofs.Common.{◌≡◌, ℕ, zero, suc, ◌<◌, ◌≤◌, ◌⊎◌, inl, inr, List, [], ◌∷◌, ◌++◌, length, slice_set, Some, refl, ap, subst, arith}
use Rattle.std.proofs.lemmas.List.{length-set}
use Rattle.std.proofs.lemmas.Option.{slice_get_within}
use Rattle.std.specs.List.{slice_get, AllByRecursion}
use Rattle.sc_base.specs.Numbered.{item_at}
use Rattle.sc_tree.specs.Machine.{set_cell}

get-set_other : {X : Type 0} (xs : List X) (i j : ℕ) (y x : X) → (i ≡ j → ⊥) → slice_get xs j ≡ Some x → slice_get (slice_set xs i y) j ≡ Some x
get-set_other [] i j y x other e = absurd cc
get-set_other (z ∷ xs) zero zero y x other e = absurd (other refl)
get-set_other (z ∷ xs) zero (suc j) y x other e = e
get-set_other (z ∷ xs) (suc i) zero y x other e = e
get-set_other (z ∷ xs) (suc i) (suc j) y x other e = get-set_other xs i j y x (λ p. other (ap suc p)) e

get-set_same : {X : Type 0} (xs : List X) (i : ℕ) (y x : X) → slice_get xs i ≡ Some x → slice_get (slice_set xs i y) i ≡ Some y
get-set_same [] i y x e = absurd cc
get-set_same (z ∷ xs) zero y x e = refl
get-set_same (z ∷ xs) (suc i) y x e = get-set_same xs i y x e

get-set_back : {X : Type 0} (xs : List X) (i j : ℕ) (y z : X) → slice_get (slice_set xs i y) j ≡ Some z → ((i ≡ j) × (z ≡ y)) ⊎ (slice_get xs j ≡ Some z)
get-set_back [] i j y z e = absurd cc
get-set_back (x ∷ xs) zero zero y z e = inl (refl, cc)
get-set_back (x ∷ xs) zero (suc j) y z e = inr e
get-set_back (x ∷ xs) (suc i) zero y z e = inr e
get-set_back (x ∷ xs) (suc i) (suc j) y z e =
    elim (get-set_back xs i j y z e) [ inl here ↦ inl (ap suc here.0, here.1) | inr old ↦ inr old ]

pub get-append : {X : Type 0} (xs ys : List X) (j : ℕ) (x : X) → slice_get xs j ≡ Some x → slice_get (xs ++ ys) j ≡ Some x
get-append [] ys j x e = absurd cc
get-append (z ∷ xs) ys zero x e = e
get-append (z ∷ xs) ys (suc j) x e = get-append xs ys j x e

all-get : {X : Type 0} (P : X → Type 0) (xs : List X) (j : ℕ) (x : X) → AllByRecursion P xs → slice_get xs j ≡ Some x → P x
all-get P [] j x all e = absurd cc
all-get P (z ∷ xs) zero x all e = let same : z ≡ x = cc in subst P same all.0
all-get P (z ∷ xs) (suc j) x all e = all-get P xs j x all.1 e

get-append_back : {X : Type 0} (P : X → Type 0) (xs ys : List X) (j : ℕ) (x : X) → AllByRecursion P ys → slice_get (xs ++ ys) j ≡ Some x → (slice_get xs j ≡ Some x) ⊎ P x
get-append_back P [] ys j x all e = inr (all-get P ys j x all e)
get-append_back P (z ∷ xs) ys zero x all e = inl e
get-append_back P (z ∷ xs) ys (suc j) x all e = get-append_back P xs ys j x all e

pub item-set_other : {X : Type 0} (cells : List X) (m n : ℕ) (d c : X) → (m ≡ n → ⊥) → item_at cells n ≡ Some c → item_at (set_cell cells m d) n ≡ Some c
item-set_other cells zero n d c other e = e
item-set_other cells (suc i) zero d c other e = absurd cc
item-set_other cells (suc i) (suc j) d c other e = get-set_other cells i j d c (λ p. other (ap suc p)) e

pub item-set_same : {X : Type 0} (cells : List X) (n : ℕ) (d c : X) → item_at cells n ≡ Some c → item_at (set_cell cells n d) n ≡ Some d
item-set_same cells zero d c e = absurd cc
item-set_same cells (suc i) d c e = get-set_same cells i d c e

pub item-set_back : {X : Type 0} (cells : List X) (m n : ℕ) (d c : X) → item_at (set_cell cells m d) n ≡ Some c → ((m ≡ n) × (c ≡ d)) ⊎ (item_at cells n ≡ Some c)
item-set_back cells zero n d c e = inr e
item-set_back cells (suc i) zero d c e = absurd cc
item-set_back cells (suc i) (suc j) d c e =
    elim (get-set_back cells i j d c e) [ inl here ↦ inl (ap suc here.0, here.1) | inr old ↦ inr old ]

pub item-append : {X : Type 0} (cells more : List X) (n : ℕ) (c : X) → item_at cells n ≡ Some c → item_at (cells ++ more) n ≡ Some c
item-append cells more zero c e = absurd cc
item-append cells more (suc i) c e = get-append cells more i c e

pub item-append_back : {X : Type 0} (P : X → Type 0) (cells more : List X) (n : ℕ) (c : X) → AllByRecursion P more → item_at (cells ++ more) n ≡ Some c → (item_at cells n ≡ Some c) ⊎ P c
item-append_back P cells more zero c all e = absurd cc
item-append_back P cells more (suc i) c all e = get-append_back P cells more i c all e

pub item-within : {X : Type 0} (xs : List X) (n : ℕ) (x : X) → item_at xs n ≡ Some x → n ≤ length xs
item-within xs zero x e = absurd cc
item-within xs (suc i) x e = let within : i < length xs = slice_get_within xs i x e in omega (arith, within)

get-past : {X : Type 0} (xs : List X) (y : X) (ys : List X) → slice_get (xs ++ y ∷ ys) (length xs) ≡ Some y
get-past [] y ys = refl
get-past (x ∷ xs) y ys = get-past xs y ys

pub item-past : {X : Type 0} (xs : List X) (y : X) (ys : List X) → item_at (xs ++ y ∷ ys) (suc (length xs)) ≡ Some y
item-past xs y ys = get-past xs y ys

pub length-set_cell : {X : Type 0} (cells : List X) (n : ℕ) (c : X) → length (set_cell cells n c) ≡ length cells
length-set_cell cells zero c = refl
length-set_cell cells (suc i) c = length-set cells i c

pub item-first : {X : Type 0} (cells : List X) (n : ℕ) (c : X) → item_at cells n ≡ Some c → 1 ≤ n
item-first cells zero c e = absurd cc
item-first cells (suc i) c e = omega arith
