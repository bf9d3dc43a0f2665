-- First and last places of items that pass a test.
use Rattle.std.proofs.Common.{◌≡◌, ℕ, zero, suc, ◌≤◌, ◌<◌, Bool, true, false, ◌||◌, List, [], ◌∷◌, ◌++◌, length, take, Option, Some, None, refl, sym, ap, ◌∙◌, arith}
use Rattle.std.specs.Prelude.{slice_get, nat_lt, if◌then◌else◌}
use Rattle.std.specs.Option.{option_map, option_or}
use Rattle.std.proofs.lemmas.Bool.{false≢true}
use Rattle.sc_pool.specs.Pools.{first_where}
use Rattle.sc_pool.specs.Index.{last_where, lesser, up_to, PassesAt}

pub some_same : {X : Type 0} {x y : X} → Some x ≡ Some y → x ≡ y
some_same e = cc

pub none_some : {X : Type 0} {x : X} → None ≡ Some x → ⊥
none_some e = absurd cc

lt-suc : (n m : ℕ) → nat_lt (suc n) (suc m) ≡ nat_lt n m
lt-suc n m = grind arith

lesser-suc : (m n : Option ℕ) → option_map suc (lesser m n) ≡ lesser (option_map suc m) (option_map suc n)
lesser-suc None n = refl
lesser-suc (Some m) None = refl
lesser-suc (Some m) (Some n) = by (nat_lt n m) refl
  where
    by : (b : Bool) → nat_lt n m ≡ b → option_map suc (if nat_lt n m then Some n else Some m) ≡ (if nat_lt (suc n) (suc m) then Some (suc n) else Some (suc m))
    by true e = rw (lt-suc n m, e) refl
    by false e = rw (lt-suc n m, e) refl

lesser-zero : (o : Option ℕ) → lesser (Some 0) (option_map suc o) ≡ Some 0
lesser-zero None = refl
lesser-zero (Some n) = ap (λ b. if b then Some (suc n) else Some 0) (let h : nat_lt (suc n) 0 ≡ false = grind arith in h)

zero-lesser : (o : Option ℕ) → lesser (option_map suc o) (Some 0) ≡ Some 0
zero-lesser None = refl
zero-lesser (Some n) = ap (λ b. if b then Some 0 else Some (suc n)) (let h : nat_lt 0 (suc n) ≡ true = grind arith in h)

module _ {X : Type 0} (test : X → Bool) where
  pub first-within : (xs : List X) (n : ℕ) → first_where test xs ≡ Some n → n < length xs
  first-within [] n e = absurd cc
  first-within (x ∷ xs) n e = by (test x) refl (first_where test xs) refl (λ m f. first-within xs m f) e
    where
      by : (b : Bool) → test x ≡ b → (o : Option ℕ) → first_where test xs ≡ o → ((m : ℕ) → first_where test xs ≡ Some m → m < length xs) → first_where test (x ∷ xs) ≡ Some n → n < length (x ∷ xs)
      by true t o f later e =
          let z : 0 ≡ n = some_same (sym (ap (λ b. if b then Some 0 else option_map suc (first_where test xs)) t) ∙ e) in
          omega (arith, z)
      by false t None f later e =
          absurd (none_some (sym (ap (option_map suc) f) ∙ sym (ap (λ b. if b then Some 0 else option_map suc (first_where test xs)) t) ∙ e))
      by false t (Some m) f later e =
          let less = later m f in
          let z : suc m ≡ n = some_same (sym (ap (option_map suc) f) ∙ sym (ap (λ b. if b then Some 0 else option_map suc (first_where test xs)) t) ∙ e) in
          omega (arith, z, less)

  -- the first place in a list with one more item
  pub first-snoc : (xs : List X) (x : X) → first_where test (xs ++ x ∷ []) ≡ option_or (first_where test xs) (if test x then Some (length xs) else None)
  first-snoc [] x = refl
  first-snoc (y ∷ ys) x = by (test y) refl (first_where test ys) refl (test x) refl (first-snoc ys x)
    where
      by : (b : Bool) → test y ≡ b → (o : Option ℕ) → first_where test ys ≡ o → (c : Bool) → test x ≡ c → first_where test (ys ++ x ∷ []) ≡ option_or (first_where test ys) (if test x then Some (length ys) else None) → first_where test (y ∷ ys ++ x ∷ []) ≡ option_or (first_where test (y ∷ ys)) (if test x then Some (length (y ∷ ys)) else None)
      by true t o f c u rest = rw t refl
      by false t None f true u rest = rw (t, rest, f, u) refl
      by false t None f false u rest = rw (t, rest, f, u) refl
      by false t (Some m) f c u rest = rw (t, rest, f) refl

  -- the first place in a front with one more item
  pub first-next : (xs : List X) (n : ℕ) (x : X) → slice_get xs n ≡ Some x → first_where test (take (suc n) xs) ≡ option_or (first_where test (take n xs)) (if test x then Some n else None)
  first-next [] n x e = absurd cc
  first-next (y ∷ ys) zero x e = let s : y ≡ x = cc in rw s refl
  first-next (y ∷ ys) (suc n) x e = by (test y) refl (first_where test (take n ys)) refl (test x) refl (first-next ys n x e)
    where
      by : (b : Bool) → test y ≡ b → (o : Option ℕ) → first_where test (take n ys) ≡ o → (c : Bool) → test x ≡ c → first_where test (take (suc n) ys) ≡ option_or (first_where test (take n ys)) (if test x then Some n else None) → first_where test (take (suc (suc n)) (y ∷ ys)) ≡ option_or (first_where test (take (suc n) (y ∷ ys))) (if test x then Some (suc n) else None)
      by true t o f c u rest = rw t refl
      by false t None f true u rest = rw (t, rest, f, u) refl
      by false t None f false u rest = rw (t, rest, f, u) refl
      by false t (Some m) f c u rest = rw (t, rest, f) refl

  -- the last place in a list with one more item
  pub last-snoc : (xs : List X) (x : X) → last_where test (xs ++ x ∷ []) ≡ (if test x then Some (length xs) else last_where test xs)
  last-snoc [] x = refl
  last-snoc (y ∷ ys) x = by (test x) refl (last-snoc ys x)
    where
      by : (b : Bool) → test x ≡ b → last_where test (ys ++ x ∷ []) ≡ (if test x then Some (length ys) else last_where test ys) → last_where test (y ∷ ys ++ x ∷ []) ≡ (if test x then Some (length (y ∷ ys)) else last_where test (y ∷ ys))
      by true t rest = rw (rest, t) refl
      by false t rest = rw (rest, t) refl

  pub last-within : (xs : List X) → up_to (last_where test xs) ≤ length xs
  last-within [] = omega arith
  last-within (x ∷ xs) = by (last_where test xs) refl (test x) refl (last-within xs)
    where
      by : (o : Option ℕ) → last_where test xs ≡ o → (b : Bool) → test x ≡ b → up_to (last_where test xs) ≤ length xs → up_to (last_where test (x ∷ xs)) ≤ length (x ∷ xs)
      by (Some n) f b t less = rw f (let h : suc n ≤ length xs = rw f at less in omega (arith, h))
      by None f true t less = rw (f, t) (omega arith)
      by None f false t less = rw (f, t) (omega arith)

  pub last-passes : (xs : List X) → PassesAt test xs (last_where test xs)
  last-passes [] = tt
  last-passes (x ∷ xs) = by (last_where test xs) refl (test x) refl (last-passes xs)
    where
      by : (o : Option ℕ) → last_where test xs ≡ o → (b : Bool) → test x ≡ b → PassesAt test xs (last_where test xs) → PassesAt test (x ∷ xs) (last_where test (x ∷ xs))
      by (Some n) f b t passes = rw f (let h : PassesAt test xs (Some n) = rw f at passes in h)
      by None f true t passes = rw (f, t) (x, refl, t)
      by None f false t passes = rw (f, t) tt

in_front : {X : Type 0} (n : ℕ) (xs : List X) (i : ℕ) (x : X) → slice_get (take n xs) i ≡ Some x → slice_get xs i ≡ Some x
in_front zero xs i x e = absurd cc
in_front (suc n) [] i x e = absurd cc
in_front (suc n) (y ∷ ys) zero x e = e
in_front (suc n) (y ∷ ys) (suc i) x e = in_front n ys i x e

pub passes-front : {X : Type 0} (test : X → Bool) (n : ℕ) (xs : List X) (o : Option ℕ) → PassesAt test (take n xs) o → PassesAt test xs o
passes-front test n xs None p = tt
passes-front test n xs (Some i) p = (p.0, in_front n xs i p.0 p.1, p.2)

-- a shorter front of a front
pub take-take : {X : Type 0} (i n : ℕ) (xs : List X) → i ≤ n → take i (take n xs) ≡ take i xs
take-take zero n xs h = refl
take-take (suc i) zero xs h = absurd (omega (arith, h))
take-take (suc i) (suc n) [] h = refl
take-take (suc i) (suc n) (x ∷ xs) h = ap (λ l. x ∷ l) (take-take i n xs (omega (arith, h)))

module _ {X : Type 0} (p q : X → Bool) where
  pub first-same : ((x : X) → p x ≡ q x) → (xs : List X) → first_where p xs ≡ first_where q xs
  first-same same [] = refl
  first-same same (x ∷ xs) = rw (same x, first-same same xs) refl

  -- where what passes p passes q, none passes p behind the last that passes q
  pub first-up_to : ((x : X) → p x ≡ true → q x ≡ true) → (xs : List X) → first_where p (take (up_to (last_where q xs)) xs) ≡ first_where p xs
  first-up_to tells [] = refl
  first-up_to tells (x ∷ xs) = by (last_where q xs) refl (q x) refl (p x) refl (first-up_to tells xs)
    where
      by : (o : Option ℕ) → last_where q xs ≡ o → (b : Bool) → q x ≡ b → (c : Bool) → p x ≡ c → first_where p (take (up_to (last_where q xs)) xs) ≡ first_where p xs → first_where p (take (up_to (last_where q (x ∷ xs))) (x ∷ xs)) ≡ first_where p (x ∷ xs)
      by (Some n) f b t c u rest = rw f (let h : first_where p (take (suc n) xs) ≡ first_where p xs = rw f at rest in ap (λ (o : Option ℕ). if p x then Some 0 else option_map suc o) h)
      by None f true t c u rest = rw (f, t) (let h : None ≡ first_where p xs = rw f at rest in ap (λ (o : Option ℕ). if p x then Some 0 else option_map suc o) h)
      by None f false t false u rest = rw (f, t, u) (let h : None ≡ first_where p xs = rw f at rest in ap (option_map suc) h)
      by None f false t true u rest = absurd (false≢true (sym t ∙ tells x u))

  -- the first that passes one of two tests
  pub first-or : (xs : List X) → first_where (λ x. p x || q x) xs ≡ lesser (first_where p xs) (first_where q xs)
  first-or [] = refl
  first-or (x ∷ xs) = by (p x) refl (q x) refl (first-or xs)
    where
      by : (b : Bool) → p x ≡ b → (c : Bool) → q x ≡ c → first_where (λ x. p x || q x) xs ≡ lesser (first_where p xs) (first_where q xs) → first_where (λ x. p x || q x) (x ∷ xs) ≡ lesser (first_where p (x ∷ xs)) (first_where q (x ∷ xs))
      by true t true u rest = rw (t, u) refl
      by true t false u rest = rw (t, u) (sym (lesser-zero (first_where q xs)))
      by false t true u rest = rw (t, u) (sym (zero-lesser (first_where p xs)))
      by false t false u rest = rw (t, u) (ap (option_map suc) rest ∙ lesser-suc (first_where p xs) (first_where q xs))

pub passes-within : {X : Type 0} (test : X → Bool) (xs : List X) (n : ℕ) → PassesAt test xs (Some n) → n < length xs
passes-within test xs n p = within xs n p.0 p.1
  where
    within : {X : Type 0} (xs : List X) (n : ℕ) (x : X) → slice_get xs n ≡ Some x → n < length xs
    within [] n x e = absurd cc
    within (y ∷ ys) zero x e = omega arith
    within (y ∷ ys) (suc n) x e = let h = within ys n x e in omega (arith, h)
