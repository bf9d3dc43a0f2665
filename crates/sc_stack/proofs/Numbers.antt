-- Look-ups by number in a list that grows at its end, and first answers.
use Rattle.std.proofs.Common.{◌≡◌, ℕ, zero, suc, ◌+◌, ◌<◌, Bool, true, false, cond, List, [], ◌∷◌, ◌++◌, length, map, Option, Some, None, refl, sym, ap, subst, ◌∙◌, arith}
use Rattle.std.specs.Prelude.{slice_get, option_map}
use Rattle.std.specs.List.{AllByRecursion}
use Rattle.std.specs.Option.{option_or}
use Rattle.std.specs.Map.{lookup}
use Rattle.std.proofs.lemmas.List.{length_push}
use Rattle.sc_base.specs.Numbered.{item_at}
use Rattle.sc_stack.specs.Names.{first_of, IsNumber}

pub append-assoc : {X : Type 0} (a b c : List X) → (a ++ b) ++ c ≡ a ++ (b ++ c)
append-assoc [] b c = refl
append-assoc (x ∷ a) b c = ap (λ l. x ∷ l) (append-assoc a b c)

get-push : {X : Type 0} (xs : List X) (x : X) (n : ℕ) → n < length xs → slice_get (xs ++ x ∷ []) n ≡ slice_get xs n
get-push [] x n h = absurd (omega arith)
get-push (y ∷ ys) x zero h = refl
get-push (y ∷ ys) x (suc n) h = get-push ys x n (omega arith)

get-last : {X : Type 0} (xs : List X) (x : X) → slice_get (xs ++ x ∷ []) (length xs) ≡ Some x
get-last [] x = refl
get-last (y ∷ ys) x = get-last ys x

-- the old numbers keep their items
pub item_at-push : {X : Type 0} (xs : List X) (x : X) (n : ℕ) → IsNumber xs n → item_at (xs ++ x ∷ []) n ≡ item_at xs n
item_at-push xs x zero h = refl
item_at-push xs x (suc n) h = get-push xs x n (let p = h.1 in omega arith)

-- the next number has the new item
pub item_at-last : {X : Type 0} (xs : List X) (x : X) → item_at (xs ++ x ∷ []) (length xs + 1) ≡ Some x
item_at-last xs x =
    let e : suc (length xs) ≡ length xs + 1 = omega arith in
    subst (λ n. item_at (xs ++ x ∷ []) n ≡ Some x) e (get-last xs x)

pub item_at-map : {X Y : Type 0} (f : X → Y) (xs : List X) (n : ℕ) → item_at (map f xs) n ≡ option_map f (item_at xs n)
item_at-map f xs zero = refl
item_at-map f xs (suc n) = go xs n
  where
    go : (ys : List _) (k : ℕ) → slice_get (map f ys) k ≡ option_map f (slice_get ys k)
    go [] k = refl
    go (y ∷ ys) zero = refl
    go (y ∷ ys) (suc k) = go ys k

-- an item that is there has a number
pub number_of_item : {X : Type 0} (xs : List X) (n : ℕ) (x : X) → item_at xs n ≡ Some x → IsNumber xs n
number_of_item xs zero x e = cc
number_of_item xs (suc n) x e = let p = within xs n x e in (omega arith, omega arith)
  where
    within : {X : Type 0} (ys : List X) (k : ℕ) (y : X) → slice_get ys k ≡ Some y → k < length ys
    within [] k y e = cc
    within (z ∷ ys) zero y e = omega arith
    within (z ∷ ys) (suc k) y e = let p = within ys k y e in omega arith

-- what is true of each item is true of one of them
pub all_get : {X : Type 0} (P : X → Type 0) (xs : List X) (k : ℕ) (x : X) → AllByRecursion P xs → slice_get xs k ≡ Some x → P x
all_get P [] k x all e = cc
all_get P (y ∷ ys) zero x all e = let same : y ≡ x = cc in subst P same all.0
all_get P (y ∷ ys) (suc k) x all e = all_get P ys k x all.1 e

pub all_at : {X : Type 0} (P : X → Type 0) (xs : List X) (n : ℕ) (x : X) → AllByRecursion P xs → item_at xs n ≡ Some x → P x
all_at P xs zero x all e = cc
all_at P xs (suc n) x all e = all_get P xs n x all e

pub all-push : {X : Type 0} (P : X → Type 0) (xs : List X) (x : X) → AllByRecursion P xs → P x → AllByRecursion P (xs ++ x ∷ [])
all-push P [] x all p = (p, _)
all-push P (y ∷ ys) x all p = (all.0, all-push P ys x all.1 p)

pub all-weaken : {X : Type 0} (P Q : X → Type 0) (xs : List X) → ((x : X) → P x → Q x) → AllByRecursion P xs → AllByRecursion Q xs
all-weaken P Q [] f all = _
all-weaken P Q (y ∷ ys) f all = (f y all.0, all-weaken P Q ys f all.1)

pub number-push : {X : Type 0} (xs : List X) (x : X) (n : ℕ) → IsNumber xs n → IsNumber (xs ++ x ∷ []) n
number-push xs x n h = let a = h.0 in let b = h.1 in let e = length_push xs x in (a, omega arith)

pub number-last : {X : Type 0} (xs : List X) (x : X) → IsNumber (xs ++ x ∷ []) (length xs + 1)
number-last xs x = let e = length_push xs x in (omega arith, omega arith)

-- ---- first answers
pub or-assoc : {X : Type 0} (a b c : Option X) → option_or (option_or a b) c ≡ option_or a (option_or b c)
or-assoc None b c = refl
or-assoc (Some x) b c = refl

pub or-none : {X : Type 0} (a : Option X) → option_or a None ≡ a
or-none None = refl
or-none (Some x) = refl

pub or_is_none : {X : Type 0} (a b : Option X) → option_or a b ≡ None → (a ≡ None) × (b ≡ None)
or_is_none None b e = (refl, e)
or_is_none (Some x) b e = cc

pub first_of-append : {X Y : Type 0} (f : X → Option Y) (xs ys : List X) → first_of f (xs ++ ys) ≡ option_or (first_of f xs) (first_of f ys)
first_of-append f [] ys = refl
first_of-append f (x ∷ xs) ys = ap (option_or (f x)) (first_of-append f xs ys) ∙ sym (or-assoc (f x) (first_of f xs) (first_of f ys))

pub first_of-same : {X Y : Type 0} (P : X → Type 0) (f g : X → Option Y) (xs : List X) → ((x : X) → P x → f x ≡ g x) → AllByRecursion P xs → first_of f xs ≡ first_of g xs
first_of-same P f g [] same all = refl
first_of-same P f g (x ∷ xs) same all = rw (same x all.0, first_of-same P f g xs same all.1) refl

-- the answer comes from an item
pub first_of-some : {X Y : Type 0} (f : X → Option Y) (xs : List X) (y : Y) → first_of f xs ≡ Some y → (x : X) × (f x ≡ Some y)
first_of-some f [] y e = cc
first_of-some f (x ∷ xs) y e = by (f x) refl e (λ r. first_of-some f xs y r)
  where
    by : (o : Option _) → f x ≡ o → option_or o (first_of f xs) ≡ Some y → (first_of f xs ≡ Some y → (z : _) × (f z ≡ Some y)) → (z : _) × (f z ≡ Some y)
    by None own e rest = rest e
    by (Some z) own e rest = (x, own ∙ e)

-- a look-up in a table that grows at its end
pub lookup-push : {K X : Type 0} (t : K → Bool) (es : List (K × X)) (k : K) (x : X) → lookup t (es ++ (k, x) ∷ []) ≡ option_or (lookup t es) (cond (t k) (Some x) None)
lookup-push t [] k x = refl
lookup-push t (e ∷ es) k x = by (t e.0) (lookup-push t es k x)
  where
    by : (b : Bool) → lookup t (es ++ (k, x) ∷ []) ≡ option_or (lookup t es) (cond (t k) (Some x) None) → cond b (Some e.1) (lookup t (es ++ (k, x) ∷ [])) ≡ option_or (cond b (Some e.1) (lookup t es)) (cond (t k) (Some x) None)
    by true h = refl
    by false h = h
