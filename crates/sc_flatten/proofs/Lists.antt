-- What stands in lists of numbers.
use Rattle.std.proofs.Common.{◌≡◌, ℕ, zero, suc, ◌+◌, ◌<◌, ◌≤◌, Bool, true, false, ◌||◌, cond, List, [], ◌∷◌, ◌++◌, length, map, Some, None, ◌⊎◌, inl, inr, refl, sym, ap, subst, ◌∙◌, arith, length-append}
use Rattle.std.specs.Prelude.{nat_eq, filter, slice_get}
use Rattle.std.specs.Cmp.{unsigned_Decides}
use Rattle.std.specs.List.{flat_map, count_by, AllByRecursion}
use Rattle.std.proofs.lemmas.List.Sums.{sum_by-cons}
use Rattle.sc_base.specs.Numbered.{item_at}
use Rattle.sc_terms.specs.Conditions.{IsIn}
use Rattle.std.proofs.lemmas.Bool.{false≢true}
use Rattle.std.proofs.lemmas.List.Folds.{list_any-append}
use Rattle.sc_base.proofs.Bools.{or_true, or_right}
use Rattle.sc_terms.specs.Lookup.{is_listed}
use Rattle.sc_flatten.specs.Numbered.{IsAmong}

pub same_number : (m n : ℕ) → nat_eq m n ≡ true → m ≡ n
same_number m n e = (unsigned_Decides m n).0 e

pub number_same : (n : ℕ) → nat_eq n n ≡ true
number_same n = (unsigned_Decides n n).1 refl

pub or_left : (a b : Bool) → a ≡ true → (a || b) ≡ true
or_left true b e = refl
or_left false b e = absurd (false≢true e)

pub among_first : (n : ℕ) (ns : List ℕ) → IsAmong (n ∷ ns) n
among_first n ns = or_left (nat_eq n n) (is_listed n ns) (number_same n)

pub among_later : (n m : ℕ) (ns : List ℕ) → IsAmong ns n → IsAmong (m ∷ ns) n
among_later n m ns e = or_right (nat_eq n m) (is_listed n ns) e

pub among_cases : (n m : ℕ) (ns : List ℕ) → IsAmong (m ∷ ns) n → (n ≡ m) ⊎ IsAmong ns n
among_cases n m ns e =
    elim (or_true (nat_eq n m) (is_listed n ns) e) [ inl h ↦ inl (same_number n m h) | inr h ↦ inr h ]

pub among_left : (n : ℕ) (xs ys : List ℕ) → IsAmong xs n → IsAmong (xs ++ ys) n
among_left n xs ys e = list_any-append (nat_eq n) xs ys ∙ or_left (is_listed n xs) (is_listed n ys) e

pub among_right : (n : ℕ) (xs ys : List ℕ) → IsAmong ys n → IsAmong (xs ++ ys) n
among_right n xs ys e = list_any-append (nat_eq n) xs ys ∙ or_right (is_listed n xs) (is_listed n ys) e

pub among_either : (n : ℕ) (xs ys : List ℕ) → IsAmong (xs ++ ys) n → IsAmong xs n ⊎ IsAmong ys n
among_either n xs ys e = or_true (is_listed n xs) (is_listed n ys) (sym (list_any-append (nat_eq n) xs ys) ∙ e)

-- what holds of each number of a list holds of all
pub all_from : (P : ℕ → Type 0) (ns : List ℕ) → ((n : ℕ) → IsAmong ns n → P n) → AllByRecursion P ns
all_from P [] f = tt
all_from P (n ∷ ns) f = (f n (among_first n ns), all_from P ns (λ m h. f m (among_later m n ns h)))

pub all_to : (P : ℕ → Type 0) (ns : List ℕ) → AllByRecursion P ns → (n : ℕ) → IsAmong ns n → P n
all_to P [] h n e = absurd (false≢true e)
all_to P (m ∷ ms) h n e =
    elim (among_cases n m ms e) [ inl s ↦ subst P (sym s) h.0 | inr t ↦ all_to P ms h.1 n t ]

pub all_map : {X Y : Type 0} (P : Y → Type 0) (f : X → Y) (xs : List X) → AllByRecursion (λ x. P (f x)) xs → AllByRecursion P (map f xs)
all_map P f [] h = tt
all_map P f (x ∷ xs) h = (h.0, all_map P f xs h.1)

module _ {Y : Type 0} (P : Y → Type 0) where
  pub all_joined : (ys zs : List Y) → AllByRecursion P ys → AllByRecursion P zs → AllByRecursion P (ys ++ zs)
  all_joined [] zs h k = k
  all_joined (y ∷ ys) zs h k = (h.0, all_joined ys zs h.1 k)

  -- where all of what f gives of each item holds, all of it holds
  pub all_flat_map : {X : Type 0} (f : X → List Y) (xs : List X) → AllByRecursion (λ x. AllByRecursion P (f x)) xs → AllByRecursion P (flat_map f xs)
  all_flat_map f [] h = tt
  all_flat_map f (x ∷ xs) h = all_joined (f x) (flat_map f xs) h.0 (all_flat_map f xs h.1)

module _ {X : Type 0} (t : X → Bool) where
  all_kept : (P : X → Type 0) (b : Bool) (x : X) (xs : List X) → P x → AllByRecursion P xs → AllByRecursion P (cond b (x ∷ xs) xs)
  all_kept P true x xs h k = (h, k)
  all_kept P false x xs h k = k

  pub all_filter : (P : X → Type 0) (xs : List X) → AllByRecursion P xs → AllByRecursion P (filter t xs)
  all_filter P [] h = tt
  all_filter P (x ∷ xs) h = all_kept P (t x) x (filter t xs) h.0 (all_filter P xs h.1)

  all_passing : (b : Bool) (x : X) (xs : List X) → t x ≡ b → AllByRecursion (λ y. t y ≡ true) xs → AllByRecursion (λ y. t y ≡ true) (cond b (x ∷ xs) xs)
  all_passing true x xs e k = (e, k)
  all_passing false x xs e k = k

  pub all_pass : (xs : List X) → AllByRecursion (λ y. t y ≡ true) (filter t xs)
  all_pass [] = tt
  all_pass (x ∷ xs) = all_passing (t x) x (filter t xs) refl (all_pass xs)

  pub length-filter : (xs : List X) → length (filter t xs) ≤ length xs
  length-filter [] = omega arith
  length-filter (x ∷ xs) = elim (t x) as (λ b. length (cond b (x ∷ filter t xs) (filter t xs)) ≤ suc (length xs)) [ true ↦ omega (arith, length-filter xs) | false ↦ omega (arith, length-filter xs) ]

pub among_of : (f : ℕ → List ℕ) (ms : List ℕ) (m n : ℕ) → IsAmong ms m → IsAmong (f m) n → IsAmong (flat_map f ms) n
among_of f [] m n h e = absurd (false≢true h)
among_of f (x ∷ xs) m n h e =
    elim (among_cases m x xs h) [
      | inl s ↦ among_left n (f x) (flat_map f xs) (subst (λ y. IsAmong (f y) n) s e)
      | inr t ↦ among_right n (f x) (flat_map f xs) (among_of f xs m n t e)
    ]

pub among_some : (f : ℕ → List ℕ) (ms : List ℕ) (n : ℕ) → IsAmong (flat_map f ms) n → (m : ℕ) × IsAmong ms m × IsAmong (f m) n
among_some f [] n e = absurd (false≢true e)
among_some f (x ∷ xs) n e =
    elim (among_either n (f x) (flat_map f xs) e) [
      | inl h ↦ (x, among_first x xs, h)
      | inr t ↦ let r = among_some f xs n t in (r.0, among_later r.0 x xs r.1, r.2)
    ]

pub among_map : (f : ℕ → ℕ) (n : ℕ) (ns : List ℕ) → IsAmong ns n → IsAmong (map f ns) (f n)
among_map f n [] h = absurd (false≢true h)
among_map f n (m ∷ ms) h =
    elim (among_cases n m ms h) [
      | inl s ↦ subst (λ k. IsAmong (f k ∷ map f ms) (f n)) s (among_first (f n) (map f ms))
      | inr t ↦ among_later (f n) (f m) (map f ms) (among_map f n ms t)
    ]

module _ (t : ℕ → Bool) where
  kept : (b : Bool) (n m : ℕ) (ms : List ℕ) → t m ≡ b → IsAmong (m ∷ ms) n → t n ≡ true → (IsAmong ms n → IsAmong (filter t ms) n) → IsAmong (cond b (m ∷ filter t ms) (filter t ms)) n
  kept true n m ms e h p rest =
      elim (among_cases n m ms h) [ inl s ↦ subst (λ k. IsAmong (k ∷ filter t ms) n) s (among_first n (filter t ms)) | inr k ↦ among_later n m (filter t ms) (rest k) ]
  kept false n m ms e h p rest =
      elim (among_cases n m ms h) [ inl s ↦ absurd (false≢true (sym e ∙ (ap t (sym s) ∙ p))) | inr k ↦ rest k ]

  pub among_filter : (n : ℕ) (ms : List ℕ) → IsAmong ms n → t n ≡ true → IsAmong (filter t ms) n
  among_filter n [] h p = h
  among_filter n (m ∷ ms) h p = kept (t m) n m ms refl h p (λ k. among_filter n ms k p)

  passed : (b : Bool) (n m : ℕ) (ms : List ℕ) → t m ≡ b → IsAmong (cond b (m ∷ filter t ms) (filter t ms)) n → (IsAmong (filter t ms) n → IsAmong ms n × (t n ≡ true)) → IsAmong (m ∷ ms) n × (t n ≡ true)
  passed true n m ms e h rest =
      elim (among_cases n m (filter t ms) h) [
        | inl s ↦ (subst (λ k. IsAmong (k ∷ ms) n) s (among_first n ms), ap t s ∙ e)
        | inr k ↦ let r = rest k in (among_later n m ms r.0, r.1)
      ]
  passed false n m ms e h rest = let r = rest h in (among_later n m ms r.0, r.1)

  pub among_filtered : (n : ℕ) (ms : List ℕ) → IsAmong (filter t ms) n → IsAmong ms n × (t n ≡ true)
  among_filtered n [] h = absurd (false≢true h)
  among_filtered n (m ∷ ms) h = passed (t m) n m ms refl h (among_filtered n ms)

-- ---- items by their numbers
module _ {X Y : Type 0} (f : X → Y) where
  get_map : (xs : List X) (n : ℕ) (x : X) → slice_get xs n ≡ Some x → slice_get (map f xs) n ≡ Some (f x)
  get_map [] n x e = absurd cc
  get_map (y ∷ ys) zero x e = let same : y ≡ x = cc in ap (λ z. Some (f z)) same
  get_map (y ∷ ys) (suc n) x e = get_map ys n x e

  pub item_map : (xs : List X) (n : ℕ) (x : X) → item_at xs n ≡ Some x → item_at (map f xs) n ≡ Some (f x)
  item_map xs zero x e = absurd cc
  item_map xs (suc n) x e = get_map xs n x e

  get_mapped : (xs : List X) (n : ℕ) (y : Y) → slice_get (map f xs) n ≡ Some y → (x : X) × (slice_get xs n ≡ Some x) × (f x ≡ y)
  get_mapped [] n y e = absurd cc
  get_mapped (x ∷ xs) zero y e = (x, refl, cc)
  get_mapped (x ∷ xs) (suc n) y e = get_mapped xs n y e

  pub item_mapped : (xs : List X) (n : ℕ) (y : Y) → item_at (map f xs) n ≡ Some y → (x : X) × (item_at xs n ≡ Some x) × (f x ≡ y)
  item_mapped xs zero y e = absurd cc
  item_mapped xs (suc n) y e = get_mapped xs n y e

  get_unmapped : (xs : List X) (n : ℕ) → slice_get (map f xs) n ≡ None → slice_get xs n ≡ None
  get_unmapped [] n e = refl
  get_unmapped (x ∷ xs) zero e = absurd cc
  get_unmapped (x ∷ xs) (suc n) e = get_unmapped xs n e

  pub item_unmapped : (xs : List X) (n : ℕ) → item_at (map f xs) n ≡ None → item_at xs n ≡ None
  item_unmapped xs zero e = refl
  item_unmapped xs (suc n) e = get_unmapped xs n e

  pub length-map : (xs : List X) → length (map f xs) ≡ length xs
  length-map [] = refl
  length-map (x ∷ xs) = ap suc (length-map xs)

module _ {X : Type 0} where
  get_appended : (xs ys : List X) (n : ℕ) (z : X) → slice_get (xs ++ ys) n ≡ Some z → (slice_get xs n ≡ Some z) ⊎ ((slice_get xs n ≡ None) × ((m : ℕ) × (slice_get ys m ≡ Some z)))
  get_appended [] ys n z e = inr (refl, (n, e))
  get_appended (x ∷ xs) ys zero z e = inl e
  get_appended (x ∷ xs) ys (suc n) z e = get_appended xs ys n z e

  pub item_appended : (xs ys : List X) (n : ℕ) (z : X) → item_at (xs ++ ys) n ≡ Some z → (item_at xs n ≡ Some z) ⊎ ((item_at xs n ≡ None) × ((m : ℕ) × (item_at ys m ≡ Some z)))
  item_appended xs ys zero z e = absurd cc
  item_appended xs ys (suc n) z e = elim (get_appended xs ys n z e) [ inl h ↦ inl h | inr h ↦ inr (h.0, (suc h.1.0, h.1.1)) ]

  get_first : (xs ys : List X) (n : ℕ) (z : X) → slice_get xs n ≡ Some z → slice_get (xs ++ ys) n ≡ Some z
  get_first [] ys n z e = absurd cc
  get_first (x ∷ xs) ys zero z e = e
  get_first (x ∷ xs) ys (suc n) z e = get_first xs ys n z e

  pub item_first : (xs ys : List X) (n : ℕ) (z : X) → item_at xs n ≡ Some z → item_at (xs ++ ys) n ≡ Some z
  item_first xs ys zero z e = absurd cc
  item_first xs ys (suc n) z e = get_first xs ys n z e

  get_in : (xs : List X) (n : ℕ) → n < length xs → (x : X) × (slice_get xs n ≡ Some x)
  get_in [] n h = absurd (omega arith)
  get_in (x ∷ xs) zero h = (x, refl)
  get_in (x ∷ xs) (suc n) h = get_in xs n (omega arith)

  pub item_in : (xs : List X) (n : ℕ) → IsIn (length xs) n → (x : X) × (item_at xs n ≡ Some x)
  item_in xs zero h = absurd (omega (arith, h.0))
  item_in xs (suc n) h = get_in xs n (omega (arith, h.1))

  pub in_append : (xs ys : List X) (n : ℕ) → IsIn (length xs) n → IsIn (length (xs ++ ys)) n
  in_append xs ys n h = (h.0, omega (arith, h.1, length-append xs ys))

module _ {X : Type 0} (P : X → Type 0) where
  get_all : (xs : List X) (n : ℕ) (x : X) → AllByRecursion P xs → slice_get xs n ≡ Some x → P x
  get_all [] n x h e = absurd cc
  get_all (y ∷ ys) zero x h e = let same : y ≡ x = cc in subst P same h.0
  get_all (y ∷ ys) (suc n) x h e = get_all ys n x h.1 e

  pub item_all : (xs : List X) (n : ℕ) (x : X) → AllByRecursion P xs → item_at xs n ≡ Some x → P x
  item_all xs zero x h e = absurd cc
  item_all xs (suc n) x h e = get_all xs n x h e

-- a number that stands in the list
pub item_among : (ns : List ℕ) (k n : ℕ) → item_at ns k ≡ Some n → IsAmong ns n
item_among ns zero n e = absurd cc
item_among ns (suc k) n e = get_among ns k e where
  get_among : (ms : List ℕ) (j : ℕ) → slice_get ms j ≡ Some n → IsAmong ms n
  get_among [] j h = absurd cc
  get_among (m ∷ ms) zero h = let same : m ≡ n = cc in subst (λ x. IsAmong (x ∷ ms) n) (sym same) (among_first n ms)
  get_among (m ∷ ms) (suc j) h = among_later n m ms (get_among ms j h)

-- ---- how many pass
module _ {X : Type 0} where
  pub count_cons : (p : X → Bool) (x : X) (xs : List X) → count_by p (x ∷ xs) ≡ cond (p x) 1 0 + count_by p xs
  count_cons p x xs = sum_by-cons (λ y. cond (p y) 1 0) x xs

  pub count_same : (p q : X → Bool) → ((x : X) → p x ≡ q x) → (xs : List X) → count_by p xs ≡ count_by q xs
  count_same p q e xs = λ i. count_by (λ x. e x i) xs

  pub count_none : (xs : List X) → count_by (λ x. false) xs ≡ 0
  count_none [] = refl
  count_none (x ∷ xs) = count_cons (λ x. false) x xs ∙ rw (count_none xs) refl

pub count_map : {X Y : Type 0} (p : Y → Bool) (f : X → Y) (xs : List X) → count_by p (map f xs) ≡ count_by (λ x. p (f x)) xs
count_map p f [] = refl
count_map p f (x ∷ xs) = count_cons p (f x) (map f xs) ∙ (ap (λ n. cond (p (f x)) 1 0 + n) (count_map p f xs) ∙ sym (count_cons (λ y. p (f y)) x xs))
