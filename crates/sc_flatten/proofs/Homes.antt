-- Each set term but the empty sets stands in one component.
use Rattle.std.proofs.Common.{◌≡◌, ℕ, zero, suc, ◌+◌, ◌<◌, ◌≤◌, Bool, true, false, cond, List, [], ◌∷◌, length, map, Some, inl, inr, refl, sym, ap, subst, ◌∙◌, arith}
use Rattle.std.specs.Prelude.{nat_eq, filter}
use Rattle.std.specs.List.{count_by, AllByRecursion, IsDistinct}
use Rattle.std.proofs.lemmas.Map.Keys.{IsDistinct-head, IsDistinct-tail}
use Rattle.std.proofs.lemmas.Bool.{false≢true}
use Rattle.sc_base.specs.Numbered.{item_at}
use Rattle.sc_base.proofs.Integers.{all_weaker}
use Rattle.sc_terms.specs.declared.nodes.Formula.{Formula}
use Rattle.sc_terms.specs.declared.nodes.SetTerm.{SetTerm}
use Rattle.sc_terms.specs.declared.nodes.SetTerm.TheVariants as sets
use Rattle.sc_terms.specs.Conditions.{IsIn, homes_due}
use Rattle.sc_terms.specs.Lookup.{is_listed}
use Rattle.sc_flatten.specs.Classes.{has_home, is_home, links_of, least_of, numbers_from, homes_of, classes_of, components_of, is_basic, basis_in, bases_of}
use Rattle.sc_flatten.specs.Numbered.{IsAmong}
use Rattle.sc_flatten.proofs.Lists.{same_number, number_same, among_first, among_later, among_cases, among_map, among_filter, among_filtered, all_from, all_map, all_filter, length-filter, length-map, count_cons, count_same, count_none, count_map}
use Rattle.sc_flatten.proofs.Below.{item_within}
use Rattle.sc_flatten.specs.Walk.{firsts}
use Rattle.sc_flatten.proofs.Firsts.{among-firsts, distinct-firsts, firsts_length}

-- ---- the numbers from k upward
pub numbers_in : (k n m : ℕ) → IsAmong (numbers_from k n) m → (k ≤ m) × (m < k + n)
numbers_in k zero m h = absurd (false≢true h)
numbers_in k (suc n) m h =
    elim (among_cases m k (numbers_from (k + 1) n) h) [
      | inl s ↦ subst (λ x. (k ≤ x) × (x < k + suc n)) (sym s) (omega arith, omega arith)
      | inr t ↦ let r = numbers_in (k + 1) n m t in (omega (arith, r.0), omega (arith, r.1))
    ]

numbers_there : (k n m : ℕ) → k ≤ m → m < k + n → IsAmong (numbers_from k n) m
numbers_there k zero m p q = absurd (omega arith)
numbers_there k (suc n) m p q = here (nat_eq m k) refl (λ above. numbers_there (k + 1) n m above (omega arith)) where
  here : (b : Bool) → nat_eq m k ≡ b → (k + 1 ≤ m → IsAmong (numbers_from (k + 1) n) m) → IsAmong (k ∷ numbers_from (k + 1) n) m
  here true e later = subst (λ x. IsAmong (x ∷ numbers_from (k + 1) n) m) (same_number m k e) (among_first m (numbers_from (k + 1) n))
  here false e later = let above : k < m = grind arith in among_later m k (numbers_from (k + 1) n) (later (omega arith))

pub length-numbers : (k n : ℕ) → length (numbers_from k n) ≡ n
length-numbers k zero = refl
length-numbers k (suc n) = ap suc (length-numbers (k + 1) n)

-- a number among different ones is counted once
count_apart : (x : ℕ) (xs : List ℕ) → AllByRecursion (λ y. nat_eq x y ≡ false) xs → count_by (nat_eq x) xs ≡ 0
count_apart x [] h = refl
count_apart x (y ∷ ys) h = count_cons (nat_eq x) y ys ∙ rw (h.0, count_apart x ys h.1) refl

count_once : (x : ℕ) (xs : List ℕ) → IsDistinct nat_eq xs → IsAmong xs x → count_by (nat_eq x) xs ≡ 1
count_once x [] d h = absurd (false≢true h)
count_once x (y ∷ ys) d h = count_cons (nat_eq x) y ys ∙ go (nat_eq x y) refl (count_once x ys (IsDistinct-tail nat_eq y ys d)) where
  apart : x ≡ y → AllByRecursion (λ z. nat_eq x z ≡ false) ys
  apart s = subst (λ k. AllByRecursion (λ z. nat_eq k z ≡ false) ys) (sym s) (IsDistinct-head nat_eq y ys d)

  go : (b : Bool) → nat_eq x y ≡ b → (IsAmong ys x → count_by (nat_eq x) ys ≡ 1) → cond b 1 0 + count_by (nat_eq x) ys ≡ 1
  go true e rest = rw (count_apart x ys (apart (same_number x y e))) refl
  go false e rest =
      let there : IsAmong ys x = elim (among_cases x y ys h) [ inl s ↦ absurd (false≢true (sym e ∙ (ap (nat_eq x) (sym s) ∙ number_same x))) | inr t ↦ t ] in
      rw (rest there) refl

-- ---- a number stands in the class of its least alone
module _ (least : ℕ → ℕ) (ns : List ℕ) where
  class_has : (r n : ℕ) (b : Bool) → nat_eq (least n) r ≡ b → IsAmong ns n → is_listed n (filter (λ m. nat_eq (least m) r) ns) ≡ b
  class_has r n true e h = among_filter (λ m. nat_eq (least m) r) n ns h e
  class_has r n false e h = out (is_listed n (filter (λ m. nat_eq (least m) r) ns)) refl where
    out : (b : Bool) → is_listed n (filter (λ m. nat_eq (least m) r) ns) ≡ b → b ≡ false
    out false g = refl
    out true g = absurd (false≢true (sym e ∙ (among_filtered (λ m. nat_eq (least m) r) n ns g).1))

  class_lacks : (r n : ℕ) → is_listed n ns ≡ false → is_listed n (filter (λ m. nat_eq (least m) r) ns) ≡ false
  class_lacks r n h = out (is_listed n (filter (λ m. nat_eq (least m) r) ns)) refl where
    out : (b : Bool) → is_listed n (filter (λ m. nat_eq (least m) r) ns) ≡ b → b ≡ false
    out false g = refl
    out true g = absurd (false≢true (sym h ∙ (among_filtered (λ m. nat_eq (least m) r) n ns g).0))

  pub count_in : (n : ℕ) → IsAmong ns n → count_by (is_listed n) (classes_of least ns) ≡ count_by (nat_eq (least n)) (firsts (map least ns))
  count_in n h =
      count_map (is_listed n) (λ r. filter (λ m. nat_eq (least m) r) ns) (firsts (map least ns))
      ∙ count_same (λ r. is_listed n (filter (λ m. nat_eq (least m) r) ns)) (nat_eq (least n)) (λ r. class_has r n (nat_eq (least n) r) refl h) (firsts (map least ns))

  pub count_out : (n : ℕ) → is_listed n ns ≡ false → count_by (is_listed n) (classes_of least ns) ≡ 0
  count_out n h =
      count_map (is_listed n) (λ r. filter (λ m. nat_eq (least m) r) ns) (firsts (map least ns))
      ∙ (count_same (λ r. is_listed n (filter (λ m. nat_eq (least m) r) ns)) (λ r. false) (λ r. class_lacks r n h) (firsts (map least ns))
      ∙ count_none (firsts (map least ns)))

  -- all numbers of classes are among those that were classed
  pub classes_hold : (P : ℕ → Type 0) → AllByRecursion P ns → AllByRecursion (λ c. AllByRecursion P c) (classes_of least ns)
  classes_hold P h =
      all_map (λ c. AllByRecursion P c) (λ r. filter (λ m. nat_eq (least m) r) ns) (firsts (map least ns))
      (all_from (λ r. AllByRecursion P (filter (λ m. nat_eq (least m) r) ns)) (firsts (map least ns)) (λ r g. all_filter (λ m. nat_eq (least m) r) P ns h))

  pub length-classes : length (classes_of least ns) ≤ length ns
  length-classes = omega (arith, length-map (λ r. filter (λ m. nat_eq (least m) r) ns) (firsts (map least ns)), firsts_length (map least ns), length-map least ns)

module _ (ss : List SetTerm) (fs : List Formula) where
  abbrev least : ℕ → ℕ
  least = least_of (links_of ss fs)

  homes_in : (n : ℕ) → IsAmong (homes_of ss) n → IsIn (length ss) n
  homes_in n h = let r = numbers_in 1 (length ss) n (among_filtered (is_home ss) n (numbers_from 1 (length ss)) h).0 in (omega (arith, r.0), omega (arith, r.1))

  pub all_homes : AllByRecursion (IsIn (length ss)) (homes_of ss)
  all_homes = all_from (IsIn (length ss)) (homes_of ss) homes_in

  pub home_there : (n : ℕ) → is_home ss n ≡ true → IsAmong (homes_of ss) n
  home_there n h =
      let r = item_within has_home refl ss n h in
      among_filter (is_home ss) n (numbers_from 1 (length ss)) (numbers_there 1 (length ss) n (omega (arith, r.0)) (omega (arith, r.1))) h

  one_home : (n : ℕ) → is_home ss n ≡ true → count_by (is_listed n) (components_of ss fs) ≡ 1
  one_home n h =
      let there = home_there n h in
      count_in least (homes_of ss) n there
      ∙ count_once (least n) (firsts (map least (homes_of ss))) (distinct-firsts (map least (homes_of ss))) (among-firsts (least n) (map least (homes_of ss)) ∙ among_map least n (homes_of ss) there)

  no_home : (n : ℕ) → is_home ss n ≡ false → count_by (is_listed n) (components_of ss fs) ≡ 0
  no_home n h = count_out least (homes_of ss) n (out (is_listed n (homes_of ss)) refl) where
    out : (b : Bool) → is_listed n (homes_of ss) ≡ b → b ≡ false
    out false g = refl
    out true g = absurd (false≢true (sym h ∙ (among_filtered (is_home ss) n (numbers_from 1 (length ss)) g).1))

  homes_of_term : (n : ℕ) (s : SetTerm) (b : Bool) → is_home ss n ≡ b → has_home (Some s) ≡ b → count_by (is_listed n) (components_of ss fs) ≡ homes_due s
  homes_of_term n s true e h = one_home n e ∙ sym (due s h) where
    due : (t : SetTerm) → has_home (Some t) ≡ true → homes_due t ≡ 1
    due (sets.Empty sort) g = absurd (false≢true g)
    due _ g = refl
  homes_of_term n s false e h = no_home n e ∙ sym (due s h) where
    due : (t : SetTerm) → has_home (Some t) ≡ false → homes_due t ≡ 0
    due (sets.Empty sort) g = refl
    due _ g = absurd (false≢true (sym g))

  pub homes_hold : (n : ℕ) (s : SetTerm) → item_at ss n ≡ Some s → count_by (is_listed n) (components_of ss fs) ≡ homes_due s
  homes_hold n s e = homes_of_term n s (has_home (Some s)) (ap has_home e) refl

  pub components_in : AllByRecursion (λ c. AllByRecursion (IsIn (length ss)) c) (components_of ss fs)
  components_in = classes_hold least (homes_of ss) (IsIn (length ss)) all_homes

  pub bases_in : AllByRecursion (λ b. AllByRecursion (IsIn (length ss)) b) (bases_of ss (components_of ss fs))
  bases_in = all_map (λ b. AllByRecursion (IsIn (length ss)) b) (basis_in ss) (components_of ss fs) (all_weaker (λ c. AllByRecursion (IsIn (length ss)) c) (λ c. AllByRecursion (IsIn (length ss)) (basis_in ss c)) (λ c h. all_filter (λ n. is_basic (item_at ss n)) (IsIn (length ss)) c h) (components_of ss fs) components_in)

  pub few_components : length (components_of ss fs) ≤ length ss
  few_components = omega (arith, length-classes least (homes_of ss), length-filter (is_home ss) (numbers_from 1 (length ss)), length-numbers 1 (length ss))
