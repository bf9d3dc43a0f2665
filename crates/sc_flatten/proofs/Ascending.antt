-- The first of the numbers of each class is the least of it, where the numbers ascend and have the least numbers of their classes.
use Rattle.std.proofs.Common.{◌≡◌, ℕ, zero, suc, ◌+◌, ◌<◌, ◌≤◌, Bool, true, false, ◌&&◌, cond, List, [], ◌∷◌, ◌++◌, length, map, ◌⊎◌, inl, inr, refl, sym, ap, subst, ◌∙◌, arith}
use Rattle.std.specs.Prelude.{nat_eq, filter, ⊤}
use Rattle.std.specs.List.{flat_map, AllByRecursion}
use Rattle.std.proofs.lemmas.Bool.{false≢true}
use Rattle.std.proofs.lemmas.List.{append_assoc, append-nil}
use Rattle.std.proofs.lemmas.List.Elements.{filter-append}
use Rattle.indexmap.specs.IndexSet.{insert_key, insert_all}
use Rattle.sc_base.proofs.Integers.{all_weaker}
use Rattle.sc_terms.specs.declared.nodes.Formula.{Formula}
use Rattle.sc_terms.specs.declared.nodes.SetTerm.{SetTerm}
use Rattle.sc_terms.specs.Lookup.{is_listed}
use Rattle.sc_flatten.specs.Walk.{firsts}
use Rattle.sc_flatten.specs.Classes.{is_home, argument_links, side_links, links_of, least_of, numbers_from, homes_of, components_of}
use Rattle.sc_flatten.specs.Numbered.{IsAmong}
use Rattle.sc_flatten.specs.Laws.{class_of_least, leasts_among}
use Rattle.sc_flatten.proofs.Homes.{home_there}
use Rattle.sc_flatten.proofs.Leasts.{fold_apart, least_low, least_own}
use Rattle.sc_flatten.proofs.Lists.{same_number, number_same, among_filter, among_filtered, among_cases, among_either, among_first, among_later, all_to, all_joined, all_filter, all_pass}

-- each number is below all later ones
abbrev pub Ascends : List ℕ → Type 0
Ascends [] = ⊤
Ascends (n ∷ ns) = AllByRecursion (λ m. n < m) ns × Ascends ns

module _ (least : ℕ → ℕ) (low : (n : ℕ) → least n ≤ n) (own : (n : ℕ) → least (least n) ≡ least n) where
  abbrev is_least : ℕ → Bool
  is_least n = nat_eq (least n) n

  -- the leasts of the numbers so far are those that are their own, and with what is left all leasts are there
  step : (done : List ℕ) (n : ℕ) (b : Bool) → is_least n ≡ b → AllByRecursion (λ m. m < n) done → (IsAmong done (least n) ⊎ (least n ≡ n)) → insert_key nat_eq (filter is_least done) (least n) ≡ filter is_least done ++ cond b (n ∷ []) []
  step done n true e below there =
      let same : least n ≡ n = same_number (least n) n e in
      let absent : is_listed (least n) (filter is_least done) ≡ false = out (is_listed (least n) (filter is_least done)) refl in
      ap (λ c. cond c (filter is_least done) (filter is_least done ++ least n ∷ [])) absent ∙ ap (λ m. filter is_least done ++ m ∷ []) same
    where
      out : (c : Bool) → is_listed (least n) (filter is_least done) ≡ c → c ≡ false
      out false g = refl
      out true g =
          let m = all_to (λ m. m < n) done below (least n) (among_filtered is_least (least n) done g).0 in
          absurd (omega (arith, m, same_number (least n) n e))
  step done n false e below there =
      let present : is_listed (least n) (filter is_least done) ≡ true = elim there [ inl h ↦ among_filter is_least (least n) done h (rw (own n) (number_same (least n))) | inr h ↦ absurd (false≢true (sym e ∙ (ap (λ m. nat_eq m n) h ∙ number_same n))) ] in
      ap (λ c. cond c (filter is_least done) (filter is_least done ++ least n ∷ [])) present ∙ sym (append-nil (filter is_least done))

  -- the leasts of those that are left come behind those of the numbers so far
  leasts_of : (done rest : List ℕ) → ((n : ℕ) → IsAmong rest n → AllByRecursion (λ m. m < n) done) → Ascends rest → ((n : ℕ) → IsAmong rest n → IsAmong (done ++ rest) (least n)) → insert_all nat_eq (filter is_least done) (map least rest) ≡ filter is_least (done ++ rest)
  leasts_of done [] below up closed = ap (filter is_least) (sym (append-nil done))
  leasts_of done (n ∷ ns) below up closed =
      let there : IsAmong done (least n) ⊎ (least n ≡ n) = elim (among_either (least n) done (n ∷ ns) (closed n (among_first n ns))) [
        | inl h ↦ inl h
        | inr h ↦ elim (among_cases (least n) n ns h) [ inl s ↦ inr s | inr t ↦ absurd (omega (arith, all_to (λ m. n < m) ns up.0 (least n) t, low n)) ]
      ] in
      ap (λ ks. insert_all nat_eq ks (map least ns)) (step done n (is_least n) refl (below n (among_first n ns)) there ∙ sym (filter-append is_least done (n ∷ [])))
      ∙ (leasts_of (done ++ n ∷ []) ns
      (λ m h. all_joined (λ k. k < m) done (n ∷ []) (below m (among_later m n ns h)) (all_to (λ k. n < k) ns up.0 m h, tt))
      up.1
      (λ m h. subst (λ xs. IsAmong xs (least m)) (sym (append_assoc done (n ∷ []) ns)) (closed m (among_later m n ns h)))
      ∙ ap (filter is_least) (append_assoc done (n ∷ []) ns))

  pub leasts_first : (ns : List ℕ) → Ascends ns → ((n : ℕ) → IsAmong ns n → IsAmong ns (least n)) → firsts (map least ns) ≡ filter is_least ns
  leasts_first ns up closed = leasts_of [] ns (λ n h. tt) up closed

-- ---- set terms in order
numbers_above : (j k n : ℕ) → j < k → AllByRecursion (λ m. j < m) (numbers_from k n)
numbers_above j k zero h = tt
numbers_above j k (suc n) h = (h, numbers_above j (k + 1) n (omega arith))

numbers_ascend : (k n : ℕ) → Ascends (numbers_from k n)
numbers_ascend k zero = tt
numbers_ascend k (suc n) = (numbers_above k (k + 1) n (omega arith), numbers_ascend (k + 1) n)

filter_ascends : (t : ℕ → Bool) (ns : List ℕ) → Ascends ns → Ascends (filter t ns)
filter_ascends t [] h = tt
filter_ascends t (n ∷ ns) h = kept (t n) (filter_ascends t ns h.1) where
  kept : (b : Bool) → Ascends (filter t ns) → Ascends (cond b (n ∷ filter t ns) (filter t ns))
  kept true rest = (all_filter t (λ m. n < m) ns h.0, rest)
  kept false rest = rest

module _ (ss : List SetTerm) (fs : List Formula) where
  abbrev least : ℕ → ℕ
  least = least_of (links_of ss fs)

  both_same : (a b : Bool) → (a && b) ≡ true → a ≡ b
  both_same true true e = refl
  both_same true false e = absurd (false≢true e)
  both_same false b e = absurd (false≢true e)

  links_same : AllByRecursion (λ p. is_home ss p.0 ≡ is_home ss p.1) (links_of ss fs)
  links_same = all_weaker (λ p. (is_home ss p.0 && is_home ss p.1) ≡ true) (λ p. is_home ss p.0 ≡ is_home ss p.1) (λ p h. both_same (is_home ss p.0) (is_home ss p.1) h) (links_of ss fs) (all_pass (λ p. is_home ss p.0 && is_home ss p.1) (argument_links 1 ss ++ flat_map side_links fs))

  least_home : (n : ℕ) → is_home ss (least n) ≡ is_home ss n
  least_home n = fold_apart (is_home ss) (links_of ss fs) (λ m. m) links_same (λ m. refl) n

  home_closed : (n : ℕ) → IsAmong (homes_of ss) n → IsAmong (homes_of ss) (least n)
  home_closed n h = home_there ss fs (least n) (least_home n ∙ (among_filtered (is_home ss) n (numbers_from 1 (length ss)) h).1)

  pub components_ascend : components_of ss fs ≡ map (class_of_least (least_of (links_of ss fs)) (homes_of ss)) (leasts_among (least_of (links_of ss fs)) (homes_of ss))
  components_ascend =
      ap (map (class_of_least least (homes_of ss)))
      (leasts_first least (least_low (links_of ss fs)) (least_own (links_of ss fs)) (homes_of ss) (filter_ascends (is_home ss) (numbers_from 1 (length ss)) (numbers_ascend 1 (length ss))) home_closed)
