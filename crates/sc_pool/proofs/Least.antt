-- The least lemma that applies, in the words of facts and numbers.
use Rattle.std.proofs.Common.{◌≡◌, ℕ, zero, suc, ◌<◌, Bool, true, false, List, [], ◌∷◌, length, Option, Some, None, ◌⊎◌, inl, inr, Contains, refl, sym, ap, subst, ◌∙◌, arith}
use Rattle.std.specs.Prelude.{slice_get, slice_index_or, ◌||◌, if◌then◌else◌}
use Rattle.std.specs.Option.{option_map}
use Rattle.std.proofs.lemmas.Bool.{false≢true}
use Rattle.indexmap.proofs.CallerLemmas.{Contains-list_any}
use Rattle.sc_base.proofs.Bools.{and_true, or_right}
use Rattle.sc_facts.specs.declared.fact.Fact.{Fact}
use Rattle.sc_facts.specs.Same.{same_fact, same_fact-Decides}
use Rattle.sc_facts.specs.Facts.{has}
use Rattle.sc_pool.specs.Pools.{first_where, all_stand}
use Rattle.sc_pool.specs.Laws.{Applies, LeastApplies}
use Rattle.sc_pool.proofs.Places.{some_same, none_some}

-- a fact stands on the path where the test finds it
stands : (path : List Fact) (fact : Fact) → has path fact ≡ true → Contains path fact
stands path fact e = Contains-list_any same_fact (λ x y. (same_fact-Decides x y).0) path fact e

found : (path : List Fact) (fact : Fact) → Contains path fact → has path fact ≡ true
found [] fact there = let less = there.1 in absurd (omega (arith, less))
found (x ∷ xs) fact there = by there.0 there.1 there.2 (λ k less at. found xs fact (k, less, at))
  where
    by : (k : ℕ) → k < length (x ∷ xs) → slice_index_or (x ∷ xs) k fact ≡ fact → ((k : ℕ) → k < length xs → slice_index_or xs k fact ≡ fact → has xs fact ≡ true) → has (x ∷ xs) fact ≡ true
    by zero less at later = ap (λ b. b || has xs fact) ((same_fact-Decides fact x).1 (sym at))
    by (suc k) less at later = or_right (same_fact fact x) (has xs fact) (later k (omega (arith, less)) at)

all_found : (path hypotheses : List Fact) → ((fact : Fact) → Contains hypotheses fact → Contains path fact) → all_stand path hypotheses ≡ true
all_found path [] tells = refl
all_found path (x ∷ xs) tells =
    let head : has path x ≡ true = found path x (tells x (0, omega arith, refl)) in
    rw head (all_found path xs (λ f there. tells f (suc there.0, (let less = there.1 in omega (arith, less)), there.2)))

each_stands : (path hypotheses : List Fact) → all_stand path hypotheses ≡ true → (fact : Fact) → Contains hypotheses fact → Contains path fact
each_stands path [] e fact there = let less = there.1 in absurd (omega (arith, less))
each_stands path (x ∷ xs) e fact there = by there.0 there.1 there.2 (λ k less at. each_stands path xs (and_true (has path x) (all_stand path xs) e).1 fact (k, less, at))
  where
    by : (k : ℕ) → k < length (x ∷ xs) → slice_index_or (x ∷ xs) k fact ≡ fact → ((k : ℕ) → k < length xs → slice_index_or xs k fact ≡ fact → Contains path fact) → Contains path fact
    by zero less at later = stands path fact (ap (has path) (sym at) ∙ (and_true (has path x) (all_stand path xs) e).0)
    by (suc k) less at later = later k (omega (arith, less)) at

module _ {X : Type 0} (test : X → Bool) where
  -- an item that passes stands there, and none in front of it
  pub record IsFirst (xs : List X) (n : ℕ) : Type 0 where
    pub item : (x : X) × (slice_get xs n ≡ Some x) × (test x ≡ true)
    pub before : (m : ℕ) (x : X) → m < n → slice_get xs m ≡ Some x → test x ≡ false

  first-is : (xs : List X) (n : ℕ) → first_where test xs ≡ Some n → IsFirst xs n
  first-is [] n e = absurd (none_some e)
  first-is (x ∷ xs) n e = by (test x) refl (first_where test xs) refl (λ m f. first-is xs m f) e
    where
      by : (b : Bool) → test x ≡ b → (o : Option ℕ) → first_where test xs ≡ o → ((m : ℕ) → first_where test xs ≡ Some m → IsFirst xs m) → first_where test (x ∷ xs) ≡ Some n → IsFirst (x ∷ xs) n
      by true t o f later e =
          let z : 0 ≡ n = some_same (sym (ap (λ b. if b then Some 0 else option_map suc (first_where test xs)) t) ∙ e) in
          subst (IsFirst (x ∷ xs)) z (record { item = (x, refl, t); before = λ m y less at. absurd (omega (arith, less)) })
      by false t None f later e =
          absurd (none_some (sym (ap (option_map suc) f) ∙ sym (ap (λ b. if b then Some 0 else option_map suc (first_where test xs)) t) ∙ e))
      by false t (Some k) f later e =
          let is = later k f in
          let z : suc k ≡ n = some_same (sym (ap (option_map suc) f) ∙ sym (ap (λ b. if b then Some 0 else option_map suc (first_where test xs)) t) ∙ e) in
          subst (IsFirst (x ∷ xs)) z (record { item = is.item; before = λ m y less at. in_front m y less at is })
        where
          in_front : (m : ℕ) (y : X) → m < suc k → slice_get (x ∷ xs) m ≡ Some y → IsFirst xs k → test y ≡ false
          in_front zero y less at is = ap test (sym (some_same at)) ∙ t
          in_front (suc m) y less at is = is.before m y (omega (arith, less)) at

  none-passes : (xs : List X) → first_where test xs ≡ None → (m : ℕ) (x : X) → slice_get xs m ≡ Some x → test x ≡ false
  none-passes [] e m x at = absurd (none_some at)
  none-passes (y ∷ ys) e m x at = by (test y) refl (first_where test ys) refl m at (λ f k. none-passes ys f k x)
    where
      by : (b : Bool) → test y ≡ b → (o : Option ℕ) → first_where test ys ≡ o → (m : ℕ) → slice_get (y ∷ ys) m ≡ Some x → (first_where test ys ≡ None → (k : ℕ) → slice_get ys k ≡ Some x → test x ≡ false) → test x ≡ false
      by true t o f m at later = absurd (none_some (sym e ∙ ap (λ b. if b then Some 0 else option_map suc (first_where test ys)) t))
      by false t (Some k) f m at later =
          absurd (none_some (sym e ∙ ap (λ b. if b then Some 0 else option_map suc (first_where test ys)) t ∙ ap (option_map suc) f))
      by false t None f zero at later = ap test (sym (some_same at)) ∙ t
      by false t None f (suc m) at later = later f m at

module _ (pool : List (List Fact)) (path : List Fact) where
  test-of : (n : ℕ) (h : List Fact) → slice_get pool n ≡ Some h → Applies pool path (suc n) → all_stand path h ≡ true
  test-of n h at applies =
      let same : h ≡ applies.0 = some_same (sym at ∙ applies.1) in
      ap (all_stand path) same ∙ all_found path applies.0 applies.2

  -- a lemma that applies, and none below it that does
  abbrev pub IsLeast : ℕ → Type 0
  IsLeast n = Applies pool path n × ((m : ℕ) → m < n → Applies pool path m → ⊥)

  is-least : (k : ℕ) → first_where (all_stand path) pool ≡ Some k → IsLeast (suc k)
  is-least k e =
      let is = first-is (all_stand path) pool k e in
      ((is.item.0, is.item.1, each_stands path is.item.0 is.item.2), λ m less applies. below is m less applies)
    where
      below : IsFirst (all_stand path) pool k → (m : ℕ) → m < suc k → Applies pool path m → ⊥
      below is zero less applies = none_some applies.1
      below is (suc m) less applies =
          false≢true (sym (is.before m applies.0 (omega (arith, less)) applies.1) ∙ test-of m applies.0 applies.1 applies)

  none-applies : first_where (all_stand path) pool ≡ None → (n : ℕ) → Applies pool path n → ⊥
  none-applies e zero applies = none_some applies.1
  none-applies e (suc n) applies =
      false≢true (sym (none-passes (all_stand path) pool e n applies.0 applies.1) ∙ test-of n applies.0 applies.1 applies)

  least-forth : (o : Option ℕ) → first_where (all_stand path) pool ≡ o → (n : ℕ) → option_map suc o ≡ Some n → IsLeast n
  least-forth None f n e = absurd (none_some e)
  least-forth (Some k) f n e = subst IsLeast (some_same e) (is-least k f)

  least-back : (o : Option ℕ) → first_where (all_stand path) pool ≡ o → (n : ℕ) → IsLeast n → option_map suc o ≡ Some n
  least-back None f n is = absurd (none-applies f n is.0)
  least-back (Some k) f n is = ap (λ m. Some m) (one (suc k) n (is-least k f) is)
    where
      one : (m n : ℕ) → IsLeast m → IsLeast n → m ≡ n
      one m n a b = by (order m n)
        where
          order : (m n : ℕ) → (m < n) ⊎ ((n < m) ⊎ (m ≡ n))
          order zero zero = inr (inr refl)
          order zero (suc n) = inl (omega arith)
          order (suc m) zero = inr (inl (omega arith))
          order (suc m) (suc n) = elim (order m n) [
            | inl l ↦ inl (omega (arith, l))
            | inr r ↦ elim r [ inl l ↦ inr (inl (omega (arith, l))) | inr e ↦ inr (inr (ap suc e)) ]
          ]

          by : (m < n) ⊎ ((n < m) ⊎ (m ≡ n)) → m ≡ n
          by (inl l) = absurd (b.1 m l a.0)
          by (inr (inl l)) = absurd (a.1 n l b.0)
          by (inr (inr e)) = e

  none-forth : (o : Option ℕ) → first_where (all_stand path) pool ≡ o → option_map suc o ≡ None → (n : ℕ) → Applies pool path n → ⊥
  none-forth None f e = none-applies f
  none-forth (Some k) f e = absurd (none_some (sym e))

  none-back : (o : Option ℕ) → first_where (all_stand path) pool ≡ o → ((n : ℕ) → Applies pool path n → ⊥) → option_map suc o ≡ None
  none-back None f none = refl
  none-back (Some k) f none = absurd (none (suc k) (is-least k f).0)

pub least_applies : LeastApplies
least_applies =
    record {
      least = λ pool path n. (least-forth pool path _ refl n, least-back pool path _ refl n);
      none = λ pool path. (none-forth pool path _ refl, none-back pool path _ refl);
    }
