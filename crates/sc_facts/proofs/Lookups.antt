-- The look-up tables of a path: what they hold once a fact is added or facts are cut off, and what a look-up in them finds.
use Rattle.std.proofs.Common.{◌≡◌, ℕ, zero, suc, ◌+◌, ◌-◌, nat_eq, ◌≤◌, ◌<◌, Bool, true, false, ◌&&◌, List, [], ◌∷◌, ◌++◌, length, take, drop, Option, Some, None, is_some, ◌⊎◌, inl, inr, refl, sym, ap, subst, ◌∙◌, arith}
use Rattle.std.specs.Prelude.{slice_get, min, if◌then◌else◌}
use Rattle.std.specs.Bool.{Decides}
use Rattle.std.specs.List.{list_any, position_from}
use Rattle.std.specs.Map.{lookup}
use Rattle.std.proofs.lemmas.Bool.{false≢true}
use Rattle.std.proofs.lemmas.Iterator.Adapters.{position_from-zero}
use Rattle.std.proofs.lemmas.List.{take-append-drop, take-append-le, length-append, length-take, append-nil, length-map}
use Rattle.std.proofs.Math.Seq.{take-append_seam, take-length}
use Rattle.std.proofs.lemmas.Option.{slice_get_cases}
use Rattle.indexmap.specs.IndexMap.{IndexMap, insert_entry}
use Rattle.indexmap.proofs.CallerLemmas.{insert_entry-new}
use Rattle.sc_base.specs.Numbered.{item_at}
use Rattle.sc_base.specs.Options.{◌>>=◌}
use Rattle.sc_terms.specs.declared.atoms.Cube.{Cube}
use Rattle.sc_terms.specs.declared.form.Row.{Row as LinearRow}
use Rattle.sc_terms.specs.Same.{same_cube, same_cube-Decides}
use Rattle.sc_facts.specs.declared.places.Before.{Before}
use Rattle.sc_facts.specs.declared.fact.Fact.{Fact}
use Rattle.sc_facts.specs.declared.fact.Fact.TheVariants.{Sign, Member, Eq, EqSet, Row, Empty}
use Rattle.sc_facts.specs.Same.{same_fact, same_fact-Decides}
use Rattle.sc_facts.specs.Facts.{has, first_place, row_in, rows_of, root_facts}
use Rattle.sc_facts.specs.Paths.{with_first, firsts_from, plain_key, region_key, Places, places_of, with_place, front_of, place_in, row_place, row_places_from, row_places, row_by, counts_in, IsIndexed}

append-assoc : {X : Type 0} (a b c : List X) → a ++ (b ++ c) ≡ (a ++ b) ++ c
append-assoc [] b c = refl
append-assoc (x ∷ a) b c = ap (λ l. x ∷ l) (append-assoc a b c)

true_or_false : (b : Bool) → (b ≡ true) ⊎ (b ≡ false)
true_or_false true = inl refl
true_or_false false = inr refl

-- where there is none, the other
or_else : {X : Type 0} → Option X → Option X → Option X
or_else None o = o
or_else (Some x) o = Some x

or_else-none : {X : Type 0} (o : Option X) → or_else o None ≡ o
unfolding or_else
or_else-none None = refl
or_else-none (Some x) = refl

module _ {K : Type 0} (same : K → K → Bool) (decides : (a b : K) → Decides (same a b) (a ≡ b)) (key : Fact → Option K) where
  table : List (K × ℕ) → ℕ → List Fact → List (K × ℕ)
  table es n fs = firsts_from same key es n fs

  -- the fact has this key
  keyed : K → Option K → Bool
  keyed k None = false
  keyed k (Some j) = same k j

  table-append : (es : List (K × ℕ)) (n : ℕ) (xs ys : List Fact) → firsts_from same key es n (xs ++ ys) ≡ firsts_from same key (firsts_from same key es n xs) (length xs + n) ys
  table-append es n [] ys = let z : n ≡ 0 + n = omega arith in ap (λ k. firsts_from same key es k ys) z
  table-append es n (x ∷ xs) ys =
      let e : length xs + suc n ≡ length (x ∷ xs) + n = omega arith in
      table-append (with_first same es (key x) n) (suc n) xs ys ∙ ap (λ k. firsts_from same key (firsts_from same key (with_first same es (key x) n) (suc n) xs) k ys) e

  -- entries are added behind the others
  one-more : (es : List (K × ℕ)) (o : Option K) (n : ℕ) → (more : List (K × ℕ)) × (with_first same es o n ≡ es ++ more)
  one-more es None n = ([], sym (append-nil es))
  one-more es (Some k) n = by (is_some (lookup (same k) es)) refl
    where
      by : (b : Bool) → is_some (lookup (same k) es) ≡ b → (more : List (K × ℕ)) × (with_first same es (Some k) n ≡ es ++ more)
      by true e = ([], rw e (sym (append-nil es)))
      by false e = ((k, n) ∷ [], rw e refl)

  some-more : (es : List (K × ℕ)) (n : ℕ) (xs : List Fact) → (more : List (K × ℕ)) × (firsts_from same key es n xs ≡ es ++ more)
  some-more es n [] = ([], sym (append-nil es))
  some-more es n (x ∷ xs) =
      let first = one-more es (key x) n in
      let rest = some-more (with_first same es (key x) n) (suc n) xs in
      (first.0 ++ rest.0, rest.1 ∙ ap (λ l. l ++ rest.0) first.1 ∙ sym (append-assoc es first.0 rest.0))

  pub table-take : (n : ℕ) (facts : List Fact) → take (length (firsts_from same key [] 0 (take n facts))) (firsts_from same key [] 0 facts) ≡ firsts_from same key [] 0 (take n facts)
  table-take n facts =
      let front = firsts_from same key [] 0 (take n facts) in
      let more = some-more front (length (take n facts) + 0) (drop n facts) in
      let whole : firsts_from same key [] 0 facts ≡ front ++ more.0 =
      ap (firsts_from same key [] 0) (sym (take-append-drop n facts)) ∙ table-append [] 0 (take n facts) (drop n facts) ∙ more.1 in
      ap (take (length front)) whole ∙ take-append_seam front more.0

  pub table-snoc : (facts : List Fact) (f : Fact) → firsts_from same key [] 0 (facts ++ f ∷ []) ≡ with_first same (firsts_from same key [] 0 facts) (key f) (length facts)
  table-snoc facts f =
      let n : length facts + 0 ≡ length facts = omega arith in
      table-append [] 0 facts (f ∷ []) ∙ ap (λ k. with_first same (firsts_from same key [] 0 facts) (key f) k) n

  lookup-append : (k : K) (es fs : List (K × ℕ)) → lookup (same k) (es ++ fs) ≡ or_else (lookup (same k) es) (lookup (same k) fs)
  unfolding or_else
  lookup-append k [] fs = refl
  lookup-append k (e ∷ es) fs = by (same k e.0) refl (lookup-append k es fs)
    where
      by : (b : Bool) → same k e.0 ≡ b → lookup (same k) (es ++ fs) ≡ or_else (lookup (same k) es) (lookup (same k) fs) → lookup (same k) (e ∷ es ++ fs) ≡ or_else (lookup (same k) (e ∷ es)) (lookup (same k) fs)
      by true h rest = rw h refl
      by false h rest = rw h rest

  -- where a key has no entry, its look-up finds the place that is noted for it
  lookup-first : (k : K) (es : List (K × ℕ)) (o : Option K) (n : ℕ) → lookup (same k) (with_first same es o n) ≡ or_else (lookup (same k) es) (if keyed k o then Some n else None)
  unfolding or_else keyed
  lookup-first k es None n = sym (or_else-none (lookup (same k) es))
  lookup-first k es (Some j) n = by (is_some (lookup (same j) es)) refl (same k j) refl
    where
      known : (o : Option ℕ) → is_some o ≡ true → o ≡ or_else o (Some n)
      known None e = absurd (false≢true e)
      known (Some x) e = refl

      by : (b : Bool) → is_some (lookup (same j) es) ≡ b → (c : Bool) → same k j ≡ c → lookup (same k) (with_first same es (Some j) n) ≡ or_else (lookup (same k) es) (if same k j then Some n else None)
      by true b true c =
          let alike : k ≡ j = (decides k j).0 c in
          rw (b, c) (known (lookup (same k) es) (ap (λ x. is_some (lookup (same x) es)) alike ∙ b))
      by true b false c = rw (b, c) (sym (or_else-none (lookup (same k) es)))
      by false b true c = rw (b, c) (lookup-append k es ((j, n) ∷ []) ∙ rw c refl)
      by false b false c = rw (b, c) (lookup-append k es ((j, n) ∷ []) ∙ rw c refl)

  or_else-assoc : (a b c : Option ℕ) → or_else (or_else a b) c ≡ or_else a (or_else b c)
  unfolding or_else
  or_else-assoc None b c = refl
  or_else-assoc (Some x) b c = refl

  lookup-table : (k : K) (es : List (K × ℕ)) (n : ℕ) (xs : List Fact) → lookup (same k) (firsts_from same key es n xs) ≡ or_else (lookup (same k) es) (position_from (λ f. keyed k (key f)) n xs)
  unfolding or_else
  lookup-table k es n [] = sym (or_else-none (lookup (same k) es))
  lookup-table k es n (x ∷ xs) =
      let m : suc n ≡ n + 1 = omega arith in
      lookup-table k (with_first same es (key x) n) (suc n) xs
      ∙ ap (λ (o : Option ℕ). or_else o (position_from (λ f. keyed k (key f)) (suc n) xs)) (lookup-first k es (key x) n)
      ∙ or_else-assoc (lookup (same k) es) _ _
      ∙ ap (or_else (lookup (same k) es)) (by (keyed k (key x)) refl m)
    where
      by : (b : Bool) → keyed k (key x) ≡ b → suc n ≡ n + 1 → or_else (if keyed k (key x) then Some n else None) (position_from (λ f. keyed k (key f)) (suc n) xs) ≡ position_from (λ f. keyed k (key f)) n (x ∷ xs)
      by true h m = rw h refl
      by false h m = rw h (ap (λ i. position_from (λ f. keyed k (key f)) i xs) m)

position_from-same : (s t : Fact → Bool) → ((f : Fact) → s f ≡ t f) → (n : ℕ) (xs : List Fact) → position_from s n xs ≡ position_from t n xs
position_from-same s t each n [] = refl
position_from-same s t each n (x ∷ xs) =
    ap (λ b. if b then Some n else position_from s (n + 1) xs) (each x) ∙ ap (λ o. if t x then Some n else o) (position_from-same s t each (n + 1) xs)

-- the look-up of a fact that does not say whether a region is empty
plain-found : (f : Fact) → ((x : Fact) → keyed same_fact same_fact-Decides plain_key f (plain_key x) ≡ same_fact f x) → (facts : List Fact) → lookup (same_fact f) (firsts_from same_fact plain_key [] 0 facts) ≡ first_place facts f
unfolding or_else
plain-found f alike facts =
    lookup-table same_fact same_fact-Decides plain_key f [] 0 facts
    ∙ position_from-same _ (same_fact f) alike 0 facts
    ∙ sym (position_from-zero (same_fact f) facts)

region-alike : (cube : Cube) (s : Bool) (x : Fact) → keyed same_cube same_cube-Decides (region_key s) cube (region_key s x) ≡ same_fact (Empty cube s) x
unfolding keyed
region-alike cube true (Empty c true) = by (same_cube cube c)
  where
    by : (b : Bool) → b ≡ (b && true)
    by true = refl
    by false = refl
region-alike cube true (Empty c false) = by (same_cube cube c)
  where
    by : (b : Bool) → false ≡ (b && false)
    by true = refl
    by false = refl
region-alike cube false (Empty c true) = by (same_cube cube c)
  where
    by : (b : Bool) → false ≡ (b && false)
    by true = refl
    by false = refl
region-alike cube false (Empty c false) = by (same_cube cube c)
  where
    by : (b : Bool) → b ≡ (b && true)
    by true = refl
    by false = refl
region-alike cube s (Sign f t) = refl
region-alike cube s (Member e f t) = refl
region-alike cube s (Eq e f t) = refl
region-alike cube s (EqSet e f t) = refl
region-alike cube s (Row row) = refl

region-found : (cube : Cube) (s : Bool) (facts : List Fact) → lookup (same_cube cube) (firsts_from same_cube (region_key s) [] 0 facts) ≡ first_place facts (Empty cube s)
unfolding or_else
region-found cube s facts =
    lookup-table same_cube same_cube-Decides (region_key s) cube [] 0 facts
    ∙ position_from-same _ (same_fact (Empty cube s)) (region-alike cube s) 0 facts
    ∙ sym (position_from-zero (same_fact (Empty cube s)) facts)

-- the places of facts tell the first place of each fact
pub place_in-places : (facts : List Fact) (f : Fact) → place_in (places_of facts) f ≡ first_place facts f
unfolding keyed
place_in-places facts (Empty cube true) = region-found cube true facts
place_in-places facts (Empty cube false) = region-found cube false facts
place_in-places facts (Sign f s) = plain-found (Sign f s) alike facts
  where
    alike : (x : Fact) → keyed same_fact same_fact-Decides plain_key (Sign f s) (plain_key x) ≡ same_fact (Sign f s) x
    alike (Empty c b) = refl
    alike _ = refl
place_in-places facts (Member e t s) = plain-found (Member e t s) alike facts
  where
    alike : (x : Fact) → keyed same_fact same_fact-Decides plain_key (Member e t s) (plain_key x) ≡ same_fact (Member e t s) x
    alike (Empty c b) = refl
    alike _ = refl
place_in-places facts (Eq e t s) = plain-found (Eq e t s) alike facts
  where
    alike : (x : Fact) → keyed same_fact same_fact-Decides plain_key (Eq e t s) (plain_key x) ≡ same_fact (Eq e t s) x
    alike (Empty c b) = refl
    alike _ = refl
place_in-places facts (EqSet e t s) = plain-found (EqSet e t s) alike facts
  where
    alike : (x : Fact) → keyed same_fact same_fact-Decides plain_key (EqSet e t s) (plain_key x) ≡ same_fact (EqSet e t s) x
    alike (Empty c b) = refl
    alike _ = refl
place_in-places facts (Row row) = plain-found (Row row) alike facts
  where
    alike : (x : Fact) → keyed same_fact same_fact-Decides plain_key (Row row) (plain_key x) ≡ same_fact (Row row) x
    alike (Empty c b) = refl
    alike _ = refl

is_some-position_from : (t : Fact → Bool) (n : ℕ) (xs : List Fact) → is_some (position_from t n xs) ≡ list_any t xs
is_some-position_from t n [] = refl
is_some-position_from t n (x ∷ xs) = by (t x) refl (is_some-position_from t (n + 1) xs)
  where
    by : (b : Bool) → t x ≡ b → is_some (position_from t (n + 1) xs) ≡ list_any t xs → is_some (position_from t n (x ∷ xs)) ≡ list_any t (x ∷ xs)
    by true e rest = rw e
    by false e rest = rw e rest

-- the places of a longer list, and of a front
places-snoc : (facts : List Fact) (f : Fact) → places_of (facts ++ f ∷ []) ≡ with_place (places_of facts) f (length facts)
places-snoc facts f =
    λ i. record {
      plain = table-snoc same_fact same_fact-Decides plain_key facts f i;
      empty = table-snoc same_cube same_cube-Decides (region_key true) facts f i;
      filled = table-snoc same_cube same_cube-Decides (region_key false) facts f i;
    }

places-take : (n : ℕ) (facts : List Fact) (rows : List ℕ) → front_of (places_of facts) (counts_in (places_of (take n facts)) rows) ≡ places_of (take n facts)
places-take n facts rows =
    λ i. record {
      plain = table-take same_fact same_fact-Decides plain_key n facts i;
      empty = table-take same_cube same_cube-Decides (region_key true) n facts i;
      filled = table-take same_cube same_cube-Decides (region_key false) n facts i;
    }

row_places-append : (n : ℕ) (xs ys : List Fact) → row_places_from n (xs ++ ys) ≡ row_places_from n xs ++ row_places_from (length xs + n) ys
row_places-append n [] ys = let z : n ≡ 0 + n = omega arith in ap (λ k. row_places_from k ys) z
row_places-append n (x ∷ xs) ys =
    let e : length xs + suc n ≡ length (x ∷ xs) + n = omega arith in
    ap (λ l. row_place n x ++ l) (subst (λ k. row_places_from (suc n) (xs ++ ys) ≡ row_places_from (suc n) xs ++ row_places_from k ys) e (row_places-append (suc n) xs ys))
    ∙ append-assoc (row_place n x) _ _

pub row_places-take : (n : ℕ) (facts : List Fact) → take (length (row_places (take n facts))) (row_places facts) ≡ row_places (take n facts)
row_places-take n facts =
    let whole = ap row_places (sym (take-append-drop n facts)) ∙ row_places-append 0 (take n facts) (drop n facts) in
    ap (take (length (row_places (take n facts)))) whole ∙ take-append_seam (row_places (take n facts)) _

pub row_places-snoc : (facts : List Fact) (f : Fact) → row_places (facts ++ f ∷ []) ≡ row_places facts ++ row_place (length facts) f
row_places-snoc facts f =
    let n : length facts + 0 ≡ length facts = omega arith in
    row_places-append 0 facts (f ∷ []) ∙ rw (n, append-nil (row_place (length facts) f))

-- fact k of the list, at place p where the first stands at place n, is a row fact with the row that is looked for
abbrev pub Found : ℕ → List Fact → ℕ → Option LinearRow → Type 0
Found n facts p row = (k : ℕ) × (fact : Fact) × (p ≡ n + k) × (slice_get facts k ≡ Some fact) × (row_in fact ≡ row)

one_later : (n : ℕ) (x : Fact) (xs : List Fact) (p : ℕ) (row : Option LinearRow) → Found (suc n) xs p row → Found n (x ∷ xs) p row
one_later n x xs p row r = let e = r.2 in (suc r.0, r.1, omega (arith, e), r.3, r.4)

-- the place of the i-th row holds the i-th row
pub row_found : (n : ℕ) (facts : List Fact) (i p : ℕ) → slice_get (row_places_from n facts) i ≡ Some p → Found n facts p (slice_get (rows_of facts) i)
row_found n [] i p e = absurd cc
row_found n (x ∷ xs) i p e = by x i e (λ j d. row_found (suc n) xs j p d)
  where
    by : (y : Fact) (i : ℕ) → slice_get (row_place n y ++ row_places_from (suc n) xs) i ≡ Some p → ((j : ℕ) → slice_get (row_places_from (suc n) xs) j ≡ Some p → Found (suc n) xs p (slice_get (rows_of xs) j)) → Found n (y ∷ xs) p (slice_get (rows_of (y ∷ xs)) i)
    by (Row r) zero e later = let s : n ≡ p = cc in let t : p ≡ n + 0 = omega (arith, s) in (0, Row r, t, refl, refl)
    by (Row r) (suc i) e later = one_later n (Row r) xs p _ (later i e)
    by y i e later = one_later n y xs p _ (later i e)

-- where there is no i-th place of a row there is no i-th row
pub row_missing : (n : ℕ) (facts : List Fact) (i : ℕ) → slice_get (row_places_from n facts) i ≡ None → slice_get (rows_of facts) i ≡ None
row_missing n [] i e = refl
row_missing n (x ∷ xs) i e = by x i e (λ j d. row_missing (suc n) xs j d)
  where
    by : (y : Fact) (i : ℕ) → slice_get (row_place n y ++ row_places_from (suc n) xs) i ≡ None → ((j : ℕ) → slice_get (row_places_from (suc n) xs) j ≡ None → slice_get (rows_of xs) j ≡ None) → slice_get (rows_of (y ∷ xs)) i ≡ None
    by (Row r) zero e later = absurd cc
    by (Row r) (suc i) e later = later i e
    by y i e later = later i e

-- an item of a list with one more is an earlier one or the last
last_or_earlier : {X : Type 0} (xs : List X) (y : X) (i : ℕ) (x : X) → slice_get (xs ++ y ∷ []) i ≡ Some x → ((i < length xs) × (slice_get xs i ≡ Some x)) ⊎ ((i ≡ length xs) × (y ≡ x))
last_or_earlier [] y zero x e = inr (refl, cc)
last_or_earlier [] y (suc i) x e = absurd cc
last_or_earlier (z ∷ zs) y zero x e = inl (omega arith, e)
last_or_earlier (z ∷ zs) y (suc i) x e =
    elim (last_or_earlier zs y i x e) [
      | inl w ↦ let p = w.0 in inl (omega (arith, p), w.1)
      | inr w ↦ let p = w.0 in inr (omega (arith, p), w.1)
    ]

-- an item of a front stands there in the whole list
in_front : {X : Type 0} (n : ℕ) (xs : List X) (i : ℕ) (x : X) → slice_get (take n xs) i ≡ Some x → (i < n) × (slice_get xs i ≡ Some x)
in_front zero xs i x e = absurd cc
in_front (suc n) [] i x e = absurd cc
in_front (suc n) (y ∷ ys) zero x e = (omega arith, e)
in_front (suc n) (y ∷ ys) (suc i) x e = let r = in_front n ys i x e in let p = r.0 in (omega (arith, p), r.1)

-- a shorter front of a front
take-take : {X : Type 0} (i n : ℕ) (xs : List X) → i ≤ n → take i (take n xs) ≡ take i xs
take-take zero n xs h = refl
take-take (suc i) zero xs h = absurd (omega (arith, h))
take-take (suc i) (suc n) [] h = refl
take-take (suc i) (suc n) (x ∷ xs) h = ap (λ l. x ∷ l) (take-take i n xs (omega (arith, h)))

-- the tables of a path with one more fact
pub indexed_more : (facts : List Fact) (places : Places) (rows : List ℕ) (before : List Before) (f : Fact) (b : Before) → IsIndexed facts places rows before → b ≡ counts_in places rows
    → IsIndexed (facts ++ f ∷ []) (with_place places f (length facts)) (rows ++ row_place (length facts) f) (before ++ b ∷ [])
indexed_more facts places rows before f b is count =
    record {
      places_are = ap (λ (p : Places). with_place p f (length facts)) is.places_are ∙ sym (places-snoc facts f);
      rows_are = ap (λ l. l ++ row_place (length facts) f) is.rows_are ∙ sym (row_places-snoc facts f);
      counts = length-append before (b ∷ []) ∙ ap (λ n. n + 1) is.counts ∙ sym (length-append facts (f ∷ []));
      counted = λ i c e. elim (last_or_earlier before b i c e) [
        | inl w ↦ let h = is.counted i c w.1 in let k : i ≤ length facts = let p = w.0 in let q = is.counts in omega (arith, p, q) in rw (take-append-le i facts (f ∷ []) k) h
        | inr w ↦ let k : i ≡ length facts = w.0 ∙ is.counts in let t : take i (facts ++ f ∷ []) ≡ facts = ap (λ n. take n (facts ++ f ∷ [])) k ∙ take-append_seam facts (f ∷ []) in
            rw t (sym w.1 ∙ count ∙ ap (λ p. counts_in p rows) is.places_are ∙ ap (counts_in (places_of facts)) is.rows_are)
      ];
    }

-- the tables of the front of a path
pub indexed_front : (facts : List Fact) (places : Places) (rows : List ℕ) (before : List Before) (n : ℕ) (b : Before) → IsIndexed facts places rows before → slice_get before n ≡ Some b
    → IsIndexed (take n facts) (front_of places b) (take b.rows rows) (take n before)
indexed_front facts places rows before n b is at =
    let h : b ≡ counts_in (places_of (take n facts)) (row_places (take n facts)) = is.counted n b at in
    record {
      places_are = rw (h, is.places_are) (places-take n facts (row_places (take n facts)));
      rows_are = rw (h, is.rows_are) (row_places-take n facts);
      counts = length-take n before ∙ ap (min n) is.counts ∙ sym (length-take n facts);
      counted = λ i c e. let w = in_front n before i c e in let p = w.0 in let k : i ≤ n = omega (arith, p) in rw (take-take i n facts k) (is.counted i c w.1);
    }

-- what a look-up in the tables of a path finds
pub place_found : (facts : List Fact) (places : Places) (rows : List ℕ) (before : List Before) (f : Fact) → IsIndexed facts places rows before → place_in places f ≡ first_place facts f
place_found facts places rows before f is = ap (λ (p : Places). place_in p f) is.places_are ∙ place_in-places facts f

pub fact_found : (facts : List Fact) (places : Places) (rows : List ℕ) (before : List Before) (f : Fact) → IsIndexed facts places rows before → is_some (place_in places f) ≡ has facts f
fact_found facts places rows before f is =
    ap is_some (place_found facts places rows before f is ∙ position_from-zero (same_fact f) facts) ∙ is_some-position_from (same_fact f) 0 facts

row_by-found : (facts : List Fact) (i : ℕ) → (o : Option ℕ) → slice_get (row_places facts) i ≡ o → row_by facts (row_places facts) i ≡ slice_get (rows_of facts) i
row_by-found facts i None e = ap (λ (o : Option ℕ). o >>= λ place. slice_get facts place >>= row_in) e ∙ sym (row_missing 0 facts i e)
row_by-found facts i (Some p) e =
    let found = row_found 0 facts i p e in
    let place : slice_get facts p ≡ Some found.1 = let k : p ≡ found.0 = omega (arith, found.2) in ap (slice_get facts) k ∙ found.3 in
    ap (λ (o : Option ℕ). o >>= λ place. slice_get facts place >>= row_in) e ∙ ap (λ (o : Option Fact). o >>= row_in) place ∙ found.4

pub row_found_at : (facts : List Fact) (places : Places) (rows : List ℕ) (before : List Before) (n : ℕ) → IsIndexed facts places rows before → nat_eq n 0 ≡ false → row_by facts rows (n - 1) ≡ item_at (rows_of facts) n
row_found_at facts places rows before zero is more = absurd (false≢true (sym more))
row_found_at facts places rows before (suc i) is more =
    let back : i ≡ suc i - 1 = omega arith in
    subst (λ k. row_by facts rows k ≡ slice_get (rows_of facts) i) back (ap (λ l. row_by facts l i) is.rows_are ∙ row_by-found facts i (slice_get (row_places facts) i) refl)

-- the invariant of a path stays where a fact is added, and where facts behind the root path are cut off
roots-length : (roots : List ℕ) → length (root_facts roots) ≡ length roots
roots-length roots = length-map roots (λ r. Sign r true)

pub roots_within : (roots : List ℕ) (facts : List Fact) → take (length roots) facts ≡ root_facts roots → length roots ≤ length facts
roots_within roots facts begins =
    let e : length (take (length roots) facts) ≡ length roots = ap length begins ∙ roots-length roots in
    let m = length-take (length roots) facts in
    omega (arith, e, m)

pub roots_begin : (roots : List ℕ) → take (length roots) (root_facts roots) ≡ root_facts roots
roots_begin roots = ap (λ n. take n (root_facts roots)) (sym (roots-length roots)) ∙ take-length (root_facts roots)

pub begins_more : (roots : List ℕ) (facts more : List Fact) → take (length roots) facts ≡ root_facts roots → take (length roots) (facts ++ more) ≡ root_facts roots
begins_more roots facts more begins = take-append-le (length roots) facts more (roots_within roots facts begins) ∙ begins

pub begins_front : (roots : List ℕ) (facts : List Fact) (n : ℕ) → length roots ≤ n → take (length roots) facts ≡ root_facts roots → take (length roots) (take n facts) ≡ root_facts roots
begins_front roots facts n above begins = take-take (length roots) n facts above ∙ begins

pub more_kept : (roots : List ℕ) (facts : List Fact) (places : Places) (rows : List ℕ) (before : List Before) (f : Fact) (b : Before) → (take (length roots) facts ≡ root_facts roots) × IsIndexed facts places rows before → b ≡ counts_in places rows
    → (take (length roots) (facts ++ f ∷ []) ≡ root_facts roots) × IsIndexed (facts ++ f ∷ []) (with_place places f (length facts)) (rows ++ row_place (length facts) f) (before ++ b ∷ [])
more_kept roots facts places rows before f b is count =
    (begins_more roots facts (f ∷ []) is.0, indexed_more facts places rows before f b is.1 count)

pub front_kept : (roots : List ℕ) (facts : List Fact) (places : Places) (rows : List ℕ) (before : List Before) (n : ℕ) (b : Before) → (take (length roots) facts ≡ root_facts roots) × IsIndexed facts places rows before → length roots ≤ n → slice_get before n ≡ Some b
    → (take (length roots) (take n facts) ≡ root_facts roots) × IsIndexed (take n facts) (front_of places b) (take b.rows rows) (take n before)
front_kept roots facts places rows before n b is above at =
    (begins_front roots facts n above is.0, indexed_front facts places rows before n b is.1 at)

some_none : {X : Type 0} {x : X} → Some x ≡ None → ⊥
some_none e = absurd cc

-- a front as long as the list is the list
pub whole : (facts : List Fact) (places : Places) (rows : List ℕ) (before : List Before) (n : ℕ) → IsIndexed facts places rows before → n ≤ length facts → slice_get before n ≡ None → take n facts ≡ facts
whole facts places rows before n is within at =
    elim (slice_get_cases before n).1 [
      | inl w ↦ absurd (some_none (sym w.2 ∙ at))
      | inr w ↦ let p = w.0 in let q = is.counts in let k : n ≡ length facts = omega (arith, p, q, within) in ap (λ m. take m facts) k ∙ take-length facts
    ]

lookup-none : {X : Type 0} (o : Option X) → is_some o ≡ false → o ≡ None
lookup-none None e = refl
lookup-none (Some x) e = absurd (false≢true (sym e))

-- a key without a place gets one behind the others
pub place_added : {S : Type 0} (m : IndexMap Fact ℕ S) (f : Fact) (n : ℕ) → is_some (lookup (same_fact f) m.entries) ≡ false → insert_entry same_fact m.entries f n ≡ with_first same_fact m.entries (Some f) n
place_added m f n none = insert_entry-new same_fact m f n (lookup-none _ none) ∙ rw none refl

pub region_added : {S : Type 0} (m : IndexMap Cube ℕ S) (c : Cube) (n : ℕ) → is_some (lookup (same_cube c) m.entries) ≡ false → insert_entry same_cube m.entries c n ≡ with_first same_cube m.entries (Some c) n
region_added m c n none = insert_entry-new same_cube m c n (lookup-none _ none) ∙ rw none refl
