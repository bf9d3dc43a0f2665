-- Numbers that are put into the classes of their least numbers, one after the other.
use Rattle.std.proofs.Common.{◌≡◌, ℕ, zero, suc, ◌+◌, ◌<◌, Bool, true, false, ◌||◌, cond, List, [], ◌∷◌, ◌++◌, length, map, get_or, take, Some, None, Option, refl, sym, ap, subst, ◌∙◌, arith}
use Rattle.std.specs.Prelude.{nat_eq, nat_lt, filter, slice_set, slice_index_or, position}
use Rattle.std.specs.List.{position_or_len, AllByRecursion, IsDistinct}
use Rattle.std.proofs.lemmas.Bool.{false≢true}
use Rattle.std.proofs.Math.Seq.{take-suc}
use Rattle.std.proofs.lemmas.Map.Keys.{IsDistinct-head, IsDistinct-tail}
use Rattle.std.proofs.lemmas.List.Elements.{filter-append}
use Rattle.indexmap.specs.IndexSet.{insert_key}
use Rattle.sc_terms.specs.Lookup.{is_listed}
use Rattle.sc_flatten.specs.Walk.{firsts}
use Rattle.sc_flatten.specs.Classes.{numbers_from, classes_of}
use Rattle.sc_flatten.specs.Groups.{grouped}
use Rattle.sc_flatten.specs.Forests.{IsForest, Finds}
use Rattle.sc_flatten.proofs.Lists.{same_number, number_same}
use Rattle.sc_flatten.proofs.Firsts.{insert_all-append, distinct-firsts, among-firsts}

-- ---- the numbers from 1 upward
numbers_next : (k n : ℕ) → numbers_from k (suc n) ≡ numbers_from k n ++ (k + n) ∷ []
numbers_next k zero = let same : k ≡ k + 0 = omega arith in ap (λ m. m ∷ []) same
numbers_next k (suc n) =
    let later : k + 1 + n ≡ k + suc n = omega arith in
    ap (λ rest. k ∷ rest) (numbers_next (k + 1) n) ∙ ap (λ m. k ∷ (numbers_from (k + 1) n ++ m ∷ [])) later

pub filter_next : (t : ℕ → Bool) (i : ℕ) (old new : List ℕ) → old ≡ filter t (numbers_from 1 i) → new ≡ old ++ filter t ((i + 1) ∷ []) → new ≡ filter t (numbers_from 1 (i + 1))
filter_next t i old new e h =
    let next : suc i ≡ i + 1 = omega arith in
    let place : 1 + i ≡ i + 1 = omega arith in
    h ∙ (ap (λ xs. xs ++ filter t ((i + 1) ∷ [])) e
    ∙ (sym (filter-append t (numbers_from 1 i) ((i + 1) ∷ []))
    ∙ ap (filter t) (ap (λ m. numbers_from 1 i ++ m ∷ []) (sym place) ∙ (sym (numbers_next 1 i) ∙ ap (numbers_from 1) next))))

-- ---- one number more in the classes
module _ (least : ℕ → ℕ) where
  abbrev class_of : List ℕ → ℕ → List ℕ
  class_of ns r = filter (λ n. nat_eq (least n) r) ns

  class_more : (ns : List ℕ) (n r : ℕ) (b : Bool) → nat_eq (least n) r ≡ b → class_of (ns ++ n ∷ []) r ≡ class_of ns r ++ cond b (n ∷ []) []
  class_more ns n r b e = filter-append (λ m. nat_eq (least m) r) ns (n ∷ []) ∙ ap (λ c. class_of ns r ++ cond c (n ∷ []) []) e

  append_none : (xs : List ℕ) → xs ++ [] ≡ xs
  append_none [] = refl
  append_none (x ∷ xs) = ap (λ rest. x ∷ rest) (append_none xs)

  class_same : (ns : List ℕ) (n r : ℕ) → nat_eq (least n) r ≡ false → class_of (ns ++ n ∷ []) r ≡ class_of ns r
  class_same ns n r e = class_more ns n r false e ∙ append_none (class_of ns r)

  classes_same : (ns : List ℕ) (n : ℕ) (ks : List ℕ) → AllByRecursion (λ k. nat_eq (least n) k ≡ false) ks → map (class_of (ns ++ n ∷ [])) ks ≡ map (class_of ns) ks
  classes_same ns n [] h = refl
  classes_same ns n (k ∷ ks) h = λ i. class_same ns n k h.0 i ∷ classes_same ns n ks h.1 i

  -- the class of a new key has no number yet
  class_none : (ns : List ℕ) (r : ℕ) → is_listed r (map least ns) ≡ false → class_of ns r ≡ []
  class_none [] r h = refl
  class_none (m ∷ ms) r h = go (nat_eq (least m) r) refl (class_none ms r) where
    symm : (a b : ℕ) → nat_eq a b ≡ nat_eq b a
    symm a b = grind arith

    or_parts : (a b : Bool) → (a || b) ≡ false → (a ≡ false) × (b ≡ false)
    or_parts false b e = (refl, e)
    or_parts true b e = absurd (false≢true (sym e))

    go : (b : Bool) → nat_eq (least m) r ≡ b → (is_listed r (map least ms) ≡ false → class_of ms r ≡ []) → cond b (m ∷ class_of ms r) (class_of ms r) ≡ []
    go true e rest = absurd (false≢true (sym (or_parts (nat_eq r (least m)) (is_listed r (map least ms)) h).0 ∙ (symm r (least m) ∙ e)))
    go false e rest = rest (or_parts (nat_eq r (least m)) (is_listed r (map least ms)) h).1

  grouped_keys : (ns : List ℕ) (n : ℕ) (ks : List ℕ) → IsDistinct nat_eq ks → (is_listed (least n) ks ≡ false → class_of ns (least n) ≡ []) → grouped ks (map (class_of ns) ks) (least n) n ≡ map (class_of (ns ++ n ∷ [])) (insert_key nat_eq ks (least n))
  grouped_keys ns n [] d none = ap (λ xs. xs ∷ []) (sym (class_more ns n (least n) true (number_same (least n)) ∙ ap (λ xs. xs ++ n ∷ []) (none refl)))
  grouped_keys ns n (k ∷ ks) d none = go (nat_eq (least n) k) refl (grouped_keys ns n ks (IsDistinct-tail nat_eq k ks d)) where
    heads : (b : Bool) → cond b (k ∷ ks) ((k ∷ ks) ++ least n ∷ []) ≡ k ∷ cond b ks (ks ++ least n ∷ [])
    heads true = refl
    heads false = refl

    go : (b : Bool) → nat_eq (least n) k ≡ b → ((is_listed (least n) ks ≡ false → class_of ns (least n) ≡ []) → grouped ks (map (class_of ns) ks) (least n) n ≡ map (class_of (ns ++ n ∷ [])) (insert_key nat_eq ks (least n))) → cond b ((class_of ns k ++ n ∷ []) ∷ map (class_of ns) ks) (class_of ns k ∷ grouped ks (map (class_of ns) ks) (least n) n) ≡ map (class_of (ns ++ n ∷ [])) (cond (nat_eq (least n) k || is_listed (least n) ks) (k ∷ ks) ((k ∷ ks) ++ least n ∷ []))
    go true e rest =
        let same = same_number (least n) k e in
        let others : AllByRecursion (λ j. nat_eq (least n) j ≡ false) ks = subst (λ j. AllByRecursion (λ m. nat_eq j m ≡ false) ks) (sym same) (IsDistinct-head nat_eq k ks d) in
        rw e (λ i. sym (class_more ns n k true e) i ∷ sym (classes_same ns n ks others) i)
    go false e rest =
        let later : is_listed (least n) ks ≡ false → class_of ns (least n) ≡ [] = λ g. none (ap (λ b. b || is_listed (least n) ks) e ∙ g) in
        ap (λ gs. class_of ns k ∷ gs) (rest later)
        ∙ ((λ i. sym (class_same ns n k e) i ∷ map (class_of (ns ++ n ∷ [])) (insert_key nat_eq ks (least n)))
        ∙ (ap (map (class_of (ns ++ n ∷ []))) (sym (heads (is_listed (least n) ks)))
        ∙ ap (λ b. map (class_of (ns ++ n ∷ [])) (cond (b || is_listed (least n) ks) (k ∷ ks) ((k ∷ ks) ++ least n ∷ []))) (sym e)))

  -- ---- what a loop over the numbers keeps
  pub record GroupsStand (ns keys : List ℕ) (gs : List (List ℕ)) : Type 0 where
    pub keys-are : keys ≡ firsts (map least ns)
    pub groups-are : gs ≡ classes_of least ns

  map_append : (xs ys : List ℕ) → map least (xs ++ ys) ≡ map least xs ++ map least ys
  map_append [] ys = refl
  map_append (x ∷ xs) ys = ap (λ rest. least x ∷ rest) (map_append xs ys)

  firsts_more : (ns : List ℕ) (n : ℕ) → firsts (map least (ns ++ n ∷ [])) ≡ insert_key nat_eq (firsts (map least ns)) (least n)
  firsts_more ns n = ap firsts (map_append ns (n ∷ [])) ∙ insert_all-append nat_eq [] (map least ns) (least n ∷ [])

  pub groups_more : (ns : List ℕ) (n root : ℕ) (keys keys' : List ℕ) (gs gs' : List (List ℕ)) → root ≡ least n → keys' ≡ insert_key nat_eq keys root → gs' ≡ grouped keys gs root n → GroupsStand ns keys gs → GroupsStand (ns ++ n ∷ []) keys' gs'
  groups_more ns n root keys keys' gs gs' r k g s = record {
    keys-are = k ∙ ((λ i. insert_key nat_eq (s.keys-are i) (r i)) ∙ sym (firsts_more ns n));
    groups-are =
        g ∙ ((λ i. grouped (s.keys-are i) (s.groups-are i) (r i) n)
        ∙ (grouped_keys ns n (firsts (map least ns)) (distinct-firsts (map least ns)) (λ e. class_none ns (least n) (sym (among-firsts (least n) (map least ns)) ∙ e))
        ∙ ap (map (class_of (ns ++ n ∷ []))) (sym (firsts_more ns n))));
  }

-- ---- where a key stands
some_place : (m n : ℕ) → ◌≡◌ {A = Option ℕ} (Some m) (Some n) → m ≡ n
some_place m n e = cc

pub position_place : (b : Bool) (m n : ℕ) → cond b (Some m) None ≡ Some n → m ≡ n
position_place true m n e = some_place m n e
position_place false m n e = absurd cc

module _ (key n : ℕ) where
  set_later : (g : List ℕ) (gs : List (List ℕ)) (m : ℕ) → slice_set gs m (slice_index_or gs m [] ++ n ∷ []) ≡ slice_set gs m (slice_index_or gs m [] ++ n ∷ []) → slice_set (g ∷ gs) (1 + m) (slice_index_or (g ∷ gs) (1 + m) [] ++ n ∷ []) ≡ g ∷ slice_set gs m (slice_index_or gs m [] ++ n ∷ [])
  set_later g gs m e = let next : suc m ≡ 1 + m = omega arith in subst (λ k. slice_set (g ∷ gs) k (slice_index_or (g ∷ gs) k [] ++ n ∷ []) ≡ g ∷ slice_set gs m (slice_index_or gs m [] ++ n ∷ [])) next refl

  pub grouped_there : (ks : List ℕ) (gs : List (List ℕ)) → is_listed key ks ≡ true → length gs ≡ length ks → slice_set gs (position_or_len (nat_eq key) ks) (slice_index_or gs (position_or_len (nat_eq key) ks) [] ++ n ∷ []) ≡ grouped ks gs key n
  grouped_there [] gs e h = absurd (false≢true e)
  grouped_there (k ∷ ks) [] e h = absurd (omega (arith, h))
  grouped_there (k ∷ ks) (g ∷ gs) e h =
      elim (nat_eq key k) as (λ b. nat_eq key k ≡ b → (b || is_listed key ks) ≡ true → slice_set (g ∷ gs) (position_or_len (nat_eq key) (k ∷ ks)) (slice_index_or (g ∷ gs) (position_or_len (nat_eq key) (k ∷ ks)) [] ++ n ∷ []) ≡ cond b ((g ++ n ∷ []) ∷ gs) (g ∷ grouped ks gs key n)) [
        | true ↦ λ t f. rw t refl
        | false ↦ λ t f. rw t (set_later g gs (position_or_len (nat_eq key) ks) refl ∙ ap (λ rest. g ∷ rest) (grouped_there ks gs f (omega (arith, h))))
      ] refl e

  pub grouped_new : (ks : List ℕ) (gs : List (List ℕ)) → is_listed key ks ≡ false → length gs ≡ length ks → gs ++ (n ∷ []) ∷ [] ≡ grouped ks gs key n
  grouped_new [] [] e h = refl
  grouped_new [] (g ∷ gs) e h = absurd (omega (arith, h))
  grouped_new (k ∷ ks) [] e h = absurd (omega (arith, h))
  grouped_new (k ∷ ks) (g ∷ gs) e h =
      elim (nat_eq key k) as (λ b. (b || is_listed key ks) ≡ false → g ∷ (gs ++ (n ∷ []) ∷ []) ≡ cond b ((g ++ n ∷ []) ∷ gs) (g ∷ grouped ks gs key n)) [
        | true ↦ λ f. absurd (false≢true (sym f))
        | false ↦ λ f. ap (λ rest. g ∷ rest) (grouped_new ks gs f (omega (arith, h)))
      ] e

  grouped_length : (ks : List ℕ) (gs : List (List ℕ)) → length gs ≡ length ks → length (grouped ks gs key n) ≡ length (insert_key nat_eq ks key)
  grouped_length [] [] h = refl
  grouped_length [] (g ∷ gs) h = absurd (omega (arith, h))
  grouped_length (k ∷ ks) [] h = absurd (omega (arith, h))
  grouped_length (k ∷ ks) (g ∷ gs) h =
      elim (nat_eq key k) as (λ b. length (cond b ((g ++ n ∷ []) ∷ gs) (g ∷ grouped ks gs key n)) ≡ length (cond (b || is_listed key ks) (k ∷ ks) ((k ∷ ks) ++ key ∷ []))) [
        | true ↦ ap suc (omega (arith, h))
        | false ↦ ap suc (grouped_length ks gs (omega (arith, h))) ∙ longer (is_listed key ks)
      ]
    where
      longer : (b : Bool) → suc (length (cond b ks (ks ++ key ∷ []))) ≡ length (cond b (k ∷ ks) ((k ∷ ks) ++ key ∷ []))
      longer true = refl
      longer false = refl

  pub grouped_count : (ks ks' : List ℕ) (gs gs' : List (List ℕ)) → ks' ≡ insert_key nat_eq ks key → gs' ≡ grouped ks gs key n → length gs ≡ length ks → length gs' ≡ length ks'
  grouped_count ks ks' gs gs' e g h = ap (λ xs. length xs) g ∙ (grouped_length ks gs h ∙ ap (λ xs. length xs) (sym e))

-- ---- one step of the loop
pub classed_more : (ns : List ℕ) (i root : ℕ) (start old new : List ℕ) (keys keys' : List ℕ) (gs gs' : List (List ℕ)) → i < length ns → Finds old new (get_or ns i 0) root → keys' ≡ insert_key nat_eq keys root → gs' ≡ grouped keys gs root (get_or ns i 0) → ((least : ℕ → ℕ) → IsForest least start → IsForest least old × GroupsStand least (take i ns) keys gs) → (least : ℕ → ℕ) → IsForest least start → IsForest least new × GroupsStand least (take (i + 1) ns) keys' gs'
classed_more ns i root start old new keys keys' gs gs' within finds k g stands least f =
    let before = stands least f in
    let found = finds least before.0 in
    let next : suc i ≡ i + 1 = omega arith in
    let more : take (i + 1) ns ≡ take i ns ++ get_or ns i 0 ∷ [] = ap (λ m. take m ns) (sym next) ∙ take-suc ns i 0 within in
    (found.0, subst (λ xs. GroupsStand least xs keys' gs') (sym more) (groups_more least (take i ns) (get_or ns i 0) root keys keys' gs gs' found.1 k g before.1))

pub grouped_at : (key n : ℕ) (ks : List ℕ) (gs : List (List ℕ)) (place : ℕ) → position (nat_eq key) ks ≡ Some place → is_listed key ks ≡ true → length gs ≡ length ks → slice_set gs place (slice_index_or gs place [] ++ n ∷ []) ≡ grouped ks gs key n
grouped_at key n ks gs place p e h =
    subst (λ k. slice_set gs k (slice_index_or gs k [] ++ n ∷ []) ≡ grouped ks gs key n) (position_place (nat_lt (position_or_len (nat_eq key) ks) (length ks)) (position_or_len (nat_eq key) ks) place p) (grouped_there key n ks gs e h)
