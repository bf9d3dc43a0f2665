-- The tables of a pool: kept as a lemma is added, and what a walk in them finds.
use Rattle.std.proofs.Common.{◌≡◌, ℕ, zero, suc, ◌+◌, ◌-◌, ◌≤◌, ◌<◌, Bool, true, false, ◌&&◌, ◌||◌, List, [], ◌∷◌, ◌++◌, length, take, Option, Some, None, ◌⊎◌, inl, inr, refl, sym, ap, ◌∙◌, arith}
use Rattle.std.specs.Prelude.{slice_get, if◌then◌else◌}
use Rattle.std.specs.List.{list_any}
use Rattle.std.specs.Option.{option_or}
use Rattle.std.specs.Map.{lookup}
use Rattle.std.proofs.lemmas.Bool.{false≢true}
use Rattle.std.proofs.lemmas.List.{take-append-le, length-append, length-take}
use Rattle.std.proofs.Math.Seq.{take-append_seam}
use Rattle.indexmap.specs.IndexMap.{insert_entry}
use Rattle.sc_facts.specs.declared.fact.Fact.{Fact}
use Rattle.sc_facts.specs.Same.{same_fact, same_fact-Decides}
use Rattle.sc_facts.specs.Facts.{has}
use Rattle.sc_base.proofs.Bools.{all_at, or_none}
use Rattle.sc_pool.specs.Pools.{first_where, all_stand}
use Rattle.sc_pool.specs.Index.{last_where, is_free, last_fact, is_fact, ends_with, with_last, under_last, IsIndexed, stands_under, stands_among, lesser, up_to, PassesAt}
use Rattle.sc_pool.proofs.Places.{some_same, first-snoc, first-next, first-same, first-up_to, first-or, last-snoc, last-within, last-passes, passes-front, take-take}

-- a look-up once a key has a value
lookup-insert : (es : List (Fact × ℕ)) (k : Fact) (v : ℕ) (f : Fact) → lookup (same_fact f) (insert_entry same_fact es k v) ≡ (if same_fact f k then Some v else lookup (same_fact f) es)
lookup-insert [] k v f = refl
lookup-insert (e ∷ es) k v f = by (same_fact k e.0) refl (same_fact f e.0) refl (same_fact f k) refl (lookup-insert es k v f)
  where
    by : (a : Bool) → same_fact k e.0 ≡ a → (b : Bool) → same_fact f e.0 ≡ b → (c : Bool) → same_fact f k ≡ c → lookup (same_fact f) (insert_entry same_fact es k v) ≡ (if same_fact f k then Some v else lookup (same_fact f) es)
        → lookup (same_fact f) (insert_entry same_fact (e ∷ es) k v) ≡ (if same_fact f k then Some v else lookup (same_fact f) (e ∷ es))
    by true s true t true u rest = rw (s, t, u) refl
    by true s false t false u rest = rw (s, t, u) refl
    by true s true t false u rest = absurd (false≢true (sym u ∙ ap (same_fact f) ((same_fact-Decides k e.0).0 s) ∙ t))
    by true s false t true u rest = absurd (false≢true (sym t ∙ ap (same_fact f) (sym ((same_fact-Decides k e.0).0 s)) ∙ u))
    by false s true t true u rest = absurd (false≢true (sym s ∙ ap (λ x. same_fact x e.0) (sym ((same_fact-Decides f k).0 u)) ∙ t))
    by false s true t false u rest = rw (s, t, u) refl
    by false s false t c u rest = rw (s, t) rest

-- an item of a list with one more is an earlier one or the last
last_or_earlier : {X : Type 0} (xs : List X) (y : X) (i : ℕ) (x : X) → slice_get (xs ++ y ∷ []) i ≡ Some x → ((i < length xs) × (slice_get xs i ≡ Some x)) ⊎ ((i ≡ length xs) × (y ≡ x))
last_or_earlier [] y zero x e = inr (refl, cc)
last_or_earlier [] y (suc i) x e = absurd cc
last_or_earlier (z ∷ zs) y zero x e = inl (omega arith, e)
last_or_earlier (z ∷ zs) y (suc i) x e =
    elim (last_or_earlier zs y i x e) [
      | inl w ↦ let p = w.0 in inl (omega (arith, p), w.1)
      | inr w ↦ let p = w.0 in inr (omega (arith, p), w.1)
    ]

get-earlier : {X : Type 0} (xs ys : List X) (i : ℕ) (x : X) → slice_get xs i ≡ Some x → slice_get (xs ++ ys) i ≡ Some x
get-earlier [] ys i x e = absurd cc
get-earlier (z ∷ zs) ys zero x e = e
get-earlier (z ∷ zs) ys (suc i) x e = get-earlier zs ys i x e

get-last : {X : Type 0} (xs : List X) (x : X) → slice_get (xs ++ x ∷ []) (length xs) ≡ Some x
get-last [] x = refl
get-last (z ∷ zs) x = get-last zs x

latest-more : (lemmas : List (List Fact)) (latest : List (Fact × ℕ)) (hypotheses : List Fact) (f : Fact) → lookup (same_fact f) latest ≡ last_where (ends_with f) lemmas
    → lookup (same_fact f) (with_last latest (last_fact hypotheses) (length lemmas)) ≡ last_where (ends_with f) (lemmas ++ hypotheses ∷ [])
latest-more lemmas latest hypotheses f old = by (last_fact hypotheses) refl ∙ sym (last-snoc (ends_with f) lemmas hypotheses)
  where
    by : (o : Option Fact) → last_fact hypotheses ≡ o → lookup (same_fact f) (with_last latest (last_fact hypotheses) (length lemmas)) ≡ (if ends_with f hypotheses then Some (length lemmas) else last_where (ends_with f) lemmas)
    by None e = rw e old
    by (Some k) e = rw e (lookup-insert latest k (length lemmas) f ∙ ap (λ (o : Option ℕ). if same_fact f k then Some (length lemmas) else o) old)

-- the place under the last hypothesis is that of the last lemma with it
under-is : (lemmas : List (List Fact)) (latest : List (Fact × ℕ)) (hypotheses : List Fact) (f : Fact) → lookup (same_fact f) latest ≡ last_where (ends_with f) lemmas → ends_with f hypotheses ≡ true
    → under_last latest (last_fact hypotheses) ≡ last_where (ends_with f) lemmas
under-is lemmas latest hypotheses f old ends = by (last_fact hypotheses) refl
  where
    by : (o : Option Fact) → last_fact hypotheses ≡ o → under_last latest (last_fact hypotheses) ≡ last_where (ends_with f) lemmas
    by None e = absurd (false≢true (sym (ap (is_fact f) e) ∙ ends))
    by (Some k) e =
        let alike : f ≡ k = (same_fact-Decides f k).0 (sym (ap (is_fact f) e) ∙ ends) in
        rw e (ap (λ x. lookup (same_fact x) latest) (sym alike) ∙ old)

-- the tables of a pool with one more lemma
pub indexed-more : (lemmas : List (List Fact)) (latest : List (Fact × ℕ)) (earlier : List (Option ℕ)) (free : Option ℕ) (hypotheses : List Fact) (o : Option ℕ) → IsIndexed lemmas latest earlier free → o ≡ under_last latest (last_fact hypotheses)
    → IsIndexed (lemmas ++ hypotheses ∷ []) (with_last latest (last_fact hypotheses) (length lemmas)) (earlier ++ o ∷ []) (option_or free (if is_free hypotheses then Some (length lemmas) else None))
indexed-more lemmas latest earlier free hypotheses o is under =
    record {
      latest_are = λ f. latest-more lemmas latest hypotheses f (is.latest_are f);
      counts = length-append earlier (o ∷ []) ∙ ap (λ n. n + 1) is.counts ∙ sym (length-append lemmas (hypotheses ∷ []));
      earlier_are = λ i h f at ends. elim (last_or_earlier lemmas hypotheses i h at) [
        | inl w ↦
            let less = w.0 in let within : i ≤ length lemmas = omega (arith, less) in
            rw (take-append-le i lemmas (hypotheses ∷ []) within) (get-earlier earlier (o ∷ []) i _ (is.earlier_are i h f w.1 ends))
        | inr w ↦
            let front : take i (lemmas ++ hypotheses ∷ []) ≡ lemmas = ap (λ n. take n (lemmas ++ hypotheses ∷ [])) w.0 ∙ take-append_seam lemmas (hypotheses ∷ []) in
            let ends' : ends_with f hypotheses ≡ true = ap (ends_with f) w.1 ∙ ends in
            let last : o ≡ last_where (ends_with f) lemmas = under ∙ under-is lemmas latest hypotheses f (is.latest_are f) ends' in
            rw front (ap (slice_get (earlier ++ o ∷ [])) (w.0 ∙ sym is.counts) ∙ get-last earlier o ∙ ap (λ (x : Option ℕ). Some x) last)
      ];
      free_is = ap (λ (x : Option ℕ). option_or x (if is_free hypotheses then Some (length lemmas) else None)) is.free_is ∙ sym (first-snoc is_free lemmas hypotheses);
    }

-- a walk up a table: an item that passes stands where it is, and the first place in front of that, or else the one that is known, is the first of all
pub record IsUnderWay (path : List Fact) (fact : Fact) (lemmas : List (List Fact)) (next least : Option ℕ) : Type 0 where
  pub passes : PassesAt (ends_with fact) lemmas next
  pub first : option_or (first_where (stands_under path fact) (take (up_to next) lemmas)) least ≡ first_where (stands_under path fact) lemmas

ends-first : (path : List Fact) (fact : Fact) (h : List Fact) → stands_under path fact h ≡ true → ends_with fact h ≡ true
ends-first path fact h e = by (ends_with fact h) refl
  where
    by : (b : Bool) → ends_with fact h ≡ b → ends_with fact h ≡ true
    by true t = t
    by false t = absurd (false≢true (sym (ap (λ b. b && all_stand path h) t) ∙ e))

or-none : (o : Option ℕ) → option_or o None ≡ o
or-none None = refl
or-none (Some x) = refl

or-or : (a b c : Option ℕ) → option_or (option_or a b) c ≡ option_or a (option_or b c)
or-or None b c = refl
or-or (Some x) b c = refl

pub walk-begins : (path : List Fact) (fact : Fact) (lemmas : List (List Fact)) (latest : List (Fact × ℕ)) (earlier : List (Option ℕ)) (free : Option ℕ) → IsIndexed lemmas latest earlier free → IsUnderWay path fact lemmas (lookup (same_fact fact) latest) None
walk-begins path fact lemmas latest earlier free is =
    rw (is.latest_are fact) (record {
      passes = last-passes (ends_with fact) lemmas;
      first = or-none _ ∙ first-up_to (stands_under path fact) (ends_with fact) (ends-first path fact) lemmas;
    })

pub walk-earlier : (fact : Fact) (lemmas : List (List Fact)) (latest : List (Fact × ℕ)) (earlier : List (Option ℕ)) (free : Option ℕ) → IsIndexed lemmas latest earlier free → (n : ℕ) → PassesAt (ends_with fact) lemmas (Some n)
    → slice_get earlier n ≡ Some (last_where (ends_with fact) (take n lemmas))
walk-earlier fact lemmas latest earlier free is n passes = is.earlier_are n passes.0 fact passes.1 passes.2

pub walk-down : (fact : Fact) (lemmas : List (List Fact)) (latest : List (Fact × ℕ)) (earlier : List (Option ℕ)) (free : Option ℕ) → IsIndexed lemmas latest earlier free → (n : ℕ) → PassesAt (ends_with fact) lemmas (Some n)
    → (next : Option ℕ) → slice_get earlier n ≡ Some next → up_to next ≤ n
walk-down fact lemmas latest earlier free is n passes next at =
    let same : next ≡ last_where (ends_with fact) (take n lemmas) = some_same (sym at ∙ walk-earlier fact lemmas latest earlier free is n passes) in
    let within = last-within (ends_with fact) (take n lemmas) in
    let front = length-take n lemmas in
    rw same (omega (arith, within, front))

pub walk-goes_on : (path : List Fact) (fact : Fact) (lemmas : List (List Fact)) (latest : List (Fact × ℕ)) (earlier : List (Option ℕ)) (free : Option ℕ) → IsIndexed lemmas latest earlier free → (n : ℕ) (least : Option ℕ) → IsUnderWay path fact lemmas (Some n) least
    → (next least' : Option ℕ) → slice_get earlier n ≡ Some next → ((h : List Fact) → slice_get lemmas n ≡ Some h → least' ≡ (if all_stand path h then Some n else least)) → IsUnderWay path fact lemmas next least'
walk-goes_on path fact lemmas latest earlier free is n least way next least' at judged =
    let h = way.passes.0 in
    let p = stands_under path fact in
    let q = ends_with fact in
    let same : next ≡ last_where q (take n lemmas) = some_same (sym at ∙ walk-earlier fact lemmas latest earlier free is n way.passes) in
    let down = walk-down fact lemmas latest earlier free is n way.passes next at in
    let front : first_where p (take (up_to next) lemmas) ≡ first_where p (take n lemmas) =
    ap (first_where p) (sym (take-take (up_to next) n lemmas down)) ∙ ap (λ (o : Option ℕ). first_where p (take (up_to o) (take n lemmas))) same ∙ first-up_to p q (ends-first path fact) (take n lemmas) in
    let here : first_where p (take (suc n) lemmas) ≡ option_or (first_where p (take n lemmas)) (if all_stand path h then Some n else None) =
    first-next p lemmas n h way.passes.1 ∙ ap (λ b. option_or (first_where p (take n lemmas)) (if b && all_stand path h then Some n else None)) way.passes.2 in
    record {
      passes = rw same (passes-front q n lemmas _ (last-passes q (take n lemmas)));
      first = ap (λ (o : Option ℕ). option_or o least') front ∙ ap (option_or (first_where p (take n lemmas))) (judged h way.passes.1 ∙ known (all_stand path h)) ∙ sym (or-or _ _ least) ∙ ap (λ (o : Option ℕ). option_or o least) (sym here) ∙ way.first;
    }
  where
    known : (b : Bool) → (if b then Some n else least) ≡ option_or (if b then Some n else None) least
    known true = refl
    known false = refl

pub walk-ends : (path : List Fact) (fact : Fact) (lemmas : List (List Fact)) (least : Option ℕ) → IsUnderWay path fact lemmas None least → least ≡ first_where (stands_under path fact) lemmas
walk-ends path fact lemmas least way = way.first

-- facts that stand on the path: the last of the hypotheses is among them
same-swapped : (a b : Fact) → same_fact a b ≡ same_fact b a
same-swapped a b = by (same_fact a b) refl (same_fact b a) refl
  where
    itself : (x y : Fact) → same_fact x y ≡ true → same_fact y x ≡ true
    itself x y e = (same_fact-Decides y x).1 (sym ((same_fact-Decides x y).0 e))

    by : (c : Bool) → same_fact a b ≡ c → (d : Bool) → same_fact b a ≡ d → same_fact a b ≡ same_fact b a
    by true e true f = e ∙ sym f
    by false e false f = e ∙ sym f
    by true e false f = absurd (false≢true (sym f ∙ itself a b e))
    by false e true f = absurd (false≢true (sym e ∙ itself b a f))

any-same : {X : Type 0} (p q : X → Bool) → ((x : X) → p x ≡ q x) → (xs : List X) → list_any p xs ≡ list_any q xs
any-same p q same [] = refl
any-same p q same (x ∷ xs) = rw (same x, any-same p q same xs) refl

last-there : (fact : Fact) (facts : List Fact) → (last : Fact) × (last_fact (fact ∷ facts) ≡ Some last)
last-there fact facts = get-there (fact ∷ facts) (length (fact ∷ facts) - 1) (omega arith)
  where
    get-there : (xs : List Fact) (n : ℕ) → n < length xs → (x : Fact) × (slice_get xs n ≡ Some x)
    get-there [] n h = absurd (omega (arith, h))
    get-there (x ∷ xs) zero h = (x, refl)
    get-there (x ∷ xs) (suc n) h = get-there xs n (omega (arith, h))

among-path : (path hypotheses : List Fact) → stands_among path path hypotheses ≡ all_stand path hypotheses
among-path path [] = refl
among-path path (fact ∷ facts) = by (all_stand path (fact ∷ facts)) refl
  where
    last : (last : Fact) × (last_fact (fact ∷ facts) ≡ Some last)
    last = last-there fact facts

    there : all_stand path (fact ∷ facts) ≡ true → list_any (λ f. ends_with f (fact ∷ facts)) path ≡ true
    there all =
        any-same (λ f. ends_with f (fact ∷ facts)) (same_fact last.0) (λ f. ap (is_fact f) last.1 ∙ same-swapped f last.0) path
        ∙ all_at (has path) (fact ∷ facts) _ last.0 last.1 all

    by : (b : Bool) → all_stand path (fact ∷ facts) ≡ b → (list_any (λ f. ends_with f (fact ∷ facts)) path && all_stand path (fact ∷ facts)) ≡ all_stand path (fact ∷ facts)
    by true e = rw (there e) refl
    by false e = rw e (none (list_any (λ f. ends_with f (fact ∷ facts)) path))
      where
        none : (b : Bool) → (b && false) ≡ false
        none true = refl
        none false = refl

among-none : (path hypotheses : List Fact) → is_free hypotheses ≡ stands_among path [] hypotheses
among-none path [] = refl
among-none path (fact ∷ facts) = refl

any-next : {X : Type 0} (p : X → Bool) (xs : List X) (n : ℕ) (x : X) → slice_get xs n ≡ Some x → list_any p (take (suc n) xs) ≡ (list_any p (take n xs) || p x)
any-next p [] n x e = absurd cc
any-next p (y ∷ ys) zero x e = let s : y ≡ x = cc in rw s (or_none (p x))
any-next p (y ∷ ys) (suc n) x e = by (p y) refl (any-next p ys n x e)
  where
    by : (b : Bool) → p y ≡ b → list_any p (take (suc n) ys) ≡ (list_any p (take n ys) || p x) → (p y || list_any p (take (suc n) ys)) ≡ ((p y || list_any p (take n ys)) || p x)
    by true t rest = rw t refl
    by false t rest = rw t rest

spread : (a b c d : Bool) → ((a || (b || c)) && d) ≡ (((a || b) && d) || (c && d))
spread true b true true = refl
spread true b true false = refl
spread true b false true = refl
spread true b false false = refl
spread false true true true = refl
spread false true true false = refl
spread false true false true = refl
spread false true false false = refl
spread false false true true = refl
spread false false true false = refl
spread false false false true = refl
spread false false false false = refl

pub among-next : (path facts : List Fact) (lemmas : List (List Fact)) (n : ℕ) (fact : Fact) → slice_get facts n ≡ Some fact
    → first_where (stands_among path (take (n + 1) facts)) lemmas ≡ lesser (first_where (stands_among path (take n facts)) lemmas) (first_where (stands_under path fact) lemmas)
among-next path facts lemmas n fact at =
    let next : n + 1 ≡ suc n = omega arith in
    ap (λ k. first_where (stands_among path (take k facts)) lemmas) next
    ∙ first-same (stands_among path (take (suc n) facts)) (λ h. stands_among path (take n facts) h || stands_under path fact h) each lemmas
    ∙ first-or (stands_among path (take n facts)) (stands_under path fact) lemmas
  where
    each : (h : List Fact) → stands_among path (take (suc n) facts) h ≡ (stands_among path (take n facts) h || stands_under path fact h)
    each h = ap (λ b. (is_free h || b) && all_stand path h) (any-next (λ f. ends_with f h) facts n fact at) ∙ spread (is_free h) (list_any (λ f. ends_with f h) (take n facts)) (ends_with fact h) (all_stand path h)

pub among-first : (path : List Fact) (lemmas : List (List Fact)) (free : Option ℕ) → free ≡ first_where is_free lemmas → free ≡ first_where (stands_among path []) lemmas
among-first path lemmas free e = e ∙ first-same is_free (stands_among path []) (among-none path) lemmas

pub among-whole : (path : List Fact) (lemmas : List (List Fact)) (n : ℕ) → length path ≤ n → first_where (stands_among path (take n path)) lemmas ≡ first_where (all_stand path) lemmas
among-whole path lemmas n past =
    ap (λ facts. first_where (stands_among path facts) lemmas) (take-past n path past) ∙ first-same (stands_among path path) (all_stand path) (among-path path) lemmas
  where
    take-past : {X : Type 0} (n : ℕ) (xs : List X) → length xs ≤ n → take n xs ≡ xs
    take-past zero [] h = refl
    take-past zero (x ∷ xs) h = absurd (omega (arith, h))
    take-past (suc n) [] h = refl
    take-past (suc n) (x ∷ xs) h = ap (λ l. x ∷ l) (take-past n xs (omega (arith, h)))
