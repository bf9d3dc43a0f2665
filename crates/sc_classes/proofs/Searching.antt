-- The search along merged pairs.
use Rattle.std.proofs.Common.{◌≡◌, ◌≢◌, ℕ, zero, suc, ◌+◌, ◌<◌, ◌≤◌, Bool, true, false, cond, ◌||◌, List, [], ◌∷◌, ◌++◌, ◌⊎◌, length, drop, get_or, inl, inr, refl, sym, ap, subst, ◌∙◌, arith}
use Rattle.std.specs.Prelude.{nat_eq, slice_index_or, slice_set}
use Rattle.std.specs.List.{AllByRecursion}
use Rattle.std.specs.Cmp.{unsigned_Decides}
use Rattle.std.proofs.Common.{length-append}
use Rattle.std.proofs.Math.Seq.{get_or-append_seam}
use Rattle.std.proofs.lemmas.Bool.{false≢true}
use Rattle.std.proofs.lemmas.List.{get_or-set_same, get_or-set_other, length-set, get_or_append_left}
use Rattle.std.proofs.lemmas.List.Folds.{list_any-append}
use Rattle.std.proofs.lemmas.List.{drop_more}
use Rattle.sc_base.proofs.Bools.{or_none}
use Rattle.sc_base.proofs.Integers.{all_weaker, all-append}
use Rattle.sc_terms.specs.Lookup.{is_listed}
use Rattle.sc_classes.specs.declared.chains.Visit.{Visit}
use Rattle.sc_classes.specs.Classes.{other_of, neighbours_of, least_of}
use Rattle.sc_classes.specs.Searches.{visit_at, Searching, searching, meet, meet_all, is_met, unset, IsMarkedAt, IsSearch, IsChain}
use Rattle.sc_classes.proofs.Hung.{alike}
use Rattle.sc_classes.proofs.Leasts.{fold_apart}

pub or_left : (a b : Bool) → a ≡ true → (a || b) ≡ true
or_left a b e = ap (λ c. c || b) e

pub or_right : (a b : Bool) → b ≡ true → (a || b) ≡ true
or_right true b e = refl
or_right false b e = e

pub either_true : (a b : Bool) → (a || b) ≡ true → (a ≡ true) ⊎ (b ≡ true)
either_true true b e = inl refl
either_true false b e = inr e

same_here : (n : ℕ) → nat_eq n n ≡ true
same_here n = (unsigned_Decides n n).1 refl

pub unlike : (m n : ℕ) → m ≢ n → nat_eq m n ≡ false
unlike m n ne = by (nat_eq m n) refl
  where
    by : (b : Bool) → nat_eq m n ≡ b → nat_eq m n ≡ false
    by true s = absurd (ne ((unsigned_Decides m n).0 s))
    by false s = s

-- ---- marks
unset_all : (marks : List Bool) → ((n : ℕ) → slice_index_or marks n false ≡ false) → unset marks ≡ length marks
unset_all [] h = refl
unset_all (true ∷ marks) h = absurd (false≢true (sym (h 0)))
unset_all (false ∷ marks) h = omega (arith, unset_all marks (λ n. h (suc n)))

pub unset_fewer : (marks : List Bool) (n : ℕ) → n < length marks → slice_index_or marks n false ≡ false → unset (slice_set marks n true) + 1 ≡ unset marks
unset_fewer [] n h e = absurd (omega (arith, h))
unset_fewer (true ∷ marks) zero h e = absurd (false≢true (sym e))
unset_fewer (false ∷ marks) zero h e = refl
unset_fewer (true ∷ marks) (suc n) h e = unset_fewer marks n (omega (arith, h)) e
unset_fewer (false ∷ marks) (suc n) h e = omega (arith, unset_fewer marks n (omega (arith, h)) e)

pub marked_one : (last start : ℕ) (marks new : List Bool) → start ≤ last → length marks ≡ last + 1 → ((n : ℕ) → slice_index_or marks n false ≡ false) → new ≡ slice_set marks start true → IsMarkedAt last start new
marked_one last start marks new h count none e =
    let within : start < length marks = omega (arith, h, count) in
    subst (IsMarkedAt last start) (sym e) record {
      count = length-set marks start true ∙ count;
      room = omega (arith, unset_fewer marks start within (none start), unset_all marks none, count);
      marked = λ n. elim (alike n start) [
        | inl s ↦ subst (λ m. slice_index_or (slice_set marks start true) m false ≡ nat_eq m start) (sym s) (get_or-set_same marks start true false within ∙ sym (same_here start))
        | inr ne ↦ get_or-set_other marks start n true false ne ∙ (none n ∙ sym (unlike n start ne))
      ];
    }

-- ---- the numbers that are left
pub meets_next : (numbers : List ℕ) (i from : ℕ) (s new goal : Searching) → i < length numbers → new ≡ meet from s (get_or numbers i 0) → meet_all from s (drop i numbers) ≡ goal → meet_all from new (drop (i + 1) numbers) ≡ goal
meets_next numbers i from s new goal h e g =
    ap (λ t. meet_all from t (drop (i + 1) numbers)) e ∙ (ap (meet_all from s) (sym (drop_more numbers i 0 h)) ∙ g)

pub meet_length : (from : ℕ) (s : Searching) (n : ℕ) → length (meet from s n).marks ≡ length s.marks
meet_length from s n = by (slice_index_or s.marks n false)
  where
    by : (b : Bool) → length (cond b s (searching (s.visits ++ record { number = n; from = from } ∷ []) (slice_set s.marks n true))).marks ≡ length s.marks
    by true = refl
    by false = length-set s.marks n true

pub range_next : (numbers : List ℕ) (i : ℕ) (marks new : List Bool) → i < length numbers → length new ≡ length marks → AllByRecursion (λ n. n < length marks) (drop i numbers) → AllByRecursion (λ n. n < length new) (drop (i + 1) numbers)
range_next numbers i marks new h e all =
    subst (λ k. AllByRecursion (λ n. n < k) (drop (i + 1) numbers)) (sym e) (subst (AllByRecursion (λ n. n < length marks)) (drop_more numbers i 0 h) all).1

-- ---- what was met before stays
pub record IsGrown (old new : List Visit) : Type 0 where
  pub longer : length old ≤ length new
  pub kept : (i : ℕ) → i < length old → visit_at new i ≡ visit_at old i
  pub met : (n : ℕ) → is_met old n ≡ true → is_met new n ≡ true

grown_none : (old : List Visit) → IsGrown old old
grown_none old = record { longer = omega arith; kept = λ i h. refl; met = λ n e. e }

grown_more : (old : List Visit) (v : Visit) → IsGrown old (old ++ v ∷ [])
grown_more old v = record {
  longer = omega (arith, length-append old (v ∷ []));
  kept = λ i h. get_or_append_left old (v ∷ []) (record { number = 0; from = 0 }) i h;
  met = λ n e. list_any-append (λ (w : Visit). nat_eq n w.number) old (v ∷ []) ∙ or_left (is_met old n) (is_met (v ∷ []) n) e;
}

grown_on : (a b c : List Visit) → IsGrown a b → IsGrown b c → IsGrown a c
grown_on a b c g h = record {
  longer = omega (arith, g.longer, h.longer);
  kept = λ i k. h.kept i (omega (arith, k, g.longer)) ∙ g.kept i k;
  met = λ n e. h.met n (g.met n e);
}

-- ---- one more number is met
module _ (pairs : List (ℕ × ℕ)) (last start : ℕ) (s : Searching) (S : IsSearch pairs last start s) (place n : ℕ) (within : n ≤ last) (there : place < length s.visits) (near : is_listed n (neighbours_of pairs (visit_at s.visits place).number) ≡ true) where
  abbrev more : Visit
  more = record { number = n; from = place }

  abbrev visits : List Visit
  visits = s.visits ++ more ∷ []

  abbrev after : Searching
  after = searching visits (slice_set s.marks n true)

  longer : length visits ≡ length s.visits + 1
  longer = length-append s.visits (more ∷ [])

  front : (i : ℕ) → i < length s.visits → visit_at visits i ≡ visit_at s.visits i
  front i h = (grown_more s.visits more).kept i h

  last_is : visit_at visits (length s.visits) ≡ more
  last_is = get_or-append_seam s.visits more [] (record { number = 0; from = 0 })

  met_here : is_met visits n ≡ true
  met_here = list_any-append (λ (w : Visit). nat_eq n w.number) s.visits (more ∷ []) ∙ or_right (is_met s.visits n) (nat_eq n n || false) (or_left (nat_eq n n) false (same_here n))

  met_other : (m : ℕ) → m ≢ n → is_met visits m ≡ is_met s.visits m
  met_other m ne = list_any-append (λ (w : Visit). nat_eq m w.number) s.visits (more ∷ []) ∙ (ap (λ b. is_met s.visits m || (b || false)) (unlike m n ne) ∙ nothing (is_met s.visits m))
    where
      nothing : (a : Bool) → (a || false) ≡ a
      nothing true = refl
      nothing false = refl

  links_earlier : (i : ℕ) → 0 < i → i < length visits → (visit_at visits i).from < i
  links_earlier i h k =
      elim (alike i (length s.visits)) [
        | inl e ↦ subst (λ j. (visit_at visits j).from < j) (sym e) (subst (λ (v : Visit). v.from < length s.visits) (sym last_is) there)
        | inr ne ↦
            let old : i < length s.visits = omega (arith, k, longer, less i (length s.visits) ne (omega (arith, k, longer))) in
            subst (λ (v : Visit). v.from < i) (sym (front i old)) (S.linked.earlier i h old)
      ]
    where
      less : (i k : ℕ) → i ≢ k → i < k + 1 → i < k
      less i k ne h = grind arith

  links_near : (i : ℕ) → 0 < i → i < length visits → is_listed (visit_at visits i).number (neighbours_of pairs (visit_at visits (visit_at visits i).from).number) ≡ true
  links_near i h k =
      elim (alike i (length s.visits)) [
        | inl e ↦ subst (λ j. is_listed (visit_at visits j).number (neighbours_of pairs (visit_at visits (visit_at visits j).from).number) ≡ true) (sym e)
            (subst (λ (v : Visit). is_listed v.number (neighbours_of pairs (visit_at visits v.from).number) ≡ true) (sym last_is)
            (subst (λ (v : Visit). is_listed n (neighbours_of pairs v.number) ≡ true) (sym (front place there)) near))
        | inr ne ↦
            let old : i < length s.visits = less i (length s.visits) ne (omega (arith, k, longer)) in
            subst (λ (v : Visit). is_listed v.number (neighbours_of pairs (visit_at visits v.from).number) ≡ true) (sym (front i old))
            (subst (λ (v : Visit). is_listed (visit_at s.visits i).number (neighbours_of pairs v.number) ≡ true) (sym (front (visit_at s.visits i).from (omega (arith, S.linked.earlier i h old, old)))) (S.linked.near i h old))
      ]
    where
      less : (i k : ℕ) → i ≢ k → i < k + 1 → i < k
      less i k ne h = grind arith

  search_more : slice_index_or s.marks n false ≡ false → IsSearch pairs last start after
  search_more e =
      let range : n < length s.marks = omega (arith, within, S.count) in
      record {
        count = length-set s.marks n true ∙ S.count;
        room = omega (arith, longer, unset_fewer s.marks n range e, S.room);
        marked = λ m h. elim (alike m n) [
          | inl q ↦ subst (λ k. slice_index_or (slice_set s.marks n true) k false ≡ is_met visits k) (sym q) (get_or-set_same s.marks n true false range ∙ sym met_here)
          | inr ne ↦ get_or-set_other s.marks n m true false ne ∙ (S.marked m h ∙ sym (met_other m ne))
        ];
        nonempty = omega (arith, longer);
        first = front 0 S.nonempty ∙ S.first;
        linked = record { earlier = links_earlier; near = links_near };
        inside = all-append (λ (v : Visit). v.number ≤ last) s.visits (more ∷ []) S.inside (within, tt);
      }

  -- and then the search stands, and has it
  pub record Met (new : Searching) : Type 0 where
    pub search : IsSearch pairs last start new
    pub grown : IsGrown s.visits new.visits
    pub here : is_met new.visits n ≡ true

  pub met_one : Met (meet place s n)
  met_one = by (slice_index_or s.marks n false) refl
    where
      by : (b : Bool) → slice_index_or s.marks n false ≡ b → Met (cond b s after)
      by true e = record { search = S; grown = grown_none s.visits; here = sym (S.marked n within) ∙ e }
      by false e = record { search = search_more e; grown = grown_more s.visits more; here = met_here }

-- ---- all neighbours are met
pub record MetAll (pairs : List (ℕ × ℕ)) (last start : ℕ) (old : Searching) (ns : List ℕ) (new : Searching) : Type 0 where
  pub search : IsSearch pairs last start new
  pub grown : IsGrown old.visits new.visits
  pub all : AllByRecursion (λ n. is_met new.visits n ≡ true) ns

pub met_all : (pairs : List (ℕ × ℕ)) (last start place : ℕ) (ns : List ℕ) (s : Searching) → IsSearch pairs last start s → place < length s.visits → AllByRecursion (λ n. n ≤ last) ns → AllByRecursion (λ n. is_listed n (neighbours_of pairs (visit_at s.visits place).number) ≡ true) ns → MetAll pairs last start s ns (meet_all place s ns)
met_all pairs last start place [] s S there within near = record { search = S; grown = grown_none s.visits; all = tt }
met_all pairs last start place (n ∷ ns) s S there within near =
    let one = met_one pairs last start s S place n within.0 there near.0 in
    let same = one.grown.kept place there in
    let rest = met_all pairs last start place ns (meet place s n) one.search (omega (arith, there, one.grown.longer)) within.1
    (subst (λ (v : Visit). AllByRecursion (λ m. is_listed m (neighbours_of pairs v.number) ≡ true) ns) (sym same) near.1) in
    record {
      search = rest.search;
      grown = grown_on s.visits (meet place s n).visits (meet_all place (meet place s n) ns).visits one.grown rest.grown;
      all = (rest.grown.met n one.here, rest.all);
    }

-- ---- the search so far: the neighbours of the first visits are all met, and none of these is the goal
pub record Goes (pairs : List (ℕ × ℕ)) (last start goal place : ℕ) (s : Searching) : Type 0 where
  pub search : IsSearch pairs last start s
  pub within : place ≤ length s.visits
  pub closed : (i : ℕ) → i < place → AllByRecursion (λ n. is_met s.visits n ≡ true) (neighbours_of pairs (visit_at s.visits i).number)
  pub missed : (i : ℕ) → i < place → (visit_at s.visits i).number ≢ goal

pub goes_first : (pairs : List (ℕ × ℕ)) (last start goal : ℕ) (marks : List Bool) → start ≤ last → IsMarkedAt last start marks → Goes pairs last start goal 0 (searching (record { number = start; from = 0 } ∷ []) marks)
goes_first pairs last start goal marks within m = record {
  search = record {
    count = m.count;
    room = omega (arith, m.room);
    marked = λ n h. m.marked n ∙ sym (or_none (nat_eq n start));
    nonempty = omega arith;
    first = refl;
    linked = record { earlier = λ i h k. absurd (omega (arith, h, k)); near = λ i h k. absurd (omega (arith, h, k)) };
    inside = (within, tt);
  };
  within = omega arith;
  closed = λ i h. absurd (omega (arith, h));
  missed = λ i h. absurd (omega (arith, h));
}

listed_all : (xs : List ℕ) → AllByRecursion (λ n. is_listed n xs ≡ true) xs
listed_all [] = tt
listed_all (x ∷ xs) = (or_left (nat_eq x x) (is_listed x xs) (same_here x), all_weaker (λ n. is_listed n xs ≡ true) (λ n. is_listed n (x ∷ xs) ≡ true) (λ n e. or_right (nat_eq n x) (is_listed n xs) e) xs (listed_all xs))

pub goes_on : (pairs : List (ℕ × ℕ)) (last start goal place : ℕ) (s new : Searching) (ns : List ℕ) → Goes pairs last start goal place s → place < length s.visits → (visit_at s.visits place).number ≢ goal → ns ≡ neighbours_of pairs (visit_at s.visits place).number → AllByRecursion (λ n. n ≤ last) ns → new ≡ meet_all place s ns → Goes pairs last start goal (place + 1) new
goes_on pairs last start goal place s new ns g there off is within e =
    let near : AllByRecursion (λ n. is_listed n (neighbours_of pairs (visit_at s.visits place).number) ≡ true) ns = subst (λ xs. AllByRecursion (λ n. is_listed n xs ≡ true) ns) is (listed_all ns) in
    let m : MetAll pairs last start s ns new = subst (MetAll pairs last start s ns) (sym e) (met_all pairs last start place ns s g.search there within near) in
    record {
      search = m.search;
      within = omega (arith, there, m.grown.longer);
      closed = λ i h. elim (alike i place) [
        | inl q ↦ subst (λ (v : Visit). AllByRecursion (λ n. is_met new.visits n ≡ true) (neighbours_of pairs v.number)) (sym (ap (visit_at new.visits) q ∙ m.grown.kept place there))
            (subst (AllByRecursion (λ n. is_met new.visits n ≡ true)) is m.all)
        | inr ne ↦
            let before : i < place = less i place ne h in
            subst (λ (v : Visit). AllByRecursion (λ n. is_met new.visits n ≡ true) (neighbours_of pairs v.number)) (sym (m.grown.kept i (omega (arith, before, there))))
            (all_weaker (λ n. is_met s.visits n ≡ true) (λ n. is_met new.visits n ≡ true) (λ n k. m.grown.met n k) (neighbours_of pairs (visit_at s.visits i).number) (g.closed i before))
      ];
      missed = λ i h. elim (alike i place) [
        | inl q ↦ subst (λ (v : Visit). v.number ≢ goal) (sym (ap (visit_at new.visits) q ∙ m.grown.kept place there)) off
        | inr ne ↦
            let before : i < place = less i place ne h in
            subst (λ (v : Visit). v.number ≢ goal) (sym (m.grown.kept i (omega (arith, before, there)))) (g.missed i before)
      ];
    }
  where
    less : (i k : ℕ) → i ≢ k → i < k + 1 → i < k
    less i k ne h = grind arith

pub goes_found : (pairs : List (ℕ × ℕ)) (last start goal place : ℕ) (s : Searching) → Goes pairs last start goal place s → place < length s.visits → (visit_at s.visits place).number ≡ goal → IsChain pairs start goal s.visits place
goes_found pairs last start goal place s g there e = record { within = there; found = e; first = g.search.first; linked = g.search.linked }

pub goes_short : (pairs : List (ℕ × ℕ)) (last start goal place : ℕ) (s : Searching) → Goes pairs last start goal place s → length s.visits ≤ last + 1
goes_short pairs last start goal place s g = omega (arith, g.search.room)

-- ---- a search that is at its end has met the whole class
met_place : (visits : List Visit) (n : ℕ) → is_met visits n ≡ true → (i : ℕ) × (i < length visits) × ((visit_at visits i).number ≡ n)
met_place [] n e = absurd (false≢true e)
met_place (v ∷ visits) n e =
    elim (either_true (nat_eq n v.number) (is_met visits n) e) [
      | inl h ↦ (0, omega arith, sym ((unsigned_Decides n v.number).0 h))
      | inr h ↦ let r = met_place visits n h in (suc r.0, omega (arith, r.1), r.2)
    ]

place_met : (visits : List Visit) (i : ℕ) → i < length visits → is_met visits (visit_at visits i).number ≡ true
place_met [] i h = absurd (omega (arith, h))
place_met (v ∷ visits) zero h = or_left (nat_eq v.number v.number) (is_met visits v.number) (same_here v.number)
place_met (v ∷ visits) (suc i) h = or_right (nat_eq (visit_at visits i).number v.number) (is_met visits (visit_at visits i).number) (place_met visits i (omega (arith, h)))

all_to : (P : ℕ → Type 0) (xs : List ℕ) → AllByRecursion P xs → (n : ℕ) → is_listed n xs ≡ true → P n
all_to P [] all n e = absurd (false≢true e)
all_to P (x ∷ xs) all n e =
    elim (either_true (nat_eq n x) (is_listed n xs) e) [
      | inl h ↦ subst P (sym ((unsigned_Decides n x).0 h)) all.0
      | inr h ↦ all_to P xs all.1 n h
    ]

listed_under : (n : ℕ) (b : Bool) → b ≡ true → is_listed n (cond b (n ∷ []) []) ≡ true
listed_under n b e = ap (λ c. is_listed n (cond c (n ∷ []) [])) e ∙ or_left (nat_eq n n) false (same_here n)

listed_left : (n : ℕ) (xs ys : List ℕ) → is_listed n xs ≡ true → is_listed n (xs ++ ys) ≡ true
listed_left n xs ys e = list_any-append (nat_eq n) xs ys ∙ or_left (is_listed n xs) (is_listed n ys) e

listed_right : (n : ℕ) (xs ys : List ℕ) → is_listed n ys ≡ true → is_listed n (xs ++ ys) ≡ true
listed_right n xs ys e = list_any-append (nat_eq n) xs ys ∙ or_right (is_listed n xs) (is_listed n ys) e

-- the two of a pair are neighbours
pub both_near : (pairs : List (ℕ × ℕ)) → AllByRecursion (λ p. (is_listed p.1 (neighbours_of pairs p.0) ≡ true) × (is_listed p.0 (neighbours_of pairs p.1) ≡ true)) pairs
both_near [] = tt
both_near (p ∷ ps) = (
  (
    listed_left p.1 (other_of p.0 p) (neighbours_of ps p.0) (listed_left p.1 (cond (nat_eq p.0 p.0) (p.1 ∷ []) []) (cond (nat_eq p.1 p.0) (p.0 ∷ []) []) (listed_under p.1 (nat_eq p.0 p.0) (same_here p.0))),
    listed_left p.0 (other_of p.1 p) (neighbours_of ps p.1) (listed_right p.0 (cond (nat_eq p.0 p.1) (p.1 ∷ []) []) (cond (nat_eq p.1 p.1) (p.0 ∷ []) []) (listed_under p.0 (nat_eq p.1 p.1) (same_here p.1))),
  ),
  all_weaker (λ q. (is_listed q.1 (neighbours_of ps q.0) ≡ true) × (is_listed q.0 (neighbours_of ps q.1) ≡ true)) (λ q. (is_listed q.1 (neighbours_of (p ∷ ps) q.0) ≡ true) × (is_listed q.0 (neighbours_of (p ∷ ps) q.1) ≡ true))
      (λ q e. (listed_right q.1 (other_of q.0 p) (neighbours_of ps q.0) e.0, listed_right q.0 (other_of q.1 p) (neighbours_of ps q.1) e.1)) ps (both_near ps),
)

alike_both : (a b : Bool) → (a ≡ true → b ≡ true) → (b ≡ true → a ≡ true) → a ≡ b
alike_both true b f g = sym (f refl)
alike_both false true f g = absurd (false≢true (g refl))
alike_both false false f g = refl

pub goes_never : (pairs : List (ℕ × ℕ)) (last start goal place : ℕ) (s : Searching) → Goes pairs last start goal place s → length s.visits ≤ place → least_of pairs start ≡ least_of pairs goal → ⊥
goes_never pairs last start goal place s g ended same =
    let there = met_place s.visits goal goal_met in
    absurd (g.missed there.0 (omega (arith, there.1, ended)) there.2)
  where
    closed : (m n : ℕ) → is_listed n (neighbours_of pairs m) ≡ true → is_met s.visits m ≡ true → is_met s.visits n ≡ true
    closed m n near met =
        let at = met_place s.visits m met in
        all_to (λ k. is_met s.visits k ≡ true) (neighbours_of pairs m) (subst (λ k. AllByRecursion (λ j. is_met s.visits j ≡ true) (neighbours_of pairs k)) at.2 (g.closed at.0 (omega (arith, at.1, ended)))) n near

    each : AllByRecursion (λ p. is_met s.visits p.0 ≡ is_met s.visits p.1) pairs
    each = all_weaker (λ p. (is_listed p.1 (neighbours_of pairs p.0) ≡ true) × (is_listed p.0 (neighbours_of pairs p.1) ≡ true)) (λ p. is_met s.visits p.0 ≡ is_met s.visits p.1)
        (λ p e. alike_both (is_met s.visits p.0) (is_met s.visits p.1) (closed p.0 p.1 e.0) (closed p.1 p.0 e.1)) pairs (both_near pairs)

    class_met : (n : ℕ) → is_met s.visits (least_of pairs n) ≡ is_met s.visits n
    class_met n = fold_apart (is_met s.visits) pairs (λ m. m) each (λ m. refl) n

    start_met : is_met s.visits start ≡ true
    start_met = subst (λ (v : Visit). is_met s.visits v.number ≡ true) g.search.first (place_met s.visits 0 g.search.nonempty)

    goal_met : is_met s.visits goal ≡ true
    goal_met = sym (class_met goal) ∙ (ap (is_met s.visits) (sym same) ∙ (class_met start ∙ start_met))
