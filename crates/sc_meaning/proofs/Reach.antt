-- The marks are those of the numbers that stand under others.
use Rattle.std.proofs.Common.{◌≡◌, ℕ, zero, suc, ◌+◌, ◌<◌, ◌≤◌, Bool, true, false, ◌||◌, if◌then◌else◌, List, [], ◌∷◌, length, Option, Some, None, refl, sym, ap, ◌∙◌, subst, arith}
use Rattle.std.specs.Prelude.{slice_set, nat_eq, nat_lt}
use Rattle.std.specs.List.{AllByRecursion}
use Rattle.std.proofs.lemmas.Bool.{false≢true}
use Rattle.sc_base.specs.Numbered.{item_at}
use Rattle.sc_base.proofs.Bools.{or_right}
use Rattle.sc_terms.specs.declared.nodes.Node.{Node}
use Rattle.sc_terms.specs.Lookup.{is_listed}
use Rattle.sc_terms.specs.Conditions.{IsIn}
use Rattle.sc_terms.specs.Bank.{IsBank}
use Rattle.sc_terms.specs.Under.{node_parts, Under, top, part}
use Rattle.sc_meaning.specs.Marks.{marked, with_marks, with_parts, swept_once, swept, unmarked, reached}
use Rattle.sc_meaning.proofs.Parts.{part_below, listed_all}

-- ---- one mark
set_here : (marks : List Bool) (n : ℕ) → n < length marks → marked (slice_set marks n true) n ≡ true
set_here [] n lt = absurd (omega arith)
set_here (b ∷ bs) zero lt = refl
set_here (b ∷ bs) (suc n) lt = set_here bs n (omega arith)

set_keeps : (marks : List Bool) (n k : ℕ) → marked marks k ≡ true → marked (slice_set marks n true) k ≡ true
set_keeps [] n k e = e
set_keeps (b ∷ bs) zero zero e = refl
set_keeps (b ∷ bs) zero (suc k) e = e
set_keeps (b ∷ bs) (suc n) zero e = e
set_keeps (b ∷ bs) (suc n) (suc k) e = set_keeps bs n k e

-- what is marked after was marked before, or is the number
set_only : (marks : List Bool) (n k : ℕ) → marked (slice_set marks n true) k ≡ true → (marked marks k ≡ false) → n ≡ k
set_only [] n k e f = absurd (false≢true (sym f ∙ e))
set_only (b ∷ bs) zero zero e f = refl
set_only (b ∷ bs) zero (suc k) e f = absurd (false≢true (sym f ∙ e))
set_only (b ∷ bs) (suc n) zero e f = absurd (false≢true (sym f ∙ e))
set_only (b ∷ bs) (suc n) (suc k) e f = ap suc (set_only bs n k e f)

length-set : (marks : List Bool) (n : ℕ) → length (slice_set marks n true) ≡ length marks
length-set [] n = refl
length-set (b ∷ bs) zero = refl
length-set (b ∷ bs) (suc n) = ap suc (length-set bs n)

-- ---- several marks
length-with : (ns : List ℕ) (marks : List Bool) → length (with_marks ns marks) ≡ length marks
length-with [] marks = refl
length-with (n ∷ ns) marks = length-with ns (slice_set marks n true) ∙ length-set marks n

with_keeps : (ns : List ℕ) (marks : List Bool) (k : ℕ) → marked marks k ≡ true → marked (with_marks ns marks) k ≡ true
with_keeps [] marks k e = e
with_keeps (n ∷ ns) marks k e = with_keeps ns (slice_set marks n true) k (set_keeps marks n k e)

with_here : (ns : List ℕ) (marks : List Bool) (k : ℕ) → k < length marks → is_listed k ns ≡ true → marked (with_marks ns marks) k ≡ true
with_here [] marks k lt e = absurd (false≢true e)
with_here (n ∷ ns) marks k lt e = by (nat_eq k n) refl e (with_here ns (slice_set marks n true) k (subst (λ l. k < l) (sym (length-set marks n)) lt))
  where
    by : (b : Bool) → nat_eq k n ≡ b → (b || is_listed k ns) ≡ true → (is_listed k ns ≡ true → marked (with_marks ns (slice_set marks n true)) k ≡ true) → marked (with_marks ns (slice_set marks n true)) k ≡ true
    by true same h rest =
        let is : n ≡ k = grind arith in
        with_keeps ns (slice_set marks n true) k (subst (λ m. marked (slice_set marks m true) k ≡ true) (sym is) (set_here marks k lt))
    by false other h rest = rest h

with_only : (ns : List ℕ) (marks : List Bool) (k : ℕ) → marked (with_marks ns marks) k ≡ true → marked marks k ≡ false → is_listed k ns ≡ true
with_only [] marks k e f = absurd (false≢true (sym f ∙ e))
with_only (n ∷ ns) marks k e f = by (marked (slice_set marks n true) k) refl (with_only ns (slice_set marks n true) k e)
  where
    by : (b : Bool) → marked (slice_set marks n true) k ≡ b → (marked (slice_set marks n true) k ≡ false → is_listed k ns ≡ true) → is_listed k (n ∷ ns) ≡ true
    by true h rest =
        let is : n ≡ k = set_only marks n k h f in
        let same : nat_eq k n ≡ true = grind arith in
        ap (λ b. b || is_listed k ns) same
    by false h rest = or_right (nat_eq k n) (is_listed k ns) (rest h)

none_marked : (n k : ℕ) → marked (unmarked n) k ≡ false
none_marked zero k = refl
none_marked (suc n) zero = refl
none_marked (suc n) (suc k) = none_marked n k

length-unmarked : (n : ℕ) → length (unmarked n) ≡ n
length-unmarked zero = refl
length-unmarked (suc n) = ap suc (length-unmarked n)

-- ---- the sweep
module _ (bank : List Node) (is : IsBank bank) (tops : List ℕ) where
  length-parts : (o : Option Node) (marks : List Bool) → length (with_parts o marks) ≡ length marks
  length-parts None marks = refl
  length-parts (Some x) marks = length-with (node_parts x) marks

  length-once : (n : ℕ) (marks : List Bool) → length (swept_once bank n marks) ≡ length marks
  length-once n marks = by (marked marks n)
    where
      by : (b : Bool) → length (if b then with_parts (item_at bank n) marks else marks) ≡ length marks
      by true = length-parts (item_at bank n) marks
      by false = refl

  once_keeps : (n : ℕ) (marks : List Bool) (k : ℕ) → marked marks k ≡ true → marked (swept_once bank n marks) k ≡ true
  once_keeps n marks k e = by (marked marks n) (item_at bank n)
    where
      by : (b : Bool) (o : Option Node) → marked (if b then with_parts o marks else marks) k ≡ true
      by true None = e
      by true (Some x) = with_keeps (node_parts x) marks k e
      by false o = e

  -- a mark that is new is a part's
  once_only : (n : ℕ) (marks : List Bool) (k : ℕ) → marked (swept_once bank n marks) k ≡ true → marked marks k ≡ false → (x : Node) × (marked marks n ≡ true) × (item_at bank n ≡ Some x) × (is_listed k (node_parts x) ≡ true)
  once_only n marks k e f = by (marked marks n) (item_at bank n) refl refl e
    where
      by : (b : Bool) (o : Option Node) → marked marks n ≡ b → item_at bank n ≡ o → marked (if b then with_parts o marks else marks) k ≡ true → (x : Node) × (marked marks n ≡ true) × (item_at bank n ≡ Some x) × (is_listed k (node_parts x) ≡ true)
      by true None m at h = absurd (false≢true (sym f ∙ h))
      by true (Some x) m at h = (x, m, at, with_only (node_parts x) marks k h f)
      by false o m at h = absurd (false≢true (sym f ∙ h))

  -- sound: each mark is of a number that stands under the tops
  abbrev AllUnder : List Bool → Type 0
  AllUnder marks = (k : ℕ) → marked marks k ≡ true → Under bank tops k

  once_under : (n : ℕ) (marks : List Bool) → AllUnder marks → AllUnder (swept_once bank n marks)
  once_under n marks h k e = by (marked marks k) refl
    where
      by : (b : Bool) → marked marks k ≡ b → Under bank tops k
      by true old = h k old
      by false new = let p = once_only n marks k e new in part n k p.0 (h n p.1) p.2 p.3

  swept_under : (n : ℕ) (marks : List Bool) → AllUnder marks → AllUnder (swept bank n marks)
  swept_under zero marks h = h
  swept_under (suc n) marks h = swept_under n (swept_once bank (suc n) marks) (once_under (suc n) marks h)

  swept_keeps : (n : ℕ) (marks : List Bool) (k : ℕ) → marked marks k ≡ true → marked (swept bank n marks) k ≡ true
  swept_keeps zero marks k e = e
  swept_keeps (suc n) marks k e = swept_keeps n (swept_once bank (suc n) marks) k (once_keeps (suc n) marks k e)

  -- complete: the parts of each marked node past a number are marked
  abbrev ClosedPast : ℕ → List Bool → Type 0
  ClosedPast n marks = (k m : ℕ) (x : Node) → n < k → marked marks k ≡ true → item_at bank k ≡ Some x → is_listed m (node_parts x) ≡ true → marked marks m ≡ true

  once_closed : (n : ℕ) (marks : List Bool) → suc n < length marks → ClosedPast (suc n) marks → ClosedPast n (swept_once bank (suc n) marks)
  once_closed n marks long h k m x past e at listed = by (nat_lt (suc n) k) refl (marked marks k) refl
    where
      below : (0 < m) × (m < k)
      below = part_below bank is k m x at listed

      -- the number itself was marked before, since its parts are below it
      here : k ≡ suc n → marked marks k ≡ true → marked (swept_once bank (suc n) marks) m ≡ true
      here same old =
          let lt : m < length marks = (let p = below.1 in omega arith) in
          let mark : marked marks (suc n) ≡ true = subst (λ j. marked marks j ≡ true) same old in
          let item : item_at bank (suc n) ≡ Some x = subst (λ j. item_at bank j ≡ Some x) same at in
          subst (λ bs. marked bs m ≡ true) (sym ((λ i. if mark i then with_parts (item i) marks else marks))) (with_here (node_parts x) marks m lt listed)

      by : (b : Bool) → nat_lt (suc n) k ≡ b → (c : Bool) → marked marks k ≡ c → marked (swept_once bank (suc n) marks) m ≡ true
      by true later true old = (let lt : suc n < k = grind arith in once_keeps (suc n) marks m (h k m x lt old at listed))
      by false same true old = (let is : k ≡ suc n = grind arith in here is old)
      by b later false new =
          let p = once_only (suc n) marks k e new in
          let q = part_below bank is (suc n) k p.0 p.2 p.3 in
          let r : k < suc n = q.1 in
          absurd (omega arith)

  swept_closed : (n : ℕ) (marks : List Bool) → n < length marks → ClosedPast n marks → ClosedPast zero (swept bank n marks)
  swept_closed zero marks long h = h
  swept_closed (suc n) marks long h =
      swept_closed n (swept_once bank (suc n) marks) (let e = length-once (suc n) marks in omega arith) (once_closed n marks long h)

  -- ---- from the tops down to a number
  module _ (last : ℕ) (within : AllByRecursion (IsIn last) tops) where
    start : List Bool
    start = with_marks tops (unmarked (last + 1))

    long_start : length start ≡ last + 1
    unfolding start
    long_start = length-with tops (unmarked (last + 1)) ∙ length-unmarked (last + 1)

    start_under : AllUnder start
    unfolding start
    start_under k e = top k (with_only tops (unmarked (last + 1)) k e (none_marked (last + 1) k))

    start_closed : ClosedPast last start
    unfolding start
    start_closed k m x past e at listed =
        let h = listed_all (IsIn last) tops within k (with_only tops (unmarked (last + 1)) k e (none_marked (last + 1) k)) in
        let p : k ≤ last = h.1 in
        absurd (omega arith)

    pub reached_under : AllUnder (reached bank tops last)
    unfolding start
    reached_under = swept_under last start start_under

    pub top_reached : (n : ℕ) → is_listed n tops ≡ true → marked (reached bank tops last) n ≡ true
    unfolding start
    top_reached n e =
        let h = listed_all (IsIn last) tops within n e in
        let p : n ≤ last = h.1 in
        let lt : n < length (unmarked (last + 1)) = (let l = length-unmarked (last + 1) in omega arith) in
        swept_keeps last start n (with_here tops (unmarked (last + 1)) n lt e)

    pub part_reached : ClosedPast zero (reached bank tops last)
    unfolding start
    part_reached = swept_closed last start (let e = long_start in omega arith) start_closed

    -- all that stands under the tops is marked, up to the number
    pub under_reached : (n : ℕ) → Under bank tops n → (marked (reached bank tops last) n ≡ true) × IsIn last n
    under_reached n (top k e) = (top_reached k e, listed_all (IsIn last) tops within k e)
    under_reached n (part k m x h at listed) =
        let p = under_reached k h in
        let b = part_below bank is k m x at listed in
        let some : 0 < m = b.0 in
        let lt : m < k = b.1 in
        let most : k ≤ last = p.1.1 in
        (part_reached k m x (omega arith) p.0 at listed, (some, omega arith))
