-- Classes by the equations of a path.
use Rattle.std.proofs.Common.{◌≡◌, ℕ, zero, suc, ◌+◌, ◌-◌, ◌<◌, ◌≤◌, Bool, true, false, ◌&&◌, ◌||◌, cond, nat_le, nat_lt, List, [], ◌∷◌, ◌++◌, length, take, get_or, Option, None, Some, ◌⊎◌, inl, inr, refl, sym, ap, subst, ◌∙◌, append_assoc, append-nil, length-append, arith}
use Rattle.std.specs.Prelude.{slice_get}
use Rattle.std.proofs.Math.Seq.{take-suc}
use Rattle.std.proofs.lemmas.Bool.{leb-true, leb-false, le-leb, ltb-false}
use Rattle.std.proofs.lemmas.List.Elements.{Contains-append_left, Contains-append_right}
use Rattle.std.specs.List.{AllByRecursion, Contains}
use Rattle.std.proofs.lemmas.Bool.{false≢true}
use Rattle.sc_base.specs.Numbered.{item_at}
use Rattle.sc_base.proofs.Bools.{and_true, or_true}
use Rattle.sc_terms.specs.Conditions.{IsIn}
use Rattle.sc_terms.specs.declared.problem.Parts.{Parts}
use Rattle.sc_facts.specs.declared.fact.Fact.{Fact}
use Rattle.sc_facts.specs.declared.fact.Fact.TheVariants as facts
use Rattle.sc_facts.specs.Same.{same_fact, same_fact-Decides}
use Rattle.sc_facts.specs.Facts.{has}
use Rattle.sc_rules.specs.Pairs.{ordered, equal_fact, equal}
use Rattle.sc_classes.specs.Classes.{Merges, Joined, paired, itself, turned, chained, IsLeastJoined, least_of}
use Rattle.sc_classes.specs.Explanations.{HoldsPairs}
use Rattle.sc_model.specs.Modelling.{label_in, number_or_none}
use Rattle.sc_model.specs.Deciding.{AreLabelsOf}
use Rattle.sc_branch.specs.Labels.{pair_of, pairs_of, Collects, HasLabels}

-- ---- collecting
pairs_append : (n : ℕ) (xs : List Fact) (f : Fact) → pairs_of n (xs ++ f ∷ []) ≡ pairs_of n xs ++ pair_of n f
pairs_append n [] f = append-nil (pair_of n f)
pairs_append n (x ∷ xs) f = ap (λ ps. pair_of n x ++ ps) (pairs_append n xs f) ∙ sym (append_assoc (pair_of n x) (pairs_of n xs) (pair_of n f))

pub pairs_next : (n : ℕ) (fs : List Fact) (i : ℕ) (f : Fact) (old new : List (ℕ × ℕ)) → i < length fs → f ≡ get_or fs i f → old ≡ pairs_of n (take i fs) → new ≡ old ++ pair_of n f → new ≡ pairs_of n (take (i + 1) fs)
pairs_next n fs i f old new h is before after =
    let next : i + 1 ≡ suc i = omega arith in
    let taken : take (i + 1) fs ≡ take i fs ++ f ∷ [] = ap (λ k. take k fs) next ∙ (take-suc fs i f h ∙ ap (λ x. take i fs ++ x ∷ []) (sym is)) in
    after ∙ (ap (λ ps. ps ++ pair_of n f) before ∙ (sym (pairs_append n (take i fs) f) ∙ ap (pairs_of n) (sym taken)))

pub pairs_all : (n : ℕ) (fs : List Fact) (i : ℕ) → length fs ≤ i → pairs_of n (take i fs) ≡ pairs_of n fs
pairs_all n [] zero h = refl
pairs_all n [] (suc i) h = refl
pairs_all n (f ∷ fs) zero h = absurd (omega (arith, h))
pairs_all n (f ∷ fs) (suc i) h = ap (λ ps. pair_of n f ++ ps) (pairs_all n fs i (omega (arith, h)))

-- ---- the pairs hold
ordered_low : (e f : ℕ) → nat_le e f ≡ true → ◌≡◌ {A = ℕ × ℕ} (ordered e f) (e, f)
ordered_low e f low = by (nat_lt f e) refl
  where
    by : (b : Bool) → nat_lt f e ≡ b → ◌≡◌ {A = ℕ × ℕ} (cond b (f, e) (e, f)) (e, f)
    by false h = refl
    by true h = absurd (omega (arith, leb-true e f low, leb-true (suc f) e h))

abbrev Holds : List Fact → ℕ × ℕ → Type 0
Holds path p = equal path p.0 p.1 true ≡ true

all_join : (path : List Fact) (ps qs : List (ℕ × ℕ)) → AllByRecursion (Holds path) ps → AllByRecursion (Holds path) qs → AllByRecursion (Holds path) (ps ++ qs)
all_join path [] qs h g = g
all_join path (p ∷ ps) qs h g = (h.0, all_join path ps qs h.1 g)

one_holds : (n : ℕ) (path : List Fact) (f : Fact) → has path f ≡ true → AllByRecursion (Holds path) (pair_of n f)
one_holds n path (facts.Eq e f true) h = by (nat_le e f && nat_le f n) refl
  where
    by : (b : Bool) → (nat_le e f && nat_le f n) ≡ b → AllByRecursion (Holds path) (cond b ((e, f) ∷ []) [])
    by false is = tt
    by true is = (subst (λ p. has path (facts.Eq p.0 p.1 true) ≡ true) (sym (ordered_low e f (and_true (nat_le e f) (nat_le f n) is).0)) h, tt)
one_holds n path (facts.Eq e f false) h = tt
one_holds n path (facts.Sign f b) h = tt
one_holds n path (facts.Member e s b) h = tt
one_holds n path (facts.EqSet s t b) h = tt
one_holds n path (facts.Row row) h = tt
one_holds n path (facts.Empty cube b) h = tt

or_one : (a b : Bool) → a ≡ true → (a || b) ≡ true
or_one true b h = refl
or_one false b h = absurd (false≢true h)

or_other : (a b : Bool) → b ≡ true → (a || b) ≡ true
or_other true b h = refl
or_other false b h = h

pairs_hold : (n : ℕ) (path fs : List Fact) → ((x : Fact) → has fs x ≡ true → has path x ≡ true) → AllByRecursion (Holds path) (pairs_of n fs)
pairs_hold n path [] h = tt
pairs_hold n path (f ∷ fs) h =
    all_join path (pair_of n f) (pairs_of n fs)
    (one_holds n path f (h f (or_one (same_fact f f) (has fs f) ((same_fact-Decides f f).1 refl))))
    (pairs_hold n path fs (λ x e. h x (or_other (same_fact x f) (has fs x) e)))

-- ---- what the path says to be equal is joined
pair_is : (n a b : ℕ) → nat_le a b ≡ true → nat_le b n ≡ true → pair_of n (facts.Eq a b true) ≡ (a, b) ∷ []
pair_is n a b first second = ap (λ x. cond (x && nat_le b n) ((a, b) ∷ []) []) first ∙ ap (λ x. cond x ((a, b) ∷ []) []) second

contains_it : (n : ℕ) (fs : List Fact) (a b : ℕ) → has fs (facts.Eq a b true) ≡ true → nat_le a b ≡ true → nat_le b n ≡ true → Contains (pairs_of n fs) (a, b)
contains_it n [] a b h first second = absurd (false≢true h)
contains_it n (f ∷ fs) a b h first second =
    elim (or_true (same_fact (facts.Eq a b true) f) (has fs (facts.Eq a b true)) h) [
      | inl e ↦
          let is : facts.Eq a b true ≡ f = (same_fact-Decides (facts.Eq a b true) f).0 e in
          let one : pair_of n f ≡ (a, b) ∷ [] = ap (pair_of n) (sym is) ∙ pair_is n a b first second in
          Contains-append_left (pair_of n f) (pairs_of n fs) (a, b) (subst (λ ps. Contains ps (a, b)) (sym one) (0, omega arith, refl))
      | inr e ↦ Contains-append_right (pair_of n f) (pairs_of n fs) (a, b) (contains_it n fs a b e first second)
    ]

joined_by : (n : ℕ) (path : List Fact) (e f : ℕ) → IsIn n e → IsIn n f → equal path e f true ≡ true → Joined (pairs_of n path) e f
joined_by n path e f in_e in_f h = by (nat_lt f e) refl h
  where
    by : (b : Bool) → nat_lt f e ≡ b → has path (facts.Eq (cond {A = ℕ × ℕ} b (f, e) (e, f)).0 (cond {A = ℕ × ℕ} b (f, e) (e, f)).1 true) ≡ true → Joined (pairs_of n path) e f
    by true is has_it = turned f e (paired f e (contains_it n path f e has_it (le-leb f e (omega (arith, leb-true (suc f) e is))) (le-leb e n in_e.1)))
    by false is has_it = paired e f (contains_it n path e f has_it (le-leb e f (ltb-false f e is)) (le-leb f n in_f.1))

least_same : (pairs : List (ℕ × ℕ)) (m n first second : ℕ) → IsLeastJoined pairs m first → IsLeastJoined pairs n second → Joined pairs m n → first ≡ second
least_same pairs m n first second a b j =
    let low : first ≤ second = a.lowest second (chained m n second j b.joined) in
    let back : second ≤ first = b.lowest first (chained n m first (turned m n j) a.joined) in
    omega (arith, low, back)

-- ---- labels
item_there : (xs : List ℕ) (e x : ℕ) → IsIn (length xs) e → item_at (xs ++ x ∷ []) e ≡ item_at xs e
item_there xs zero x h = refl
item_there xs (suc e) x h = by xs e (omega (arith, h.1))
  where
    by : (ys : List ℕ) (k : ℕ) → k < length ys → slice_get (ys ++ x ∷ []) k ≡ slice_get ys k
    by [] k l = absurd (omega (arith, l))
    by (y ∷ ys) zero l = refl
    by (y ∷ ys) (suc k) l = by ys k (omega (arith, l))

item_last : (xs : List ℕ) (x : ℕ) → slice_get (xs ++ x ∷ []) (length xs) ≡ Some x
item_last [] x = refl
item_last (y ∷ ys) x = item_last ys x

lt_or_last : (e k : ℕ) → e ≤ k + 1 → (e ≤ k) ⊎ (e ≡ k + 1)
lt_or_last e k h = by (nat_le e k) refl
  where
    by : (b : Bool) → nat_le e k ≡ b → (e ≤ k) ⊎ (e ≡ k + 1)
    by true is = inl (leb-true e k is)
    by false is = inr (omega (arith, h, leb-false e k is))

pub labels_next : (merges : Merges) (k : ℕ) (labels : List ℕ) (n x : ℕ) (new : List ℕ) → HasLabels merges k labels → n ≡ k + 1 → x ≡ least_of merges.pairs n → IsLeastJoined merges.pairs n x → new ≡ labels ++ x ∷ [] → HasLabels merges (k + 1) new
labels_next merges k labels n x new has_labels at is least after = subst (HasLabels merges (k + 1)) (sym after) (record {
  counted = length-append labels (x ∷ []) ∙ ap (λ m. m + 1) has_labels.counted;
  least = λ e inside. first (λ e l. l ≡ least_of merges.pairs e) (λ e old. has_labels.least e old) (subst (λ m. x ≡ least_of merges.pairs m) at is) e inside;
  joined = λ e inside. first (λ e l. IsLeastJoined merges.pairs e l) (λ e old. has_labels.joined e old) (subst (λ m. IsLeastJoined merges.pairs m x) at least) e inside;
})
  where
    last : label_in (labels ++ x ∷ []) (k + 1) ≡ x
    last =
        let next : k + 1 ≡ suc (length labels) = omega (arith, has_labels.counted) in
        ap (label_in (labels ++ x ∷ [])) next ∙ ap number_or_none (item_last labels x)

    first : (P : ℕ → ℕ → Type 0) → ((e : ℕ) → IsIn k e → P e (label_in labels e)) → P (k + 1) x → (e : ℕ) → IsIn (k + 1) e → P e (label_in (labels ++ x ∷ []) e)
    first P old new_one e inside =
        elim (lt_or_last e k inside.1) [
          | inl low ↦ subst (P e) (sym (ap number_or_none (item_there labels e x (inside.0, subst (λ m. e ≤ m) (sym has_labels.counted) low)))) (old e (inside.0, low))
          | inr same ↦ subst (λ m. P m (label_in (labels ++ x ∷ []) m)) (sym same) (subst (P (k + 1)) (sym last) new_one)
        ]

pub no_labels : (merges : Merges) → HasLabels merges 0 []
no_labels merges = record { counted = refl; least = λ e inside. absurd (omega (arith, inside.0, inside.1)); joined = λ e inside. absurd (omega (arith, inside.0, inside.1)) }

pub are_labels : (problem : Parts) (path : List Fact) (merges : Merges) (labels : List ℕ) → merges.count ≡ length problem.elements → merges.pairs ≡ pairs_of (length problem.elements) path → HasLabels merges merges.count labels → AreLabelsOf problem path merges labels
are_labels problem path merges labels counted pairs has_labels = record {
  count = counted;
  stand = subst (λ ps. HoldsPairs ps path) (sym pairs) (pairs_hold (length problem.elements) path path (λ x e. e));
  least = λ e inside. has_labels.least e (subst (λ n. IsIn n e) (sym counted) inside);
  same = λ e f in_e in_f h. least_same merges.pairs e f (label_in labels e) (label_in labels f) (has_labels.joined e (subst (λ n. IsIn n e) (sym counted) in_e)) (has_labels.joined f (subst (λ n. IsIn n f) (sym counted) in_f)) (subst (λ ps. Joined ps e f) (sym pairs) (joined_by (length problem.elements) path e f in_e in_f h));
}

pub classes_next : (n : ℕ) (fs items : List Fact) (i : ℕ) (f : Fact) (old new : Merges) → items ≡ fs → i < length items → f ≡ get_or items i f → Collects n i fs old → new.count ≡ old.count → new.pairs ≡ old.pairs ++ pair_of old.count f → Collects n (i + 1) fs new
classes_next n fs items i f old new same there is before counted pairs = record {
  counted = counted ∙ before.counted;
  all = pairs_next n fs i f old.pairs new.pairs (subst (λ xs. i < length xs) same there) (subst (λ xs. f ≡ get_or xs i f) same is) before.all (subst (λ k. new.pairs ≡ old.pairs ++ pair_of k f) before.counted pairs);
}

pub classes_whole : (n : ℕ) (fs items : List Fact) (i : ℕ) (merges : Merges) → items ≡ fs → length items ≤ i → Collects n i fs merges → merges.pairs ≡ pairs_of n fs
classes_whole n fs items i merges same past before = before.all ∙ pairs_all n fs i (subst (λ xs. length xs ≤ i) same past)

pub labels_whole : (merges : Merges) (count k : ℕ) (labels : List ℕ) → count ≡ merges.count → count ≤ k → k ≤ count → HasLabels merges k labels → HasLabels merges merges.count labels
labels_whole merges count k labels is past within h = let same : k ≡ merges.count = omega (arith, is, past, within) in subst (λ n. HasLabels merges n labels) same h
