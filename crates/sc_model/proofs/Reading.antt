-- Values that are put one after the other, and the sets of listed numbers.
use Rattle.std.proofs.Common.{◌≡◌, ℕ, zero, suc, ◌+◌, ◌-◌, ◌<◌, ◌≤◌, get_or, Bool, true, false, not, ◌&&◌, ◌||◌, cond, ℤ, pos, ◌-ℤ◌, to_z, of_z, List, [], ◌∷◌, ◌++◌, length, take, drop, Option, Some, None, ◌⊎◌, inl, inr, refl, sym, ap, subst, ◌∙◌, arith}
use Rattle.std.specs.Prelude.{map, if◌then◌else◌, is_some, unsigned_abs, slice_get, ◌^◌, FitsSigned, nat_eq}
use Rattle.std.specs.Int.{w128}
use Rattle.std.specs.Ordering.{int_eq, nat_cmp}
use Rattle.std.specs.FinMap as finmap
use Rattle.std.specs.Cmp.{unsigned_tied, unsigned_Decides, nat_cmp_total}
use Rattle.std.proofs.lemmas.Int.{ints, to_z-of_z}
use Rattle.std.proofs.Math.Seq.{take-suc}
use Rattle.std.proofs.lemmas.List.{take-append-drop, append_assoc}
use Rattle.std.proofs.lemmas.List.Folds.{list_any-append}
use Rattle.sc_base.specs.Numbered.{item_at}
use Rattle.sc_base.specs.Integers.{has_element, without, in_order, upward}
use Rattle.sc_base.proofs.Bools.{and_true, or_none, or_true, or_right}
use Rattle.sc_base.proofs.Integers.{has_element-filter, has_element-in_order, same-int_eq}
use Rattle.sc_terms.specs.declared.interp.Value.{Value}
use Rattle.sc_terms.specs.declared.interp.Value.TheVariants.{Flag, Number}
use Rattle.sc_terms.specs.declared.nodes.Formula.TheVariants as formulas
use Rattle.sc_terms.specs.declared.nodes.SetTerm.TheVariants as sets
use Rattle.sc_terms.specs.declared.nodes.Element.TheVariants as elements
use Rattle.sc_terms.specs.declared.nodes.Sort.{Sort}
use Rattle.sc_terms.specs.declared.problem.Parts.{Parts}
use Rattle.sc_terms.specs.Lookup.{formula_at, set_at, element_at, is_listed}
use Rattle.sc_terms.specs.Conditions.{IsIn}
use Rattle.sc_terms.specs.Values.{ValueMap}
use Rattle.sc_facts.specs.declared.fact.Fact.{Fact}
use Rattle.sc_rules.specs.Boolean.{sign}
use Rattle.sc_sorts.specs.Sorts.{may_hold}
use Rattle.sc_sorts.specs.Posed.{NamesFlag, NamesSet, NamesElement}
use Rattle.sc_rules.specs.Members.{within}
use Rattle.sc_model.specs.Modelling.{is_put, IsLabelIn, AreLabelsIn, labels_of, label_in, IsReadOff, HasValue, Fills, HasNumbers, IsSetOf, Gathers, IsModelOf}
use Rattle.std.proofs.lemmas.Bool.{false≢true}
use Rattle.sc_model.proofs.Paths.{int_same}
use Rattle.sc_model.proofs.Gathering.{members_by}

-- ---- sets of listed numbers
either : (a b : Bool) → (a || (b && not a)) ≡ (a || b)
either true b = refl
either false true = refl
either false false = refl

has_element-union : (xs ys : List ℤ) (x : ℤ) → has_element (in_order (xs ++ without ys xs)) x ≡ (has_element xs x || has_element ys x)
has_element-union xs ys x =
    has_element-in_order (xs ++ without ys xs) x
    ∙ (list_any-append (int_eq x) xs (without ys xs)
    ∙ (ap (λ b. has_element xs x || b) (has_element-filter (λ y. not (has_element xs y)) ys x) ∙ either (has_element xs x) (has_element ys x)))

has_numbers-append : (first second : List ℕ) (x : ℤ) → has_element (map pos (first ++ second)) x ≡ (has_element (map pos first) x || has_element (map pos second) x)
has_numbers-append [] second x = refl
has_numbers-append (n ∷ first) second x = ap (λ b. int_eq x (pos n) || b) (has_numbers-append first second x) ∙ regroup (int_eq x (pos n)) (has_element (map pos first) x) (has_element (map pos second) x)
  where
    regroup : (a b c : Bool) → (a || (b || c)) ≡ ((a || b) || c)
    regroup true b c = refl
    regroup false b c = refl

union_has : (first second : List ℕ) (xs ys zs : List ℤ) → HasNumbers first xs → HasNumbers second ys → zs ≡ in_order (xs ++ without ys xs) → HasNumbers (first ++ second) zs
union_has first second xs ys zs h k e x =
    ap (λ s. has_element s x) e
    ∙ (has_element-union xs ys x
    ∙ (ap (λ b. b || has_element ys x) (h x) ∙ (ap (λ b. has_element (map pos first) x || b) (k x) ∙ sym (has_numbers-append first second x))))

pub halves_have : (numbers first second : List ℕ) (k : ℕ) (low high both : List ℤ) → first ≡ take k numbers → second ≡ drop k numbers → HasNumbers first low → HasNumbers second high → both ≡ in_order (low ++ without high low) → HasNumbers numbers both
halves_have numbers first second k low high both f s h g e =
    subst (λ ns. HasNumbers ns both) (ap (λ ns. ns ++ second) f ∙ (ap (λ ns. take k numbers ++ ns) s ∙ take-append-drop k numbers)) (union_has first second low high both h g e)

no_width : (z : ℤ) → unsigned_abs (z -ℤ z) ≡ 0
no_width z = grind (arith, ints)

has_element-one : (z x : ℤ) → has_element (upward z (unsigned_abs (z -ℤ z) + 1)) x ≡ int_eq x z
unfolding upward
has_element-one z x = rw (no_width z) (or_none (int_eq x z))

-- a number of 32 bits, read as a signed number of 128 bits
pub read_number : (z : ℤ) (n : ℕ) → n < 2 ^ 32 → z ≡ pos n → to_z w128 (of_z w128 z) ≡ pos n
read_number z n h e = rw e (to_z-of_z w128 (pos n) (small n h))
  where
    small : (m : ℕ) → m < 2 ^ 32 → FitsSigned w128 (pos m)
    small m k = omega (arith, ints)

pub one_has : (z : ℤ) (m : ℕ) → m < 2 ^ 32 → z ≡ pos m → HasNumbers (m ∷ []) (upward (to_z w128 (of_z w128 z)) (unsigned_abs (to_z w128 (of_z w128 z) -ℤ to_z w128 (of_z w128 z)) + 1))
one_has z m h e x =
    has_element-one (to_z w128 (of_z w128 z)) x ∙ (ap (int_eq x) (read_number z m h e) ∙ sym (or_none (int_eq x (pos m))))

-- ---- one value is put
get_put : (m : ValueMap) (e : ℕ) (v : Value) (k : ℕ) → finmap.get (finmap.insert m e v) k ≡ cond (nat_eq k e) (Some v) (finmap.get m k)
get_put m e v k = finmap.get-insert nat_cmp_total m e v k ∙ ap (λ b. cond b (Some v) (finmap.get m k)) (unsigned_tied k e)

pub put_fills : (problem : Parts) (path : List Fact) (label : ℕ → ℕ) (old new : ValueMap) (c : ℕ) (v : Value) → new ≡ finmap.insert old c v → IsReadOff problem path label c v → Fills problem path label old new
put_fills problem path label old new c v put is = record {
  read_off = λ before k w at. by (nat_eq k c) k w refl (before k w) (sym (get_put old c v k) ∙ (ap (λ m. finmap.get m k) (sym put) ∙ at));
  kept = λ k has. subst (λ o. is_some o ≡ true) (sym (ap (λ m. finmap.get m k) put ∙ get_put old c v k)) (stays (nat_eq k c) (finmap.get old k) has);
}
  where
    by : (b : Bool) (k : ℕ) (w : Value) → nat_eq k c ≡ b → (finmap.get old k ≡ Some w → IsReadOff problem path label k w) → cond b (Some v) (finmap.get old k) ≡ Some w → IsReadOff problem path label k w
    by true k w t before e = let same : v ≡ w = cc in subst (λ n. IsReadOff problem path label n w) (sym ((unsigned_Decides k c).0 t)) (subst (IsReadOff problem path label c) same is)
    by false k w t before e = before e

    stays : (b : Bool) (o : Option Value) → is_some o ≡ true → is_some (cond b (Some v) o) ≡ true
    stays true o h = refl
    stays false o h = h

put_there : (old new : ValueMap) (c : ℕ) (v : Value) → new ≡ finmap.insert old c v → HasValue new c
put_there old new c v put = ap is_some (ap (λ m. finmap.get m c) put ∙ (get_put old c v c ∙ ap (λ b. cond b (Some v) (finmap.get old c)) ((unsigned_Decides c c).1 refl)))

module _ (problem : Parts) (path : List Fact) (label : ℕ → ℕ) (n c : ℕ) (old new : ValueMap) where
  pub flag_fills : (b : Bool) → formula_at problem n ≡ Some (formulas.Flag c) → b ≡ sign path n true → new ≡ finmap.insert old c (Flag b) → Fills problem path label old new
  flag_fills b at e put = put_fills problem path label old new c (Flag b) put (n, at, e)

  pub flag_there : (b : Bool) → formula_at problem n ≡ Some (formulas.Flag c) → new ≡ finmap.insert old c (Flag b) → (d : ℕ) → NamesFlag problem n d → HasValue new d
  flag_there b at put d names = let same : c ≡ d = cc in subst (HasValue new) same (put_there old new c (Flag b) put)

  pub element_fills : (z : ℤ) (s : Sort) → element_at problem n ≡ Some (elements.Const c s) → z ≡ pos (label n) → new ≡ finmap.insert old c (Number z) → Fills problem path label old new
  element_fills z s at e put = put_fills problem path label old new c (Number z) put (n, (s, at), e)

  pub element_there : (z : ℤ) (s : Sort) → element_at problem n ≡ Some (elements.Const c s) → new ≡ finmap.insert old c (Number z) → (d : ℕ) → NamesElement problem n d → HasValue new d
  element_there z s at put d names = let other = names.1 in let same : c ≡ d = cc in subst (HasValue new) same (put_there old new c (Number z) put)

  pub set_fills : (v : Value) (s : Sort) → set_at problem n ≡ Some (sets.Const c s) → IsReadOff problem path label c v → new ≡ finmap.insert old c v → Fills problem path label old new
  set_fills v s at e put = put_fills problem path label old new c v put e

  pub set_there : (v : Value) (s : Sort) → set_at problem n ≡ Some (sets.Const c s) → new ≡ finmap.insert old c v → (d : ℕ) → NamesSet problem n d → HasValue new d
  set_there v s at put d names = let other = names.1 in let same : c ≡ d = cc in subst (HasValue new) same (put_there old new c v put)

-- ---- values are put in a row
pub fills_on : (problem : Parts) (path : List Fact) (label : ℕ → ℕ) (a b c : ValueMap) → Fills problem path label a b → Fills problem path label b c → Fills problem path label a c
fills_on problem path label a b c f g = record { read_off = λ h. g.read_off (f.read_off h); kept = λ k h. g.kept k (f.kept k h) }

pub fills_none : (problem : Parts) (path : List Fact) (label : ℕ → ℕ) (a : ValueMap) → Fills problem path label a a
fills_none problem path label a = record { read_off = λ h. h; kept = λ k h. h }

-- the nodes up to a number have values
pub there_next : (Names : ℕ → ℕ → Type 0) (problem : Parts) (path : List Fact) (label : ℕ → ℕ) (old new : ValueMap) (p : ℕ) → Fills problem path label old new → ((n c : ℕ) → n ≤ p → Names n c → HasValue old c) → ((c : ℕ) → Names (p + 1) c → HasValue new c) → (n c : ℕ) → n ≤ p + 1 → Names n c → HasValue new c
there_next Names problem path label old new p fills before next n c low names = by (split n p low)
  where
    split : (m q : ℕ) → m ≤ q + 1 → (m ≤ q) ⊎ (m ≡ q + 1)
    split m q h = grind arith

    by : (n ≤ p) ⊎ (n ≡ p + 1) → HasValue new c
    by (inl h) = fills.kept c (before n c h names)
    by (inr e) = next c (subst (λ m. Names m c) e names)

pub item_low : {X : Type 0} (xs : List X) (n : ℕ) (x : X) → item_at xs n ≡ Some x → n ≤ length xs
item_low xs zero x e = omega arith
item_low {X} xs (suc n) x e = get xs n e
  where
    get : (ys : List X) (k : ℕ) → slice_get ys k ≡ Some x → suc k ≤ length ys
    get [] k g = absurd cc
    get (y ∷ ys) zero g = omega arith
    get (y ∷ ys) (suc k) g = let below = get ys k g in omega (arith, below)

-- ---- a set's value
pub labels_next : (problem : Parts) (label : ℕ → ℕ) (n : ℕ) (list : List ℕ) (i : ℕ) → i < length list → labels_of problem label n (take (i + 1) list) ≡ labels_of problem label n (take i list) ++ labels_of problem label n (get_or list i 0 ∷ [])
labels_next problem label n list i h =
    let next : i + 1 ≡ suc i = omega arith in
    ap (λ k. labels_of problem label n (take k list)) next
    ∙ (ap (labels_of problem label n) (take-suc list i 0 h)
    ∙ labels-append (take i list) (get_or list i 0 ∷ []))
  where
    labels-append : (xs ys : List ℕ) → labels_of problem label n (xs ++ ys) ≡ labels_of problem label n xs ++ labels_of problem label n ys
    labels-append [] ys = refl
    labels-append (x ∷ xs) ys = ap (λ ks. (if may_hold problem n x then label x ∷ [] else []) ++ ks) (labels-append xs ys) ∙ sym (append_assoc (if may_hold problem n x then label x ∷ [] else []) (labels_of problem label n xs) (labels_of problem label n ys))

-- the label of a listed element that could be a member is among the labels
label_there : (problem : Parts) (label : ℕ → ℕ) (n : ℕ) (list : List ℕ) (e : ℕ) → is_listed e list ≡ true → may_hold problem n e ≡ true → has_element (map pos (labels_of problem label n list)) (pos (label e)) ≡ true
label_there problem label n [] e h may = absurd (false≢true h)
label_there problem label n (f ∷ list) e h may =
    has_numbers-append (if may_hold problem n f then label f ∷ [] else []) (labels_of problem label n list) (pos (label e))
    ∙ by (or_true (nat_eq e f) (is_listed e list) h) (λ later. label_there problem label n list e later may)
  where
    by : (nat_eq e f ≡ true) ⊎ (is_listed e list ≡ true) → (is_listed e list ≡ true → has_element (map pos (labels_of problem label n list)) (pos (label e)) ≡ true) → (has_element (map pos (if may_hold problem n f then label f ∷ [] else [])) (pos (label e)) || has_element (map pos (labels_of problem label n list)) (pos (label e))) ≡ true
    by (inl same) rest =
        let is : e ≡ f = (unsigned_Decides e f).0 same in
        ap (λ b. b || has_element (map pos (labels_of problem label n list)) (pos (label e)))
        (ap (λ b. has_element (map pos (if b then label f ∷ [] else [])) (pos (label e))) (subst (λ k. may_hold problem n k ≡ true) is may)
        ∙ (ap (λ k. int_eq (pos (label k)) (pos (label f)) || false) is ∙ ap (λ b. b || false) (int_same (pos (label f)))))
    by (inr later) rest = or_right (has_element (map pos (if may_hold problem n f then label f ∷ [] else [])) (pos (label e))) (has_element (map pos (labels_of problem label n list)) (pos (label e))) (rest later)

-- each of the labels is that of a listed element that could be a member
label_found : (problem : Parts) (label : ℕ → ℕ) (n : ℕ) (list : List ℕ) (x : ℤ) → has_element (map pos (labels_of problem label n list)) x ≡ true → (e : ℕ) × (is_listed e list ≡ true) × (may_hold problem n e ≡ true) × (x ≡ pos (label e))
label_found problem label n [] x h = absurd (false≢true h)
label_found problem label n (f ∷ list) x h = by (may_hold problem n f) refl (or_true (has_element (map pos (if may_hold problem n f then label f ∷ [] else [])) x) (has_element (map pos (labels_of problem label n list)) x) (sym (has_numbers-append (if may_hold problem n f then label f ∷ [] else []) (labels_of problem label n list) x) ∙ h)) (label_found problem label n list x)
  where
    by : (b : Bool) → may_hold problem n f ≡ b → (has_element (map pos (if b then label f ∷ [] else [])) x ≡ true) ⊎ (has_element (map pos (labels_of problem label n list)) x ≡ true) → (has_element (map pos (labels_of problem label n list)) x ≡ true → (e : ℕ) × (is_listed e list ≡ true) × (may_hold problem n e ≡ true) × (x ≡ pos (label e))) → (e : ℕ) × (is_listed e (f ∷ list) ≡ true) × (may_hold problem n e ≡ true) × (x ≡ pos (label e))
    by true may (inl here) rest = (f, ap (λ b. b || is_listed f list) ((unsigned_Decides f f).1 refl), may, same-int_eq x (pos (label f)) (sym (or_none (int_eq x (pos (label f)))) ∙ here))
    by false may (inl here) rest = absurd (false≢true here)
    by b may (inr later) rest = let e = rest later in (e.0, or_right (nat_eq e.0 f) (is_listed e.0 list) e.1, e.2, e.3)

pub set_read_off : (problem : Parts) (path : List Fact) (label : ℕ → ℕ) (lists : List (List ℕ)) (n c : ℕ) (s : Sort) (list found : List ℕ) (xs : List ℤ) (value : Value) → IsIn (length problem.sets) n → Gathers (length problem.sets) path lists → list ≡ get_or lists (n - 1) list → set_at problem n ≡ Some (sets.Const c s) → found ≡ labels_of problem label n list → HasNumbers found xs → IsSetOf xs value → IsReadOff problem path label c value
set_read_off problem path label lists n c s list found xs value there gathers is at found_is numbers set =
    subst (IsReadOff problem path label c) (sym set.1) (n, (s, at), subst (AreLabelsIn problem path label n) (sym set.2) are)
  where
    inside : IsIn (length lists) n
    inside = subst (λ k. IsIn k n) (sym gathers.counted) there

    listed : (e : ℕ) → is_listed e list ≡ within path e n true
    listed e = ap (is_listed e) (sym (members_by lists n list inside is)) ∙ gathers.listed n e there

    among : (x : ℤ) → has_element xs x ≡ has_element (map pos (labels_of problem label n list)) x
    among x = numbers x ∙ ap (λ ns. has_element (map pos ns) x) found_is

    are : AreLabelsIn problem path label n xs
    are = record {
      each = λ x h. let e = label_found problem label n list x (sym (among x) ∙ h) in (e.0, rw (e.2, sym (listed e.0) ∙ e.1) refl, e.3);
      all = λ e h. let parts = and_true (may_hold problem n e) (within path e n true) h in among (pos (label e)) ∙ label_there problem label n list e (listed e ∙ parts.1) parts.0;
    }

-- ---- the whole
pub model_is : (problem : Parts) (path : List Fact) (label : ℕ → ℕ) (a b c d : ValueMap) → a ≡ finmap.empty → Fills problem path label a b → ((n k : ℕ) → NamesFlag problem n k → HasValue b k) → Fills problem path label b c → ((n k : ℕ) → NamesElement problem n k → HasValue c k) → Fills problem path label c d → ((n k : ℕ) → NamesSet problem n k → HasValue d k) → IsModelOf problem path label d
model_is problem path label a b c d none f1 flags f2 elements f3 sets = record {
  read_off = f3.read_off (f2.read_off (f1.read_off (λ k v at. let nothing : finmap.get a k ≡ None = ap (λ m. finmap.get m k) none ∙ finmap.get-empty nat_cmp k in absurd cc)));
  flags = λ n k names. f3.kept k (f2.kept k (flags n k names));
  sets = sets;
  elements = λ n k names. f3.kept k (elements n k names);
}
