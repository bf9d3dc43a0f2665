-- Lists of elements by sets.
use Rattle.std.proofs.Common.{◌≡◌, ◌≢◌, ℕ, zero, suc, ◌+◌, ◌-◌, ◌<◌, ◌≤◌, Bool, true, false, ◌&&◌, ◌||◌, List, [], ◌∷◌, ◌++◌, length, take, get_or, Some, None, ◌⊎◌, inl, inr, refl, sym, ap, subst, ◌∙◌, arith}
use Rattle.std.specs.Prelude.{slice_get, nat_eq}
use Rattle.std.specs.Cmp.{unsigned_Decides}
use Rattle.std.proofs.Math.ListN.{set}
use Rattle.std.proofs.Math.Seq.{take-suc}
use Rattle.std.proofs.lemmas.Bool.{false≢true}
use Rattle.std.proofs.lemmas.List.{get_or-set_same, get_or-set_other, length-set}
use Rattle.std.proofs.Common.{length-append}
use Rattle.std.proofs.lemmas.List.Folds.{list_any-append}
use Rattle.std.proofs.lemmas.Option.{slice_get-get_or}
use Rattle.sc_base.specs.Numbered.{item_at}
use Rattle.sc_base.proofs.Bools.{or_none}
use Rattle.sc_terms.specs.Lookup.{is_listed, list_or_none}
use Rattle.sc_terms.specs.Conditions.{IsIn}
use Rattle.sc_facts.specs.declared.fact.Fact.{Fact}
use Rattle.sc_facts.specs.declared.fact.Fact.TheVariants as facts
use Rattle.sc_facts.specs.Same.{same_fact}
use Rattle.sc_facts.specs.Facts.{has}
use Rattle.sc_model.specs.Modelling.{members_in, Gathers, Gathered}

pub item_by : {X : Type 0} (xs : List X) (n : ℕ) → 0 < n → item_at xs n ≡ slice_get xs (n - 1)
item_by xs zero h = absurd (omega (arith, h))
item_by xs (suc k) h = let back : k ≡ suc k - 1 = omega arith in ap (slice_get xs) back

module _ {X : Type 0} (xs : List X) (i : ℕ) (y : X) where
  get-set_same : i < length xs → slice_get (set xs i y) i ≡ Some y
  get-set_same h = slice_get-get_or (set xs i y) i y (rw (length-set xs i y) h) ∙ ap Some (get_or-set_same xs i y y h)

  get-set_other : (j : ℕ) → j < length xs → j ≢ i → slice_get (set xs i y) j ≡ slice_get xs j
  get-set_other j h ne = slice_get-get_or (set xs i y) j y (rw (length-set xs i y) h) ∙ (ap Some (get_or-set_other xs i j y y ne) ∙ sym (slice_get-get_or xs j y h))

-- the list of one set has one more element
pub gathered_one : (old : List (List ℕ)) (e s : ℕ) (list more : List ℕ) → 0 < s → s - 1 < length old → list ≡ get_or old (s - 1) list → more ≡ list ++ e ∷ [] → Gathered (facts.Member e s true) old (set old (s - 1) more)
gathered_one old e s list more first within there is = record {
  counted = length-set old (s - 1) more;
  listed = λ n x there. by n x there (nat_eq n s) refl;
}
  where
    at : slice_get old (s - 1) ≡ Some list
    at = slice_get-get_or old (s - 1) list within ∙ ap Some (sym there)

    one_more : (x : ℕ) (b : Bool) → (is_listed x list || (b || false)) ≡ (is_listed x list || (b && (true && true)))
    one_more x true = refl
    one_more x false = refl

    not_there : (a b : Bool) → a ≡ (a || (b && (false && true)))
    not_there true b = refl
    not_there false true = refl
    not_there false false = refl

    by : (n x : ℕ) → IsIn (length old) n → (b : Bool) → nat_eq n s ≡ b → is_listed x (members_in (set old (s - 1) more) n) ≡ (is_listed x (members_in old n) || (nat_eq x e && (nat_eq n s && true)))
    by n x there true t =
        let same : n ≡ s = (unsigned_Decides n s).0 t in
        let new : item_at (set old (s - 1) more) s ≡ Some more = item_by (set old (s - 1) more) s first ∙ get-set_same old (s - 1) more within in
        let was : item_at old s ≡ Some list = item_by old s first ∙ at in
        ap (λ k. is_listed x (list_or_none (item_at (set old (s - 1) more) k))) same
        ∙ (ap (λ o. is_listed x (list_or_none o)) new
        ∙ (ap (is_listed x) is
        ∙ (list_any-append (nat_eq x) list (e ∷ [])
        ∙ (one_more x (nat_eq x e)
        ∙ (ap (λ o. is_listed x (list_or_none o) || (nat_eq x e && (true && true))) (sym was ∙ ap (item_at old) (sym same))
        ∙ ap (λ b. is_listed x (members_in old n) || (nat_eq x e && (b && true))) (sym t))))))
    by n x there false t =
        let apart : n - 1 ≢ s - 1 = λ same. false≢true (sym t ∙ (unsigned_Decides n s).1 (omega (arith, same, first, there.0))) in
        let inside : n - 1 < length old = omega (arith, there.0, there.1) in
        let kept : item_at (set old (s - 1) more) n ≡ item_at old n = item_by (set old (s - 1) more) n there.0 ∙ (get-set_other old (s - 1) more (n - 1) inside apart ∙ sym (item_by old n there.0)) in
        ap (λ o. is_listed x (list_or_none o)) kept
        ∙ (not_there (is_listed x (members_in old n)) (nat_eq x e)
        ∙ ap (λ b. is_listed x (members_in old n) || (nat_eq x e && (b && true))) (sym t))

pub has_next : (path : List Fact) (i : ℕ) (fact x : Fact) → i < length path → fact ≡ get_or path i fact → has (take (i + 1) path) x ≡ (has (take i path) x || same_fact x fact)
has_next path i fact x h is =
    let next : i + 1 ≡ suc i = omega arith in
    ap (λ n. has (take n path) x) next
    ∙ (ap (λ p. has p x) (take-suc path i fact h)
    ∙ (list_any-append (same_fact x) (take i path) (get_or path i fact ∷ [])
    ∙ (ap (λ f. has (take i path) x || (same_fact x f || false)) (sym is) ∙ ap (λ b. has (take i path) x || b) (or_none (same_fact x fact)))))

pub gathers_next : (count : ℕ) (path : List Fact) (i : ℕ) (fact : Fact) (old new : List (List ℕ)) → i < length path → fact ≡ get_or path i fact → Gathers count (take i path) old → Gathered fact old new → Gathers count (take (i + 1) path) new
gathers_next count path i fact old new h is before more = record {
  counted = more.counted ∙ before.counted;
  listed = λ n e there.
      more.listed n e (subst (λ k. IsIn k n) (sym before.counted) there)
      ∙ (ap (λ b. b || same_fact (facts.Member e n true) fact) (before.listed n e there) ∙ sym (has_next path i fact (facts.Member e n true) h is));
}

-- one more empty list
pub gathers_none : (count : ℕ) (lists : List (List ℕ)) → Gathers count [] lists → Gathers (count + 1) [] (lists ++ [] ∷ [])
gathers_none count lists g = record {
  counted = length-append lists ([] ∷ []) ∙ ap (λ n. n + 1) g.counted;
  listed = λ n e there. none (lists ++ [] ∷ []) n e (all lists (λ m x is. g.listed m x is) g.counted);
}
  where
    AllEmpty : List (List ℕ) → Type 0
    AllEmpty xs = (k e : ℕ) → is_listed e (list_or_none (slice_get xs k)) ≡ false

    none : (xs : List (List ℕ)) (n e : ℕ) → AllEmpty xs → is_listed e (members_in xs n) ≡ false
    none xs zero e h = refl
    none xs (suc k) e h = h k e

    past : (xs : List (List ℕ)) → AllEmpty xs → AllEmpty (xs ++ [] ∷ [])
    past [] h zero e = refl
    past [] h (suc k) e = refl
    past (x ∷ xs) h zero e = h zero e
    past (x ∷ xs) h (suc k) e = past xs (λ j y. h (suc j) y) k e

    inside : (xs : List (List ℕ)) (k e : ℕ) → ((m x : ℕ) → IsIn (length xs) m → is_listed x (members_in xs m) ≡ false) → (k < length xs) ⊎ (length xs ≤ k) → is_listed e (list_or_none (slice_get xs k)) ≡ false
    inside xs k e h (inl low) = h (suc k) e (omega arith, omega (arith, low))
    inside xs k e h (inr high) = ap (λ o. is_listed e (list_or_none o)) (beyond xs k high)
      where
        beyond : (ys : List (List ℕ)) (j : ℕ) → length ys ≤ j → slice_get ys j ≡ None
        beyond [] j g = refl
        beyond (y ∷ ys) zero g = absurd (omega (arith, g))
        beyond (y ∷ ys) (suc j) g = beyond ys j (omega (arith, g))

    all : (xs : List (List ℕ)) → ((m x : ℕ) → IsIn count m → is_listed x (members_in xs m) ≡ false) → length xs ≡ count → AllEmpty (xs ++ [] ∷ [])
    all xs h same = past xs (λ k e. inside xs k e (λ m x there. h m x (subst (λ c. IsIn c m) same there)) (grind arith))

-- the list that stands at an index
pub members_by : (lists : List (List ℕ)) (n : ℕ) (list : List ℕ) → IsIn (length lists) n → list ≡ get_or lists (n - 1) list → members_in lists n ≡ list
members_by lists n list there is =
    let inside : n - 1 < length lists = omega (arith, there.0, there.1) in
    ap list_or_none (item_by lists n there.0 ∙ slice_get-get_or lists (n - 1) list inside) ∙ sym is
