-- What lists of integers hold: unions, differences, equal lists, and the least difference.
use Rattle.std.proofs.Common.{◌≡◌, Bool, true, false, not, ◌&&◌, ◌||◌, cond, ℤ, List, [], ◌∷◌, ◌++◌, ◌⊎◌, inl, inr, refl, sym, ap, subst, ◌∙◌}
use Rattle.std.specs.Prelude.{int_lt}
use Rattle.std.specs.List.{list_all}
use Rattle.std.specs.Ordering.{int_eq}
use Rattle.std.proofs.lemmas.Bool.{false≢true}
use Rattle.std.proofs.lemmas.List.Folds.{list_any-append}
use Rattle.sc_base.specs.Integers.{has_element, without}
use Rattle.sc_base.proofs.Bools.{and_true, or_true, or_right}
use Rattle.sc_base.proofs.Integers.{int_eq-same, same-int_eq, has_element-filter}
use Rattle.sc_terms.specs.Meaning.{same_elements, least, least_difference}

pub has_element-without : (xs ys : List ℤ) (x : ℤ) → has_element (without xs ys) x ≡ (has_element xs x && not (has_element ys x))
has_element-without xs ys x = has_element-filter (λ z. not (has_element ys z)) xs x

union_both : (a b : Bool) → (a || (b && not a)) ≡ (a || b)
union_both true b = refl
union_both false true = refl
union_both false false = refl

pub has_element-union : (xs ys : List ℤ) (x : ℤ) → has_element (xs ++ without ys xs) x ≡ (has_element xs x || has_element ys x)
has_element-union xs ys x =
    list_any-append (int_eq x) xs (without ys xs) ∙ ap (λ b. has_element xs x || b) (has_element-without ys xs x) ∙ union_both (has_element xs x) (has_element ys x)

-- ---- equal lists
both_ways : (a b : Bool) → (a ≡ true → b ≡ true) → (b ≡ true → a ≡ true) → a ≡ b
both_ways true b f g = sym (f refl)
both_ways false true f g = g refl
both_ways false false f g = refl

held : (zs xs : List ℤ) → list_all (has_element zs) xs ≡ true → (x : ℤ) → has_element xs x ≡ true → has_element zs x ≡ true
held zs [] h x e = absurd (false≢true e)
held zs (y ∷ ys) h x e =
    let parts = and_true (has_element zs y) (list_all (has_element zs) ys) h in
    elim (or_true (int_eq x y) (has_element ys x) e) [
      | inl a ↦ subst (λ z. has_element zs z ≡ true) (sym (same-int_eq x y a)) parts.0
      | inr b ↦ held zs ys parts.1 x b
    ]

first_held : (x : ℤ) (xs : List ℤ) → has_element (x ∷ xs) x ≡ true
first_held x xs = ap (λ b. b || has_element xs x) (int_eq-same x)

all_held : (zs xs : List ℤ) → ((x : ℤ) → has_element xs x ≡ true → has_element zs x ≡ true) → list_all (has_element zs) xs ≡ true
all_held zs [] h = refl
all_held zs (y ∷ ys) h =
    rw (h y (first_held y ys)) (all_held zs ys (λ x e. h x (or_right (int_eq x y) (has_element ys x) e)))

pub same-holds : (xs ys : List ℤ) → same_elements xs ys ≡ true → (x : ℤ) → has_element xs x ≡ has_element ys x
same-holds xs ys e x =
    let parts = and_true (list_all (has_element ys) xs) (list_all (has_element xs) ys) e in
    both_ways (has_element xs x) (has_element ys x) (held ys xs parts.0 x) (held xs ys parts.1 x)

pub holds-same : (xs ys : List ℤ) → ((x : ℤ) → has_element xs x ≡ has_element ys x) → same_elements xs ys ≡ true
holds-same xs ys h =
    rw (all_held ys xs (λ x e. sym (h x) ∙ e), all_held xs ys (λ x e. h x ∙ e)) refl

and_swap : (a b : Bool) → (a && b) ≡ (b && a)
and_swap true true = refl
and_swap true false = refl
and_swap false true = refl
and_swap false false = refl

pub same_elements-swap : (xs ys : List ℤ) → same_elements xs ys ≡ same_elements ys xs
same_elements-swap xs ys = and_swap (list_all (has_element ys) xs) (list_all (has_element xs) ys)

-- ---- the least difference
either_of : {X : Type 0} (b : Bool) (x y : X) → (cond b x y ≡ y) ⊎ (cond b x y ≡ x)
either_of true x y = inr refl
either_of false x y = inl refl

least_held : (x : ℤ) (xs : List ℤ) → has_element (x ∷ xs) (least (x ∷ xs)) ≡ true
least_held x [] = first_held x []
least_held x (y ∷ ys) =
    elim (either_of (int_lt (least (y ∷ ys)) x) (least (y ∷ ys)) x) [
      | inl e ↦ subst (λ z. has_element (x ∷ y ∷ ys) z ≡ true) (sym e) (first_held x (y ∷ ys))
      | inr e ↦ subst (λ z. has_element (x ∷ y ∷ ys) z ≡ true) (sym e) (or_right (int_eq (least (y ∷ ys)) x) (has_element (y ∷ ys) (least (y ∷ ys))) (least_held y ys))
    ]

kept : (b : Bool) (x : ℤ) (xs : List ℤ) → cond (not b) (x ∷ xs) xs ≡ [] → (b ≡ true) × (xs ≡ [])
kept true x xs e = (refl, e)
kept false x xs e = absurd cc

nothing_outside : (ys xs : List ℤ) → without xs ys ≡ [] → list_all (has_element ys) xs ≡ true
nothing_outside ys [] e = refl
nothing_outside ys (x ∷ xs) e =
    let parts = kept (has_element ys x) x (without xs ys) e in rw (parts.0) (nothing_outside ys xs parts.1)

no_parts : (xs ys : List ℤ) → xs ++ ys ≡ [] → (xs ≡ []) × (ys ≡ [])
no_parts [] ys e = (refl, e)
no_parts (x ∷ xs) ys e = absurd cc

least_there : (zs : List ℤ) → (zs ≡ [] → ⊥) → has_element zs (least zs) ≡ true
least_there [] h = absurd (h refl)
least_there (x ∷ xs) h = least_held x xs

one_of_them : (a b : Bool) → ((a && not b) || (b && not a)) ≡ true → b ≡ not a
one_of_them true true e = sym e
one_of_them true false e = refl
one_of_them false true e = refl
one_of_them false false e = e

-- the least difference of lists that differ is in exactly one of them
pub least_differs : (xs ys : List ℤ) → same_elements xs ys ≡ false → has_element ys (least_difference xs ys) ≡ not (has_element xs (least_difference xs ys))
least_differs xs ys e =
    let d = least_difference xs ys in
    let there : has_element (without xs ys ++ without ys xs) d ≡ true = least_there (without xs ys ++ without ys xs) (λ none.
    let parts = no_parts (without xs ys) (without ys xs) none in
    false≢true (sym e ∙ rw (nothing_outside ys xs parts.0, nothing_outside xs ys parts.1) refl)) in
    let split : ((has_element xs d && not (has_element ys d)) || (has_element ys d && not (has_element xs d))) ≡ has_element (without xs ys ++ without ys xs) d =
    sym (list_any-append (int_eq d) (without xs ys) (without ys xs) ∙ ap (λ b. b || has_element (without ys xs) d) (has_element-without xs ys d) ∙ ap (λ b. (has_element xs d && not (has_element ys d)) || b) (has_element-without ys xs d)) in
    one_of_them (has_element xs d) (has_element ys d) (split ∙ there)
