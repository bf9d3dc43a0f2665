-- The sides of each equation of a stock have their differing element.
use Rattle.std.proofs.Common.{◌≡◌, ℕ, zero, suc, ◌+◌, ◌<◌, Bool, true, false, ◌||◌, ◌&&◌, cond, List, [], ◌∷◌, ◌++◌, map, Some, inl, inr, refl, ap, subst, ◌∙◌, arith}
use Rattle.std.specs.Prelude.{◌≢◌, nat_eq, nat_lt, is_some, slice_get}
use Rattle.std.specs.Bool.{Decides}
use Rattle.std.specs.Cmp.{unsigned_Decides}
use Rattle.std.specs.List.{list_any, flat_map}
use Rattle.std.proofs.lemmas.Bool.{false≢true}
use Rattle.std.proofs.lemmas.List.Folds.{list_any-append}
use Rattle.sc_base.proofs.Bools.{or_right, or_true}
use Rattle.sc_base.specs.Numbered.{item_at}
use Rattle.sc_terms.specs.declared.nodes.Element.{Element}
use Rattle.sc_terms.specs.declared.nodes.Formula.{Formula}
use Rattle.sc_terms.specs.declared.nodes.Formula.TheVariants as formulas
use Rattle.sc_terms.specs.Lookup.{is_diff_of, diff_from}
use Rattle.sc_terms.specs.Same.{both-Decides}
use Rattle.sc_flatten.specs.Classes.{sides_of, same_pair, pairs_of, diff_of_pair}
use Rattle.sc_flatten.specs.Stock.{numbering_of, formulas_by, walked_by}
use Rattle.sc_flatten.specs.Laws.{StocksHaveDiffs}
use Rattle.sc_flatten.proofs.Lists.{or_left, number_same}
use Rattle.sc_flatten.proofs.Firsts.{any-insert_all}
use Rattle.sc_flatten.proofs.Sides.{sides_less, sides_greater}

same_pair-Decides : (p q : ℕ × ℕ) → Decides (same_pair p q) (p ≡ q)
same_pair-Decides p q =
    both-Decides _ _ (unsigned_Decides p.0 q.0) (unsigned_Decides p.1 q.1) (λ e f. λ i. (e i, f i)) (λ e. ap (λ (t : ℕ × ℕ). t.0) e) (λ e. ap (λ (t : ℕ × ℕ). t.1) e)

-- what some element passes is found
some_found : (k : ℕ) (es : List Element) (s t : ℕ) → list_any (is_diff_of s t) es ≡ true → is_some (diff_from k es s t) ≡ true
some_found k [] s t h = absurd (false≢true h)
some_found k (e ∷ es) s t h = go (is_diff_of s t e) h (some_found (k + 1) es s t) where
  go : (b : Bool) → (b || list_any (is_diff_of s t) es) ≡ true → (list_any (is_diff_of s t) es ≡ true → is_some (diff_from (k + 1) es s t) ≡ true) → is_some (cond b (Some k) (diff_from (k + 1) es s t)) ≡ true
  go true h rest = refl
  go false h rest = rest h

-- the element of a pair is that of the two, in either order
abbrev IsPairOf : ℕ → ℕ → ℕ × ℕ → Type 0
IsPairOf s t p = is_diff_of s t (diff_of_pair p) ≡ true

both_true : (a b : Bool) → a ≡ true → b ≡ true → (a && b) ≡ true
both_true true b e f = f
both_true false b e f = absurd (false≢true e)

in_order : (s t : ℕ) → IsPairOf s t (s, t)
in_order s t = or_left (nat_eq s s && nat_eq t t) (nat_eq s t && nat_eq t s) (both_true (nat_eq s s) (nat_eq t t) (number_same s) (number_same t))

turned : (s t : ℕ) → IsPairOf s t (t, s)
turned s t = or_right (nat_eq t s && nat_eq s t) (nat_eq t t && nat_eq s s) (both_true (nat_eq t t) (nat_eq s s) (number_same t) (number_same s))

-- where a pair of the two is among the pairs, its element is among their elements
among_diffs : (s t : ℕ) (p : ℕ × ℕ) (qs : List (ℕ × ℕ)) → IsPairOf s t p → list_any (same_pair p) qs ≡ true → list_any (is_diff_of s t) (map diff_of_pair qs) ≡ true
among_diffs s t p [] is h = absurd (false≢true h)
among_diffs s t p (q ∷ qs) is h =
    elim (or_true (same_pair p q) (list_any (same_pair p) qs) h) [
      | inl e ↦ or_left (is_diff_of s t (diff_of_pair q)) (list_any (is_diff_of s t) (map diff_of_pair qs)) (subst (IsPairOf s t) ((same_pair-Decides p q).0 e) is)
      | inr g ↦ or_right (is_diff_of s t (diff_of_pair q)) (list_any (is_diff_of s t) (map diff_of_pair qs)) (among_diffs s t p qs is g)
    ]

-- a pair that a formula has is among those of all
get_pair : (fs : List Formula) (n : ℕ) (f : Formula) (p : ℕ × ℕ) → slice_get fs n ≡ Some f → sides_of f ≡ p ∷ [] → list_any (same_pair p) (flat_map sides_of fs) ≡ true
get_pair [] n f p at e = absurd cc
get_pair (g ∷ fs) zero f p at e =
    let same : g ≡ f = cc in
    list_any-append (same_pair p) (sides_of g) (flat_map sides_of fs)
    ∙ or_left (list_any (same_pair p) (sides_of g)) (list_any (same_pair p) (flat_map sides_of fs)) (ap (λ h. list_any (same_pair p) (sides_of h)) same ∙ (ap (λ ps. list_any (same_pair p) ps) e ∙ or_left (same_pair p p) false ((same_pair-Decides p p).1 refl)))
get_pair (g ∷ fs) (suc n) f p at e =
    list_any-append (same_pair p) (sides_of g) (flat_map sides_of fs)
    ∙ or_right (list_any (same_pair p) (sides_of g)) (list_any (same_pair p) (flat_map sides_of fs)) (get_pair fs n f p at e)

item_pair : (fs : List Formula) (n : ℕ) (f : Formula) (p : ℕ × ℕ) → item_at fs n ≡ Some f → sides_of f ≡ p ∷ [] → list_any (same_pair p) (pairs_of fs) ≡ true
item_pair fs zero f p at e = absurd cc
item_pair fs (suc n) f p at e = any-insert_all same_pair same_pair-Decides p [] (flat_map sides_of fs) ∙ get_pair fs n f p at e

-- different sides make a pair of one of the two orders
pair_of : (s t : ℕ) → s ≢ t → (p : ℕ × ℕ) × IsPairOf s t p × (sides_of (formulas.EqSet s t) ≡ p ∷ [])
pair_of s t differ =
    elim (nat_lt s t) as (λ b. nat_lt s t ≡ b → (p : ℕ × ℕ) × IsPairOf s t p × (sides_of (formulas.EqSet s t) ≡ p ∷ [])) [
      | true ↦ λ h. let less : s < t = grind arith in ((s, t), in_order s t, sides_less s t less)
      | false ↦ λ h. let more : t < s = grind arith in ((t, s), turned s t, sides_greater s t more)
    ] refl

pub stocks_have_diffs : StocksHaveDiffs
stocks_have_diffs bank assertions n s t at differ =
    let by = numbering_of bank assertions in
    let fs = formulas_by bank by in
    let pair = pair_of s t differ in
    let among = among_diffs s t pair.0 (pairs_of fs) pair.1 (item_pair fs n (formulas.EqSet s t) pair.0 at pair.2) in
    some_found 1 (walked_by bank by ++ map diff_of_pair (pairs_of fs)) s t
    (list_any-append (is_diff_of s t) (walked_by bank by) (map diff_of_pair (pairs_of fs)) ∙ or_right (list_any (is_diff_of s t) (walked_by bank by)) (list_any (is_diff_of s t) (map diff_of_pair (pairs_of fs))) among)
