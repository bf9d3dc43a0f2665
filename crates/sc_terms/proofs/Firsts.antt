-- Where the first list, or element, of a kind stands.
use Rattle.std.proofs.Common.{◌≡◌, ℕ, zero, suc, ◌+◌, ◌-◌, ◌<◌, ◌≤◌, Bool, true, false, not, ◌||◌, cond, List, [], ◌∷◌, length, Option, Some, None, refl, sym, ap, subst, ◌∙◌, arith}
use Rattle.std.specs.Prelude.{nat_eq, is_none, IfSome, slice_get}
use Rattle.std.specs.List.{count_by, list_any}
use Rattle.std.proofs.lemmas.List.Sums.{sum_by-cons}
use Rattle.sc_terms.specs.declared.nodes.Element.{Element}
use Rattle.sc_terms.specs.declared.nodes.SetTerm.{SetTerm}
use Rattle.sc_terms.specs.declared.nodes.SetTerm.TheVariants as sets
use Rattle.sc_terms.specs.declared.problem.Parts.{Parts}
use Rattle.sc_terms.proofs.Ranges.{there}
use Rattle.sc_base.specs.Numbered.{item_at}
use Rattle.sc_terms.specs.Lookup.{set_at, element_at, is_listed, list_or_none, sets_of, component_from, component_of, is_empty_set, is_diff_of, is_diff_at, diff_from, diff_of}
use Rattle.sc_terms.specs.Conditions.{IsIn, IsProblem, homes_due}

-- between two numbers, the second excluded
abbrev IsBetween : ℕ → ℕ → ℕ → Type 0
IsBetween low high n = (low ≤ n) × (n < high)

between_cond : (b : Bool) (k n : ℕ) (o : Option ℕ) → IfSome o (IsBetween (k + 1) ((k + 1) + n)) → IfSome (cond b (Some k) o) (IsBetween k (k + suc n))
between_cond true k n o h = (omega arith, omega arith)
between_cond false k n None h = tt
between_cond false k n (Some x) h = (omega arith, omega arith)

component_between : (k : ℕ) (cs : List (List ℕ)) (s : ℕ) → IfSome (component_from k cs s) (IsBetween k (k + length cs))
component_between k [] s = tt
component_between k (c ∷ cs) s = between_cond (is_listed s c) k (length cs) (component_from (k + 1) cs s) (component_between (k + 1) cs s)

diff_between : (k : ℕ) (es : List Element) (s t : ℕ) → IfSome (diff_from k es s t) (IsBetween k (k + length es))
diff_between k [] s t = tt
diff_between k (e ∷ es) s t = between_cond (is_diff_of s t e) k (length es) (diff_from (k + 1) es s t) (diff_between (k + 1) es s t)

from_between : (n : ℕ) (o : Option ℕ) → IfSome o (IsBetween 1 (1 + n)) → IfSome o (IsIn n)
from_between n None h = tt
from_between n (Some x) h = (omega arith, omega arith)

pub component_in : (problem : Parts) (s : ℕ) → IfSome (component_of problem s) (IsIn (length problem.components))
component_in problem s = from_between (length problem.components) (component_of problem s) (component_between 1 problem.components s)

pub diff_in : (problem : Parts) (s t : ℕ) → IfSome (diff_of problem s t) (IsIn (length problem.elements))
diff_in problem s t = from_between (length problem.elements) (diff_of problem s t) (diff_between 1 problem.elements s t)

-- what is found passes the test
module _ {X : Type 0} (passes : Option X → Bool) where
  found_cond : (b : Bool) (k : ℕ) (x : X) (xs : List X) (o : Option ℕ) → passes (Some x) ≡ b → IfSome o (λ n. (k + 1 ≤ n) × (passes (slice_get xs (n - (k + 1))) ≡ true)) → IfSome (cond b (Some k) o) (λ n. (k ≤ n) × (passes (slice_get (x ∷ xs) (n - k)) ≡ true))
  found_cond true k x xs o e h =
      let none : 0 ≡ k - k = omega arith in (omega arith, subst (λ i. passes (slice_get (x ∷ xs) i) ≡ true) none e)
  found_cond false k x xs None e h = tt
  found_cond false k x xs (Some n) e h =
      let low = h.0 in
      let more : suc (n - (k + 1)) ≡ n - k = omega arith in
      (omega arith, subst (λ i. passes (slice_get (x ∷ xs) i) ≡ true) more h.1)

  found_item : (xs : List X) (o : Option ℕ) → IfSome o (λ n. (1 ≤ n) × (passes (slice_get xs (n - 1)) ≡ true)) → IfSome o (λ n. passes (item_at xs n) ≡ true)
  found_item xs None h = tt
  found_item xs (Some zero) h = absurd (omega arith)
  found_item xs (Some (suc n)) h =
      let back : suc n - 1 ≡ n = omega arith in subst (λ i. passes (slice_get xs i) ≡ true) back h.1

component_found_from : (k : ℕ) (cs : List (List ℕ)) (s : ℕ) → IfSome (component_from k cs s) (λ n. (k ≤ n) × (is_listed s (list_or_none (slice_get cs (n - k))) ≡ true))
component_found_from k [] s = tt
component_found_from k (c ∷ cs) s =
    found_cond (λ o. is_listed s (list_or_none o)) (is_listed s c) k c cs (component_from (k + 1) cs s) refl (component_found_from (k + 1) cs s)

pub component_found : (problem : Parts) (s : ℕ) → IfSome (component_of problem s) (λ component. is_listed s (sets_of problem component) ≡ true)
component_found problem s = found_item (λ o. is_listed s (list_or_none o)) problem.components (component_of problem s) (component_found_from 1 problem.components s)

diff_found_from : (k : ℕ) (es : List Element) (s t : ℕ) → IfSome (diff_from k es s t) (λ n. (k ≤ n) × (is_diff_at s t (slice_get es (n - k)) ≡ true))
diff_found_from k [] s t = tt
diff_found_from k (e ∷ es) s t =
    found_cond (is_diff_at s t) (is_diff_of s t e) k e es (diff_from (k + 1) es s t) refl (diff_found_from (k + 1) es s t)

pub diff_found : (problem : Parts) (s t : ℕ) → IfSome (diff_of problem s t) (λ element. is_diff_at s t (element_at problem element) ≡ true)
diff_found problem s t = found_item (is_diff_at s t) problem.elements (diff_of problem s t) (diff_found_from 1 problem.elements s t)

missing_cond : (b c : Bool) (k : ℕ) (o : Option ℕ) → is_none o ≡ not c → is_none (cond b (Some k) o) ≡ not (b || c)
missing_cond true c k o h = refl
missing_cond false c k o h = h

diff_missing_from : (k : ℕ) (es : List Element) (s t : ℕ) → is_none (diff_from k es s t) ≡ not (list_any (is_diff_of s t) es)
diff_missing_from k [] s t = refl
diff_missing_from k (e ∷ es) s t =
    missing_cond (is_diff_of s t e) (list_any (is_diff_of s t) es) k (diff_from (k + 1) es s t) (diff_missing_from (k + 1) es s t)

pub diff_missing : (problem : Parts) (s t : ℕ) → is_none (diff_of problem s t) ≡ not (list_any (is_diff_of s t) problem.elements)
diff_missing problem s t = diff_missing_from 1 problem.elements s t

none_cond : (b : Bool) (k n : ℕ) (o : Option ℕ) → is_none o ≡ nat_eq n 0 → is_none (cond b (Some k) o) ≡ nat_eq (cond b 1 0 + n) 0
none_cond true k n o h = grind arith
none_cond false k n o h =
    let none : n ≡ 0 + n = omega arith in h ∙ ap (λ m. nat_eq m 0) none

none_listed : (k : ℕ) (cs : List (List ℕ)) (s : ℕ) → is_none (component_from k cs s) ≡ nat_eq (count_by (is_listed s) cs) 0
none_listed k [] s = refl
none_listed k (c ∷ cs) s =
    none_cond (is_listed s c) k (count_by (is_listed s) cs) (component_from (k + 1) cs s) (none_listed (k + 1) cs s)
    ∙ ap (λ n. nat_eq n 0) (sym (sum_by-cons (λ c. cond (is_listed s c) 1 0) c cs))

due : (t : SetTerm) → nat_eq (homes_due t) 0 ≡ is_empty_set (Some t)
due (sets.Empty sort) = refl
due _ = refl

pub component_none : (problem : Parts) → IsProblem problem → (s : ℕ) → 0 < s → s ≤ length problem.sets → is_none (component_of problem s) ≡ is_empty_set (set_at problem s)
component_none problem is s p q = at (set_at problem s) refl where
  at : (o : Option SetTerm) → set_at problem s ≡ o → is_none (component_of problem s) ≡ is_empty_set o
  at None e = absurd (there problem.sets s p q e)
  at (Some t) e = none_listed 1 problem.components s ∙ (ap (λ n. nat_eq n 0) (is.homes s t e) ∙ due t)
