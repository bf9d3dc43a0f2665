-- In a well-sorted problem the sort of each term is found.
use Rattle.std.proofs.Common.{◌≡◌, ℕ, zero, suc, ◌<◌, ◌≤◌, List, length, Option, Some, None, refl, sym, ap, ◌∙◌, subst, arith}
use Rattle.std.specs.Bool.{Decides}
use Rattle.sc_base.specs.Numbered.{item_at}
use Rattle.sc_base.specs.Options.{◌>>=◌}
use Rattle.sc_terms.specs.declared.nodes.Element.{Element}
use Rattle.sc_terms.specs.declared.nodes.Element.TheVariants as elements
use Rattle.sc_terms.specs.declared.nodes.SetTerm.{SetTerm}
use Rattle.sc_terms.specs.declared.nodes.SetTerm.TheVariants as sets
use Rattle.sc_terms.specs.declared.nodes.Sort.{Sort}
use Rattle.sc_terms.specs.declared.problem.Parts.{Parts}
use Rattle.sc_terms.specs.Same.{same_sort-Decides}
use Rattle.sc_terms.specs.Values.{node_count}
use Rattle.sc_terms.proofs.Ranges.{item_in, there, set_in, element_in}
use Rattle.sc_terms.specs.Conditions.{Ranks, SetBelow, ElementBelow, Descends, IsIn, SetIn, ElementIn, IsProblem}
use Rattle.sc_sorts.specs.Sorts.{sorts_within, members_sort_of, element_sort_of, members_sort, element_sort, are_same}
use Rattle.sc_sorts.specs.Sorted.{Sorting, AreSorted, SetIsSorted, ElementIsSorted, SortsAreFound, SortsMatch}

-- what is in range is there
found_in : {X : Type 0} (xs : List X) (n : ℕ) (o : Option X) → IsIn (length xs) n → item_at xs n ≡ o → (x : X) × (item_at xs n ≡ Some x)
found_in xs n None is at = absurd (there xs n is.0 is.1 at)
found_in xs n (Some x) is at = (x, at)

item_there : {X : Type 0} (xs : List X) (n : ℕ) → IsIn (length xs) n → (x : X) × (item_at xs n ≡ Some x)
item_there xs n is = found_in xs n (item_at xs n) is refl

module _ (problem : Parts) (is : IsProblem problem) (ranks : Ranks) (falls : Descends problem (node_count problem) ranks) (by : Sorting) (sorted : AreSorted problem by) where
  record Known (depth : ℕ) : Type 0 where
    members : (n : ℕ) → IsIn (length problem.sets) n → ranks.set n < depth → (sorts_within problem depth).members n ≡ Some (by.members n)
    element : (n : ℕ) → IsIn (length problem.elements) n → ranks.element n < depth → (sorts_within problem depth).element n ≡ Some (by.element n)

  module _ (depth : ℕ) (known : Known depth) where
    set_known : (n r : ℕ) (s : SetTerm) → r ≤ depth → SetIn problem s → SetBelow ranks r s → SetIsSorted by n s → members_sort_of (sorts_within problem depth) s ≡ Some (by.members n)
    set_known n r (sets.Const c sort) le inside below right = right
    set_known n r (sets.Empty sort) le inside below right = right
    set_known n r (sets.Single e) le inside below right = known.element e inside (omega (le, below, arith)) ∙ ap Some right
    set_known n r (sets.Union s t) le inside below right = known.members s inside.0 (omega (le, below.0, arith)) ∙ ap Some right.0
    set_known n r (sets.Inter s t) le inside below right = known.members s inside.0 (omega (le, below.0, arith)) ∙ ap Some right.0
    set_known n r (sets.Minus s t) le inside below right = known.members s inside.0 (omega (le, below.0, arith)) ∙ ap Some right.0

    element_known : (n r : ℕ) (e : Element) → r ≤ depth → ElementIn problem e → ElementBelow problem ranks r e → ElementIsSorted by n e → element_sort_of (sorts_within problem depth) e ≡ Some (by.element n)
    element_known n r (elements.Const c sort) le inside below right = ap Some (sym right)
    element_known n r (elements.Number affine) le inside below right = ap Some (sym right)
    element_known n r (elements.Diff s t) le inside below right = known.members s inside.0 (omega (le, below.0, arith)) ∙ ap Some right.0

    members_known : (n : ℕ) → IsIn (length problem.sets) n → ranks.set n < suc depth → (sorts_within problem (suc depth)).members n ≡ Some (by.members n)
    members_known n inside below =
        let found = item_there problem.sets n inside in
        let s = found.0 in
        ap (λ o. o >>= members_sort_of (sorts_within problem depth)) found.1
        ∙ set_known n (ranks.set n) s (omega (below, arith)) (set_in problem is n s found.1) (falls.sets n s found.1).1 (sorted.sets n s found.1)

    sort_known : (n : ℕ) → IsIn (length problem.elements) n → ranks.element n < suc depth → (sorts_within problem (suc depth)).element n ≡ Some (by.element n)
    sort_known n inside below =
        let found = item_there problem.elements n inside in
        let e = found.0 in
        ap (λ o. o >>= element_sort_of (sorts_within problem depth)) found.1
        ∙ element_known n (ranks.element n) e (omega (below, arith)) (element_in problem is n e found.1) (falls.elements n e found.1).1 (sorted.elements n e found.1)

  all_known : (depth : ℕ) → Known depth
  all_known zero = record { members = λ n inside below. absurd (omega (below, arith)); element = λ n inside below. absurd (omega (below, arith)) }
  all_known (suc depth) = record { members = members_known depth (all_known depth); element = sort_known depth (all_known depth) }

pub sorts_are_found : SortsAreFound
sorts_are_found = record {
  members = λ problem is by sorted n s at. (all_known problem is is.acyclic.0 is.acyclic.1 by sorted (node_count problem)).members n (item_in problem.sets n s at) (is.acyclic.1.sets n s at).0;
  element = λ problem is by sorted n e at. (all_known problem is is.acyclic.0 is.acyclic.1 by sorted (node_count problem)).element n (item_in problem.elements n e at) (is.acyclic.1.elements n e at).0;
}

-- two sorts that are known are found to be the same exactly where they are
match_known : (a b : Option Sort) (x y : Sort) → a ≡ Some x → b ≡ Some y → Decides (are_same a b) (x ≡ y)
match_known None b x y p q = absurd cc
match_known (Some a) None x y p q = absurd cc
match_known (Some a) (Some b) x y p q = subst (λ z. Decides (are_same (Some a) (Some b)) (z ≡ y)) (cc) (subst (λ z. Decides (are_same (Some a) (Some b)) (a ≡ z)) (cc) (same_sort-Decides a b))

pub sorts_match : SortsMatch
sorts_match = record {
  held = λ problem is by sorted s e x y at_s at_e. match_known (members_sort problem s) (element_sort problem e) (by.members s) (by.element e) (sorts_are_found.members problem is by sorted s x at_s) (sorts_are_found.element problem is by sorted e y at_e);
  elements = λ problem is by sorted e f x y at_e at_f. match_known (element_sort problem e) (element_sort problem f) (by.element e) (by.element f) (sorts_are_found.element problem is by sorted e x at_e) (sorts_are_found.element problem is by sorted f y at_f);
  sets = λ problem is by sorted s t x y at_s at_t. match_known (members_sort problem s) (members_sort problem t) (by.members s) (by.members t) (sorts_are_found.members problem is by sorted s x at_s) (sorts_are_found.members problem is by sorted t y at_t);
}
