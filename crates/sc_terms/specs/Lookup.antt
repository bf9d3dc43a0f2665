-- What a problem holds, by numbers that count from 1.
use Rattle.std.specs.Prelude.{ℕ, ◌+◌, Bool, true, false, ◌||◌, ◌&&◌, nat_eq, if◌then◌else◌, ℤ, List, [], ◌∷◌, Option, None, Some}
use Rattle.std.specs.List.{list_any}
use Rattle.sc_terms.specs.declared.atoms.Atom.{Atom}
use Rattle.sc_terms.specs.declared.atoms.Atom.TheVariants as atoms
use Rattle.sc_terms.specs.declared.nodes.Formula.{Formula}
use Rattle.sc_terms.specs.declared.nodes.Formula.TheVariants as formulas
use Rattle.sc_terms.specs.declared.nodes.SetTerm.{SetTerm}
use Rattle.sc_terms.specs.declared.nodes.SetTerm.TheVariants as sets
use Rattle.sc_terms.specs.declared.nodes.Element.{Element}
use Rattle.sc_terms.specs.declared.nodes.Element.TheVariants as elements
use Rattle.sc_terms.specs.declared.problem.Parts.{Parts}
use Rattle.sc_base.specs.Numbered.{item_at}

abbrev pub formula_at : Parts → ℕ → Option Formula
formula_at problem n = item_at problem.formulas n

abbrev pub set_at : Parts → ℕ → Option SetTerm
set_at problem n = item_at problem.sets n

abbrev pub element_at : Parts → ℕ → Option Element
element_at problem n = item_at problem.elements n

-- whether the number is in the list
abbrev pub is_listed : ℕ → List ℕ → Bool
is_listed n ns = list_any (nat_eq n) ns

-- the number of the first list that has s, where the first of the lists has the number k
abbrev pub component_from : ℕ → List (List ℕ) → ℕ → Option ℕ
component_from k [] s = None
component_from k (c ∷ cs) s = if is_listed s c then Some k else component_from (k + 1) cs s

-- whether there is a set term, and it is an empty set
abbrev pub is_empty_set : Option SetTerm → Bool
is_empty_set (Some (sets.Empty sort)) = true
is_empty_set _ = false

-- the component of a set
abbrev pub component_of : Parts → ℕ → Option ℕ
component_of problem s = component_from 1 problem.components s

abbrev pub list_or_none : Option (List ℕ) → List ℕ
list_or_none None = []
list_or_none (Some xs) = xs

-- the basis of a component
abbrev pub basis_of : Parts → ℕ → List ℕ
basis_of problem component = list_or_none (item_at problem.bases component)

-- the sets of a component
abbrev pub sets_of : Parts → ℕ → List ℕ
sets_of problem component = list_or_none (item_at problem.components component)

-- whether the element is the differing element of s and t, in either order
abbrev pub is_diff_of : ℕ → ℕ → Element → Bool
is_diff_of s t (elements.Diff a b) = (nat_eq a s && nat_eq b t) || (nat_eq a t && nat_eq b s)
is_diff_of s t _ = false

-- whether there is an element, and it is the differing element of s and t
abbrev pub is_diff_at : ℕ → ℕ → Option Element → Bool
is_diff_at s t None = false
is_diff_at s t (Some e) = is_diff_of s t e

abbrev pub diff_from : ℕ → List Element → ℕ → ℕ → Option ℕ
diff_from k [] s t = None
diff_from k (e ∷ es) s t = if is_diff_of s t e then Some k else diff_from (k + 1) es s t

-- the differing element of two sets
abbrev pub diff_of : Parts → ℕ → ℕ → Option ℕ
diff_of problem s t = diff_from 1 problem.elements s t

-- the forms of inequalities, and of Int terms
abbrev pub formula_form : Formula → List (ℤ × Atom)
formula_form (formulas.Le row) = row.form
formula_form _ = []

abbrev pub element_form : Element → List (ℤ × Atom)
element_form (elements.Number affine) = affine.form
element_form _ = []

-- whether the term is the card of one of these sets
abbrev pub is_card_among : List ℕ → ℤ × Atom → Bool
is_card_among among (k, atoms.Card s) = is_listed s among
is_card_among among _ = false

-- whether the problem has a card of one of the component's sets
abbrev pub is_counted : Parts → ℕ → Bool
is_counted problem component =
    list_any (λ f. list_any (is_card_among (sets_of problem component)) (formula_form f)) problem.formulas
    || list_any (λ e. list_any (is_card_among (sets_of problem component)) (element_form e)) problem.elements

-- the constants that a problem names
abbrev pub is_flag : ℕ → Formula → Bool
is_flag c (formulas.Flag d) = nat_eq c d
is_flag c _ = false

abbrev pub is_set_constant : ℕ → SetTerm → Bool
is_set_constant c (sets.Const d sort) = nat_eq c d
is_set_constant c _ = false

abbrev pub is_element_constant : ℕ → Element → Bool
is_element_constant c (elements.Const d sort) = nat_eq c d
is_element_constant c _ = false

abbrev pub is_named : Parts → ℕ → Bool
is_named problem c =
    list_any (is_flag c) problem.formulas || list_any (is_set_constant c) problem.sets || list_any (is_element_constant c) problem.elements || is_listed c problem.ints
