-- The differing elements of a problem, and its components with their bases.
use Rattle.std.specs.Prelude.{ℕ, zero, suc, ◌+◌, Bool, true, false, ◌&&◌, if◌then◌else◌, nat_eq, nat_lt, List, [], ◌∷◌, ◌++◌, length, filter, fold, map, Option, None, Some}
use Rattle.std.specs.List.{flat_map}
use Rattle.indexmap.specs.IndexSet.{insert_all}
use Rattle.sc_base.specs.Numbered.{item_at}
use Rattle.sc_terms.specs.declared.nodes.Element.{Element}
use Rattle.sc_terms.specs.declared.nodes.Element.TheVariants as elements
use Rattle.sc_terms.specs.declared.nodes.Formula.{Formula}
use Rattle.sc_terms.specs.declared.nodes.Formula.TheVariants as formulas
use Rattle.sc_terms.specs.declared.nodes.SetTerm.{SetTerm}
use Rattle.sc_terms.specs.declared.nodes.SetTerm.TheVariants as sets
use Rattle.sc_flatten.specs.Walk.{firsts}

-- ---- differing elements
-- the two sides of an equation of sets, the lower number first, where they differ
abbrev pub sides_of : Formula → List (ℕ × ℕ)
sides_of (formulas.EqSet s t) = if nat_lt s t then (s, t) ∷ [] else (if nat_lt t s then (t, s) ∷ [] else [])
sides_of _ = []

abbrev pub same_pair : ℕ × ℕ → ℕ × ℕ → Bool
same_pair p q = nat_eq p.0 q.0 && nat_eq p.1 q.1

-- each pair of different sides once, in the order of the formulas
abbrev pub pairs_of : List Formula → List (ℕ × ℕ)
pairs_of fs = insert_all same_pair [] (flat_map sides_of fs)

abbrev pub diff_of_pair : ℕ × ℕ → Element
diff_of_pair p = elements.Diff p.0 p.1

-- ---- related set terms
-- the set terms that are arguments of one
abbrev pub set_arguments : SetTerm → List ℕ
set_arguments (sets.Union s t) = s ∷ t ∷ []
set_arguments (sets.Inter s t) = s ∷ t ∷ []
set_arguments (sets.Minus s t) = s ∷ t ∷ []
set_arguments _ = []

-- the first set term has the number k
abbrev pub argument_links : ℕ → List SetTerm → List (ℕ × ℕ)
argument_links k [] = []
argument_links k (s ∷ ss) = map (λ t. (k, t)) (set_arguments s) ++ argument_links (k + 1) ss

abbrev pub side_links : Formula → List (ℕ × ℕ)
side_links (formulas.EqSet s t) = (s, t) ∷ []
side_links _ = []

-- a set term that is no empty set: the empty sets are left aside
abbrev pub has_home : Option SetTerm → Bool
has_home None = false
has_home (Some (sets.Empty sort)) = false
has_home _ = true

abbrev pub is_home : List SetTerm → ℕ → Bool
is_home ss n = has_home (item_at ss n)

abbrev pub links_between : List SetTerm → List (ℕ × ℕ) → List (ℕ × ℕ)
links_between ss links = filter (λ p. is_home ss p.0 && is_home ss p.1) links

abbrev pub links_of : List SetTerm → List Formula → List (ℕ × ℕ)
links_of ss fs = links_between ss (argument_links 1 ss ++ flat_map side_links fs)

-- ---- components
abbrev pub lesser : ℕ → ℕ → ℕ
lesser m n = if nat_lt m n then m else n

abbrev pub greater : ℕ → ℕ → ℕ
greater m n = if nat_lt m n then n else m

-- the least of each class, once the classes of two numbers are one
abbrev pub joined : (ℕ → ℕ) → ℕ × ℕ → ℕ → ℕ
joined least p n = if nat_eq (least n) (greater (least p.0) (least p.1)) then lesser (least p.0) (least p.1) else least n

-- the least number of each number's class, where linked numbers are in one class
abbrev pub least_of : List (ℕ × ℕ) → ℕ → ℕ
least_of links = fold joined (λ n. n) links

-- the numbers from k upward, n of them
abbrev pub numbers_from : ℕ → ℕ → List ℕ
numbers_from k zero = []
numbers_from k (suc n) = k ∷ numbers_from (k + 1) n

-- the set terms that have a component
abbrev pub homes_of : List SetTerm → List ℕ
homes_of ss = filter (is_home ss) (numbers_from 1 (length ss))

-- the numbers in classes by the least number of each one's class: the classes and their numbers in the order of the given ones
abbrev pub classes_of : (ℕ → ℕ) → List ℕ → List (List ℕ)
classes_of least ns = map (λ r. filter (λ n. nat_eq (least n) r) ns) (firsts (map least ns))

-- the classes of related set terms, in the order of their least numbers
abbrev pub components_of : List SetTerm → List Formula → List (List ℕ)
components_of ss fs = classes_of (least_of (links_of ss fs)) (homes_of ss)

-- set constants and sets of one element
abbrev pub is_basic : Option SetTerm → Bool
is_basic (Some (sets.Const c sort)) = true
is_basic (Some (sets.Single e)) = true
is_basic _ = false

abbrev pub basis_in : List SetTerm → List ℕ → List ℕ
basis_in ss component = filter (λ n. is_basic (item_at ss n)) component

abbrev pub bases_of : List SetTerm → List (List ℕ) → List (List ℕ)
bases_of ss components = map (basis_in ss) components
