-- Elaboration: the core formula or the set term of a term, or what is wrong with it first.
--
-- A term is checked depth first: its own shape, the name in front, the number of arguments, the arguments from left to right, the sorts of the arguments, whether the operator is done for them, the depth of the term, and the room in the bank.
use Rattle.std.specs.Prelude.{ℕ, suc, max, Bool, true, false, not, ◌&&◌, nat_lt, if◌then◌else◌, List, [], ◌∷◌, map, Option, Some, None, Result, Ok, Err}
use Rattle.std.specs.List.{list_all}
use Rattle.sc_text.specs.declared.code.Code.{Code}
use Rattle.sc_text.specs.declared.code.Code.TheVariants as code
use Rattle.sc_text.specs.declared.token.Kind.{Kind}
use Rattle.sc_text.specs.declared.token.Kind.TheVariants as kind
use Rattle.sc_text.specs.Names.{is_reserved, between}
use Rattle.sc_sexpr.specs.Shapes.{Shape, Single, Listed, Shapes, Empty, More}
use Rattle.sc_terms.specs.declared.nodes.Node.{Node}
use Rattle.sc_terms.specs.declared.nodes.Node.TheVariants as nodes
use Rattle.sc_terms.specs.declared.nodes.Formula.TheVariants as formulas
use Rattle.sc_terms.specs.declared.nodes.SetTerm.TheVariants as sets
use Rattle.sc_terms.specs.declared.nodes.Element.TheVariants as elements
use Rattle.sc_terms.specs.declared.nodes.Sort.{Sort}
use Rattle.sc_terms.specs.declared.nodes.Sort.TheVariants as sorts
use Rattle.sc_terms.specs.Same.{same_sort}
use Rattle.sc_stack.specs.declared.stack.Named.{Named}
use Rattle.sc_stack.specs.declared.stack.Named.TheVariants as named
use Rattle.sc_stack.specs.Names.{Names, look_up}
use Rattle.sc_elab.specs.declared.meant.Meant.{Meant}
use Rattle.sc_elab.specs.declared.heads.Head.{Head}
use Rattle.sc_elab.specs.declared.heads.Head.TheVariants as heads
use Rattle.sc_elab.specs.declared.words.Operator.{Operator}
use Rattle.sc_elab.specs.declared.words.Operator.TheVariants as op
use Rattle.sc_elab.specs.declared.words.Word.{Word}
use Rattle.sc_elab.specs.declared.words.Word.TheVariants as word
use Rattle.sc_elab.specs.Words.{word_of}
use Rattle.sc_elab.specs.Heads.{head_of}
use Rattle.sc_elab.specs.States.{State, Outcome, Done, Fault, bind, put, put_formula}
use Rattle.sc_elab.specs.Builds.{build}

abbrev pub meant : Sort → ℕ → ℕ → Meant
meant sort depth number = record { sort = sort; number = number; depth = depth }

-- ---- terms of one token, whose depth is 1
abbrev pub leaf_formula : Node → List Node → Outcome Meant
leaf_formula x bank = bind (put x bank) (λ n b. Done (meant sorts.Bool 1 n) b)

-- a term of another sort than Bool has the guard `true`, which is put before it
abbrev pub leaf_value : Sort → Node → List Node → Outcome Meant
leaf_value sort x bank = bind (put_formula formulas.True bank) (λ g b. bind (put x b) (λ n c. Done (meant sort 1 n) c))

-- integers and their sets are not done
abbrev pub constant : ℕ → Sort → List Node → Outcome Meant
constant n sorts.Bool bank = leaf_formula (nodes.Formula (formulas.Flag n)) bank
constant n (sorts.Named k) bank = leaf_value (sorts.Named k) (nodes.Element (elements.Const n (sorts.Named k))) bank
constant n (sorts.SetNamed k) bank = leaf_value (sorts.SetNamed k) (nodes.Set (sets.Const n (sorts.SetNamed k))) bank
constant n sorts.Int bank = Fault code.E8 bank
constant n sorts.SetInt bank = Fault code.E8 bank

-- the empty set of a sort of sets
abbrev pub empty_set : Sort → List Node → Outcome Meant
empty_set (sorts.SetNamed k) bank = leaf_value (sorts.SetNamed k) (nodes.Set (sets.Empty (sorts.SetNamed k))) bank
empty_set sorts.SetInt bank = Fault code.E8 bank
empty_set sorts.Bool bank = Fault code.E8 bank
empty_set sorts.Int bank = Fault code.E8 bank
empty_set (sorts.Named k) bank = Fault code.E8 bank

abbrev pub named_term : Option Named → List Node → Outcome Meant
named_term (Some (named.Constant n sort)) bank = constant n sort bank
named_term (Some (named.Sort n)) bank = Fault code.E6 bank
named_term None bank = Fault code.E6 bank

-- an operator alone has too few arguments, and `set.empty` alone no sort
abbrev pub word_term : Names → Word → List ℕ → List Node → Outcome Meant
word_term names word.True name bank = leaf_formula (nodes.Formula formulas.True) bank
word_term names word.False name bank = leaf_formula (nodes.Formula formulas.False) bank
word_term names (word.Operator o) name bank = Fault code.E7 bank
word_term names word.EmptySet name bank = Fault code.E7 bank
word_term names word.Outside name bank = Fault code.E8 bank
word_term names word.Free name bank = named_term (look_up names name) bank

abbrev pub name_term : Names → List ℕ → List Node → Outcome Meant
name_term names name bank = word_term names (word_of name) name bank

-- numbers are not done; literals and keywords are no terms
abbrev pub token_term : Names → Kind → List ℕ → List Node → Outcome Meant
token_term names kind.Word text bank = if is_reserved text then Fault code.E5 bank else name_term names text bank
token_term names kind.Quoted text bank = name_term names (between text) bank
token_term names kind.Numeral text bank = Fault code.E8 bank
token_term names kind.Foreign text bank = Fault code.E8 bank
token_term names kind.Literal text bank = Fault code.E8 bank
token_term names kind.Keyword text bank = Fault code.E8 bank
token_term names kind.Left text bank = Fault code.E5 bank
token_term names kind.Right text bank = Fault code.E5 bank

-- ---- applications
abbrev pub deepest : List Meant → ℕ
deepest [] = 0
deepest (m ∷ ms) = max m.depth (deepest ms)

abbrev pub numbers : List Meant → List ℕ
numbers ms = map (λ (m : Meant). m.number) ms

abbrev pub all_of : Sort → List Meant → Bool
all_of sort ms = list_all (λ m. same_sort sort m.sort) ms

-- the second is the sort of the sets of the first
abbrev pub is_set_of : Sort → Sort → Bool
is_set_of (sorts.Named k) set = same_sort (sorts.SetNamed k) set
is_set_of sorts.Int set = same_sort sorts.SetInt set
is_set_of sort set = false

-- the sorts of sets, and the sorts whose things are elements of sets
abbrev pub is_sort_of_sets : Sort → Bool
is_sort_of_sets sorts.SetInt = true
is_sort_of_sets (sorts.SetNamed k) = true
is_sort_of_sets sorts.Bool = false
is_sort_of_sets sorts.Int = false
is_sort_of_sets (sorts.Named k) = false

abbrev pub is_sort_of_elements : Sort → Bool
is_sort_of_elements sorts.Int = true
is_sort_of_elements (sorts.Named k) = true
is_sort_of_elements sorts.Bool = false
is_sort_of_elements sorts.SetInt = false
is_sort_of_elements (sorts.SetNamed k) = false

-- the sort of the sets of a sort of elements; other sorts have none, and stand for themselves
abbrev pub sort_of_sets : Sort → Sort
sort_of_sets sorts.Int = sorts.SetInt
sort_of_sets (sorts.Named k) = sorts.SetNamed k
sort_of_sets sort = sort

-- all arguments have one sort
abbrev pub are_alike : List Meant → Bool
are_alike [] = true
are_alike (m ∷ ms) = all_of m.sort ms

abbrev pub is_choice : List Meant → Bool
is_choice (c ∷ s ∷ t ∷ []) = same_sort sorts.Bool c.sort && same_sort s.sort t.sort
is_choice ms = false

abbrev pub is_membership : List Meant → Bool
is_membership (e ∷ s ∷ []) = is_set_of e.sort s.sort
is_membership ms = false

-- all arguments are sets of one sort, and there is one
abbrev pub are_sets : List Meant → Bool
are_sets [] = false
are_sets (m ∷ ms) = is_sort_of_sets m.sort && all_of m.sort ms

abbrev pub is_single : List Meant → Bool
is_single (e ∷ []) = is_sort_of_elements e.sort
is_single ms = false

-- elements of the sort, and then a set of such
abbrev pub are_inserted : Sort → List Meant → Bool
are_inserted sort [] = false
are_inserted sort (s ∷ []) = is_set_of sort s.sort
are_inserted sort (e ∷ m ∷ ms) = same_sort sort e.sort && are_inserted sort (m ∷ ms)

-- the sort of the first argument
abbrev pub first_sort : List Meant → Sort
first_sort [] = sorts.Bool
first_sort (m ∷ ms) = m.sort

-- the sorts of the arguments fit the operator
abbrev pub fits : Operator → List Meant → Bool
fits op.Not ms = all_of sorts.Bool ms
fits op.And ms = all_of sorts.Bool ms
fits op.Or ms = all_of sorts.Bool ms
fits op.Implies ms = all_of sorts.Bool ms
fits op.Xor ms = all_of sorts.Bool ms
fits op.Equal ms = are_alike ms
fits op.Distinct ms = are_alike ms
fits op.Choice ms = is_choice ms
fits op.Member ms = is_membership ms
fits op.Subset ms = are_sets ms
fits op.Union ms = are_sets ms
fits op.Inter ms = are_sets ms
fits op.Minus ms = are_sets ms
fits op.Singleton ms = is_single ms
fits op.Insert ms = are_inserted (first_sort ms) ms

-- the operator is done for arguments of these sorts, where they fit: `ite` of Bool alone, and no equations of integers
abbrev pub is_done : Operator → List Meant → Bool
is_done op.Not ms = true
is_done op.And ms = true
is_done op.Or ms = true
is_done op.Implies ms = true
is_done op.Xor ms = true
is_done op.Equal ms = not (same_sort sorts.Int (first_sort ms))
is_done op.Distinct ms = not (same_sort sorts.Int (first_sort ms))
is_done op.Choice ms = all_of sorts.Bool ms
is_done op.Member ms = true
is_done op.Subset ms = true
is_done op.Union ms = true
is_done op.Inter ms = true
is_done op.Minus ms = true
is_done op.Singleton ms = true
is_done op.Insert ms = true

-- the sort of an application, by the sort of its first argument
abbrev pub sort_made : Operator → Sort → Sort
sort_made op.Not sort = sorts.Bool
sort_made op.And sort = sorts.Bool
sort_made op.Or sort = sorts.Bool
sort_made op.Implies sort = sorts.Bool
sort_made op.Xor sort = sorts.Bool
sort_made op.Equal sort = sorts.Bool
sort_made op.Distinct sort = sorts.Bool
sort_made op.Choice sort = sorts.Bool
sort_made op.Member sort = sorts.Bool
sort_made op.Subset sort = sorts.Bool
sort_made op.Union sort = sort
sort_made op.Inter sort = sort
sort_made op.Minus sort = sort
sort_made op.Singleton sort = sort_of_sets sort
sort_made op.Insert sort = sort_of_sets sort

abbrev pub depth_limit : ℕ
depth_limit = 1000

-- what is wrong with an application whose arguments are elaborated, before its core formula or set term is built
abbrev pub application_fault : Operator → List Meant → Option Code
application_fault o ms =
    if not (fits o ms) then Some code.E7
    else if not (is_done o ms) then Some code.E8
    else if not (nat_lt (deepest ms) depth_limit) then Some (code.E16 depth_limit)
    else None

abbrev pub built : Option Code → Operator → List Meant → List Node → Outcome Meant
built (Some fault) o ms bank = Fault fault bank
built None o ms bank = bind (build o (first_sort ms) (numbers ms) bank) (λ n b. Done (meant (sort_made o (first_sort ms)) (suc (deepest ms)) n) b)

abbrev pub apply : Operator → List Meant → List Node → Outcome Meant
apply o ms bank = built (application_fault o ms) o ms bank

-- a list with its head, over what its arguments come to; an empty set has none
abbrev pub list_term : Result Head Code → (List Node → Outcome (List Meant)) → List Node → Outcome Meant
list_term (Err fault) arguments bank = Fault fault bank
list_term (Ok (heads.Operator o)) arguments bank = bind (arguments bank) (apply o)
list_term (Ok (heads.EmptySet sort)) arguments bank = empty_set sort bank

abbrev mutual
  -- the sort of a term, its node and its depth
  pub term : Names → Shape → List Node → Outcome Meant
  term names (Single k text start line) bank = token_term names k text bank
  term names (Listed line parts) bank = list_term (head_of names parts) (behind_head names parts) bank

  -- the terms behind the head of a list
  pub behind_head : Names → Shapes → List Node → Outcome (List Meant)
  behind_head names Empty bank = Done [] bank
  behind_head names (More head rest) bank = terms names rest bank

  -- each term, from left to right
  pub terms : Names → Shapes → List Node → Outcome (List Meant)
  terms names Empty bank = Done [] bank
  terms names (More s rest) bank = bind (term names s bank) (λ m b. bind (terms names rest b) (λ ms c. Done (m ∷ ms) c))

-- a term that is asserted has the sort Bool
abbrev pub need_bool : Meant → List Node → Outcome ℕ
need_bool m bank = if same_sort sorts.Bool m.sort then Done m.number bank else Fault code.E7 bank

-- the number of the core formula of a term of sort Bool
abbrev pub core : Shape → State → Outcome ℕ
core t s = bind (term s.names t s.bank) need_bool
