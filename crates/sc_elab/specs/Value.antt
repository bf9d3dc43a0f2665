-- What a term of a script stands for under an interpretation, where it has no fault: truth values, integers for the elements of declared sorts, and sets.
use Rattle.std.specs.Prelude.{ℕ, Bool, true, false, not, ◌&&◌, ◌||◌, if◌then◌else◌, ℤ, pos, List, [], ◌∷◌, ◌++◌, filter, Option, Some, Result, Ok, Err}
use Rattle.std.specs.List.{list_any, list_all}
use Rattle.std.specs.Ordering.{int_eq}
use Rattle.sc_base.specs.Integers.{has_element, without}
use Rattle.sc_text.specs.declared.code.Code.{Code}
use Rattle.sc_text.specs.declared.token.Kind.{Kind}
use Rattle.sc_text.specs.declared.token.Kind.TheVariants as kind
use Rattle.sc_sexpr.specs.Shapes.{Shape, Single, Listed, Shapes, Empty, More}
use Rattle.sc_terms.specs.declared.nodes.Sort.{Sort}
use Rattle.sc_terms.specs.declared.nodes.Sort.TheVariants as sorts
use Rattle.sc_terms.specs.Same.{same_truth}
use Rattle.sc_terms.specs.Meaning.{Interpretation, same_elements}
use Rattle.sc_stack.specs.declared.stack.Named.{Named}
use Rattle.sc_stack.specs.declared.stack.Named.TheVariants as named
use Rattle.sc_stack.specs.Names.{Names, look_up}
use Rattle.sc_elab.specs.declared.heads.Head.{Head}
use Rattle.sc_elab.specs.declared.heads.Head.TheVariants as heads
use Rattle.sc_elab.specs.declared.words.Operator.{Operator}
use Rattle.sc_elab.specs.declared.words.Operator.TheVariants as op
use Rattle.sc_elab.specs.declared.words.Word.{Word}
use Rattle.sc_elab.specs.declared.words.Word.TheVariants as word
use Rattle.sc_text.specs.Names.{between}
use Rattle.sc_elab.specs.Words.{word_of}
use Rattle.sc_elab.specs.Heads.{head_of}

pub data Worth : Type 0 where
  Truth : Bool → Worth
  Number : ℤ → Worth
  Members : List ℤ → Worth

abbrev pub truth : Worth → Bool
truth (Truth b) = b
truth w = false

abbrev pub number : Worth → ℤ
number (Number z) = z
number w = pos 0

abbrev pub members : Worth → List ℤ
members (Members xs) = xs
members w = []

-- two worths of one sort are equal
abbrev pub same_worth : Worth → Worth → Bool
same_worth (Truth a) (Truth b) = same_truth a b
same_worth (Number a) (Number b) = int_eq a b
same_worth (Members a) (Members b) = same_elements a b
same_worth v w = false

abbrev pub is_member : Worth → Worth → Bool
is_member (Number e) (Members s) = has_element s e
is_member v w = false

-- ---- the operators
-- the last is true, or some earlier one is false
abbrev pub implies : List Worth → Bool
implies [] = true
implies (w ∷ []) = truth w
implies (w ∷ v ∷ ws) = not (truth w) || implies (v ∷ ws)

-- an odd number of b and the others are true
abbrev pub is_odd : Bool → List Worth → Bool
is_odd b [] = b
is_odd b (w ∷ ws) = is_odd (not (same_truth b (truth w))) ws

-- each is equal to the next one
abbrev pub is_chain : List Worth → Bool
is_chain [] = true
is_chain (w ∷ []) = true
is_chain (w ∷ v ∷ ws) = same_worth w v && is_chain (v ∷ ws)

-- no two are equal
abbrev pub are_distinct : List Worth → Bool
are_distinct [] = true
are_distinct (w ∷ ws) = list_all (λ v. not (same_worth w v)) ws && are_distinct ws

-- every member of the first is one of the second
abbrev pub is_subset : List ℤ → List ℤ → Bool
is_subset xs ys = list_all (has_element ys) xs

-- what is in xs or in one of the others
abbrev pub in_some : List ℤ → List Worth → List ℤ
in_some xs [] = xs
in_some xs (w ∷ ws) = in_some (xs ++ without (members w) xs) ws

-- what is in xs and in all the others
abbrev pub in_all : List ℤ → List Worth → List ℤ
in_all xs [] = xs
in_all xs (w ∷ ws) = in_all (filter (has_element (members w)) xs) ws

-- x, and the members of xs other than x
abbrev pub with_member : ℤ → List ℤ → List ℤ
with_member x xs = x ∷ filter (λ y. not (int_eq y x)) xs

-- the set that is the last, with the elements before it
abbrev pub with_members : List Worth → List ℤ
with_members [] = []
with_members (s ∷ []) = members s
with_members (e ∷ w ∷ ws) = with_member (number e) (with_members (w ∷ ws))

-- operators take so many arguments and no other number: see `takes_count`
abbrev pub operator_value : Operator → List Worth → Worth
operator_value op.Not (w ∷ []) = Truth (not (truth w))
operator_value op.Not ws = Truth false
operator_value op.And ws = Truth (list_all truth ws)
operator_value op.Or ws = Truth (list_any truth ws)
operator_value op.Implies ws = Truth (implies ws)
operator_value op.Xor ws = Truth (is_odd false ws)
operator_value op.Equal ws = Truth (is_chain ws)
operator_value op.Distinct ws = Truth (are_distinct ws)
operator_value op.Choice (c ∷ v ∷ w ∷ []) = if truth c then v else w
operator_value op.Choice ws = Truth false
operator_value op.Member (e ∷ s ∷ []) = Truth (is_member e s)
operator_value op.Member ws = Truth false
operator_value op.Subset (s ∷ t ∷ []) = Truth (is_subset (members s) (members t))
operator_value op.Subset ws = Truth false
operator_value op.Union (s ∷ ss) = Members (in_some (members s) ss)
operator_value op.Union [] = Members []
operator_value op.Inter (s ∷ ss) = Members (in_all (members s) ss)
operator_value op.Inter [] = Members []
operator_value op.Minus (s ∷ t ∷ []) = Members (without (members s) (members t))
operator_value op.Minus ws = Members []
operator_value op.Singleton (e ∷ []) = Members (number e ∷ [])
operator_value op.Singleton ws = Members []
operator_value op.Insert ws = Members (with_members ws)

-- ---- terms
abbrev pub constant_value : Interpretation → ℕ → Sort → Worth
constant_value i n sorts.Bool = Truth (i.flags n)
constant_value i n sorts.Int = Number (i.numbers n)
constant_value i n (sorts.Named k) = Number (i.numbers n)
constant_value i n sorts.SetInt = Members (i.sets n)
constant_value i n (sorts.SetNamed k) = Members (i.sets n)

abbrev pub named_value : Interpretation → Option Named → Worth
named_value i (Some (named.Constant n sort)) = constant_value i n sort
named_value i found = Truth false

abbrev pub word_value : Names → Interpretation → Word → List ℕ → Worth
word_value names i word.True name = Truth true
word_value names i word.Free name = named_value i (look_up names name)
word_value names i w name = Truth false

abbrev pub token_value : Names → Interpretation → Kind → List ℕ → Worth
token_value names i kind.Word text = word_value names i (word_of text) text
token_value names i kind.Quoted text = word_value names i (word_of (between text)) (between text)
token_value names i k text = Truth false

abbrev pub list_value : Result Head Code → List Worth → Worth
list_value (Ok (heads.Operator o)) ws = operator_value o ws
list_value (Ok (heads.EmptySet sort)) ws = Members []
list_value (Err fault) ws = Truth false

abbrev mutual
  -- the value of a term where these names are in force
  pub term_value : Names → Interpretation → Shape → Worth
  term_value names i (Single k text start line) = token_value names i k text
  term_value names i (Listed line parts) = list_value (head_of names parts) (values_behind_head names i parts)

  pub values_behind_head : Names → Interpretation → Shapes → List Worth
  values_behind_head names i Empty = []
  values_behind_head names i (More head rest) = values names i rest

  pub values : Names → Interpretation → Shapes → List Worth
  values names i Empty = []
  values names i (More s rest) = term_value names i s ∷ values names i rest
