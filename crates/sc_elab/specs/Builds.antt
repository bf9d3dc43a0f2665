-- The core formulas and set terms that operators make of the numbers of their arguments' nodes. A node's parts are put before it, from left to right.
use Rattle.std.specs.Prelude.{ℕ, List, [], ◌∷◌, ◌++◌, map, zip}
use Rattle.sc_text.specs.declared.code.Code.TheVariants as code
use Rattle.sc_terms.specs.declared.nodes.Node.{Node}
use Rattle.sc_terms.specs.declared.nodes.Formula.{Formula}
use Rattle.sc_terms.specs.declared.nodes.Formula.TheVariants as formulas
use Rattle.sc_terms.specs.declared.nodes.SetTerm.TheVariants as sets
use Rattle.sc_terms.specs.declared.nodes.Sort.{Sort}
use Rattle.sc_terms.specs.declared.nodes.Sort.TheVariants as sorts
use Rattle.sc_elab.specs.declared.set_terms.Join.{Join}
use Rattle.sc_elab.specs.declared.set_terms.Join.TheVariants as joins
use Rattle.sc_elab.specs.declared.words.Operator.{Operator}
use Rattle.sc_elab.specs.declared.words.Operator.TheVariants as op
use Rattle.sc_elab.specs.States.{Outcome, Done, Fault, bind, each, put_formula, put_set}

abbrev pub negation : ℕ → List Node → Outcome ℕ
negation f bank = put_formula (formulas.Not f) bank

abbrev pub disjunction : ℕ → ℕ → List Node → Outcome ℕ
disjunction f g bank = put_formula (formulas.Or (f ∷ g ∷ [])) bank

-- `two` of what is made and of the next number, from left to right
abbrev pub from_left : (ℕ → ℕ → List Node → Outcome ℕ) → ℕ → List ℕ → List Node → Outcome ℕ
from_left two x [] bank = Done x bank
from_left two x (y ∷ ys) bank = bind (two x y bank) (λ n b. from_left two n ys b)

-- `one` of each number but the last, from left to right; then, from the last of these to the first, `two` of it and of what is made
abbrev pub from_right : (ℕ → List Node → Outcome ℕ) → (ℕ → ℕ → List Node → Outcome ℕ) → List ℕ → List Node → Outcome ℕ
from_right one two [] bank = Fault code.E7 bank
from_right one two (x ∷ []) bank = Done x bank
from_right one two (x ∷ y ∷ ys) bank =
    bind (one x bank) (λ n b. bind (from_right one two (y ∷ ys) b) (λ m c. two n m c))

-- from the last of the numbers to the first, `two` of it and of what is made
abbrev pub nested : (ℕ → ℕ → List Node → Outcome ℕ) → List ℕ → ℕ → List Node → Outcome ℕ
nested two [] m bank = Done m bank
nested two (n ∷ ns) m bank = bind (nested two ns m bank) (λ k b. two n k b)

-- `(=> f g .. h)`, grouped from the right: `or (not f)` with what the rest makes
abbrev pub implication : List ℕ → List Node → Outcome ℕ
implication fs bank = from_right negation disjunction fs bank

-- two things of a sort are equal
abbrev pub equal : Sort → ℕ → ℕ → Formula
equal sorts.Bool f g = formulas.Iff f g
equal sorts.Int e f = formulas.Eq e f
equal (sorts.Named k) e f = formulas.Eq e f
equal sorts.SetInt s t = formulas.EqSet s t
equal (sorts.SetNamed k) s t = formulas.EqSet s t

abbrev pub equation : Sort → ℕ × ℕ → List Node → Outcome ℕ
equation sort p bank = put_formula (equal sort p.0 p.1) bank

-- two things of a sort are not equal
abbrev pub difference : Sort → ℕ × ℕ → List Node → Outcome ℕ
difference sort p bank = bind (equation sort p bank) (λ n b. put_formula (formulas.Not n) b)

-- `(xor f g ..)`, grouped from the left
abbrev pub exclusive_or : ℕ → ℕ → List Node → Outcome ℕ
exclusive_or f g bank = difference sorts.Bool (f, g) bank

abbrev pub exclusive : ℕ → List ℕ → List Node → Outcome ℕ
exclusive f fs bank = from_left exclusive_or f fs bank

-- each item with the next one
abbrev pub neighbours : {X : Type 0} → List X → List (X × X)
neighbours [] = []
neighbours (x ∷ xs) = zip (x ∷ xs) xs

-- each item with each later one, those of the first item first
abbrev pub pairs : {X : Type 0} → List X → List (X × X)
pairs [] = []
pairs (x ∷ xs) = map (λ y. (x, y)) xs ++ pairs xs

abbrev pub conjoined : List ℕ → List Node → Outcome ℕ
conjoined fs bank = put_formula (formulas.And fs) bank

-- one formula stands for itself, several for their `and`
abbrev pub conjunction : List ℕ → List Node → Outcome ℕ
conjunction (f ∷ []) bank = Done f bank
conjunction fs bank = conjoined fs bank

-- `(= s t ..)` of things of a sort: all neighbours are equal
abbrev pub chain : Sort → ℕ → List ℕ → List Node → Outcome ℕ
chain sort x xs bank = bind (each (equation sort) (neighbours (x ∷ xs)) bank) conjunction

-- `(distinct s t ..)` of things of a sort: no two are equal
abbrev pub apart : Sort → List ℕ → List Node → Outcome ℕ
apart sort xs bank = bind (each (difference sort) (pairs xs) bank) conjunction

-- `(ite c f g)`: `and (or (not c) f) (or c g)`
abbrev pub choice : ℕ → ℕ → ℕ → List Node → Outcome ℕ
choice c f g bank =
    bind (negation c bank) (λ n b1.
    bind (disjunction n f b1) (λ x b2.
    bind (disjunction c g b2) (λ y b3.
    conjoined (x ∷ y ∷ []) b3)))

-- ---- sets
abbrev pub single : ℕ → List Node → Outcome ℕ
single e bank = put_set (sets.Single e) bank

abbrev pub union : ℕ → ℕ → List Node → Outcome ℕ
union s t bank = put_set (sets.Union s t) bank

-- what is in one of two sets, or in both
abbrev pub joined : Join → ℕ → ℕ → List Node → Outcome ℕ
joined joins.Union s t bank = union s t bank
joined joins.Inter s t bank = put_set (sets.Inter s t) bank

-- `(set.union s t ..)` and `(set.inter s t ..)`, grouped from the left
abbrev pub grouped : Join → ℕ → List ℕ → List Node → Outcome ℕ
grouped join s ss bank = from_left (joined join) s ss bank

-- `(set.insert e .. s)`: the singles from left to right, and then their unions with the set, from the last single to the first
abbrev pub insertion : List ℕ → List Node → Outcome ℕ
insertion args bank = from_right single union args bank

-- `(set.subset s t)` of sets of a sort: `minus s t` is empty
abbrev pub inclusion : Sort → ℕ → ℕ → List Node → Outcome ℕ
inclusion sort s t bank =
    bind (put_set (sets.Minus s t) bank) (λ m b1.
    bind (put_set (sets.Empty sort) b1) (λ e b2.
    put_formula (formulas.EqSet m e) b2))

-- the core formula or set term of an operator with arguments of the right sorts, the first of which has the sort; a wrong number of arguments is a fault
abbrev pub build : Operator → Sort → List ℕ → List Node → Outcome ℕ
build op.Not sort (f ∷ []) bank = put_formula (formulas.Not f) bank
build op.Not sort args bank = Fault code.E7 bank
build op.And sort fs bank = put_formula (formulas.And fs) bank
build op.Or sort fs bank = put_formula (formulas.Or fs) bank
build op.Implies sort fs bank = implication fs bank
build op.Xor sort (f ∷ fs) bank = exclusive f fs bank
build op.Xor sort [] bank = Fault code.E7 bank
build op.Equal sort (x ∷ xs) bank = chain sort x xs bank
build op.Equal sort [] bank = Fault code.E7 bank
build op.Distinct sort xs bank = apart sort xs bank
build op.Choice sort (c ∷ f ∷ g ∷ []) bank = choice c f g bank
build op.Choice sort args bank = Fault code.E7 bank
build op.Member sort (e ∷ s ∷ []) bank = put_formula (formulas.Member e s) bank
build op.Member sort args bank = Fault code.E7 bank
build op.Subset sort (s ∷ t ∷ []) bank = inclusion sort s t bank
build op.Subset sort args bank = Fault code.E7 bank
build op.Union sort (s ∷ ss) bank = grouped joins.Union s ss bank
build op.Union sort [] bank = Fault code.E7 bank
build op.Inter sort (s ∷ ss) bank = grouped joins.Inter s ss bank
build op.Inter sort [] bank = Fault code.E7 bank
build op.Minus sort (s ∷ t ∷ []) bank = put_set (sets.Minus s t) bank
build op.Minus sort args bank = Fault code.E7 bank
build op.Singleton sort (e ∷ []) bank = single e bank
build op.Singleton sort args bank = Fault code.E7 bank
build op.Insert sort args bank = insertion args bank
