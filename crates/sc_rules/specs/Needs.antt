-- The premises of a step: the facts of a path that its condition names, the first on the path where several would do.
use Rattle.std.specs.Prelude.{◌≡◌, ℕ, ◌-◌, Bool, true, false, not, ◌&&◌, nat_eq, nat_lt, if◌then◌else◌, is_some, find, List, [], ◌∷◌, ◌++◌, map, take, drop, Option, Some, None, Result, Ok, Err, ⊤}
use Rattle.std.specs.List.{AllByRecursion}
use Rattle.std.specs.Global.{Vec}
use Rattle.sc_base.specs.Options.{◌>>=◌}
use Rattle.sc_terms.specs.declared.nodes.Formula.{Formula}
use Rattle.sc_terms.specs.declared.nodes.Formula.TheVariants as formulas
use Rattle.sc_terms.specs.declared.nodes.SetTerm.{SetTerm}
use Rattle.sc_terms.specs.declared.nodes.SetTerm.TheVariants as sets
use Rattle.sc_terms.specs.declared.problem.Parts.{Parts}
use Rattle.sc_terms.specs.Lookup.{formula_at, set_at, element_at, diff_of}
use Rattle.sc_facts.specs.declared.fact.Fact.{Fact}
use Rattle.sc_facts.specs.declared.fact.Fact.TheVariants as facts
use Rattle.sc_facts.specs.Facts.{has, first_place}
use Rattle.sc_sorts.specs.Sorts.{may_hold}
use Rattle.sc_rules.specs.declared.premise.Few.{Few}
use Rattle.sc_rules.specs.declared.step.PlainStep.{PlainStep}
use Rattle.sc_rules.specs.declared.step.PlainStep.TheVariants as steps
use Rattle.sc_rules.specs.declared.step.StepError.{StepError}
use Rattle.sc_rules.specs.declared.step.StepError.TheVariants.{NotApplicable, Memory}
use Rattle.sc_rules.specs.Pairs.{equal_fact, same_set_fact}
use Rattle.sc_rules.specs.Boolean.{sign, all_have, part_at, others_have, atom_with}
use Rattle.sc_rules.specs.Members.{single_of}
use Rattle.sc_rules.specs.Steps.{names_fact, branches}

abbrev pub second_fact : Option Fact → List Fact
second_fact None = []
second_fact (Some fact) = fact ∷ []

-- one fact or two as a list, where there are any
abbrev pub found : Option Few → Option (List Fact)
found None = None
found (Some few) = Some (few.first ∷ second_fact few.second)

-- no facts, where a step that needs none applies
abbrev pub no_premises : Bool → Option (List Fact)
no_premises applies = if applies then Some [] else None

-- the fact, where it stands on the path
abbrev pub given : List Fact → Fact → Option (List Fact)
given path fact = if has path fact then Some (fact ∷ []) else None

-- both facts, where both stand on the path
abbrev pub both : List Fact → Fact → Fact → Option (List Fact)
both path first second = if has path first && has path second then Some (first ∷ second ∷ []) else None

-- the first facts, or else the second ones
abbrev pub otherwise : Option (List Fact) → Option (List Fact) → Option (List Fact)
otherwise (Some facts) others = Some facts
otherwise None others = others

-- whether the one place is before the other, or there is no other
abbrev pub is_before : Option ℕ → Option ℕ → Bool
is_before (Some m) (Some n) = nat_lt m n
is_before (Some m) None = true
is_before None other = false

-- the earlier of the best fact so far and one more, where that stands on the path
abbrev pub earlier : List Fact → Option Fact → Fact → Option Fact
earlier path None fact = if has path fact then Some fact else None
earlier path (Some best) fact = if is_before (first_place path fact) (first_place path best) then Some fact else Some best

abbrev pub listed : Option Fact → Option (List Fact)
listed None = None
listed (Some fact) = Some (fact ∷ [])

-- the earliest of the facts that stand on the path, or of these and the best so far
abbrev pub earliest : List Fact → Option Fact → List Fact → Option Fact
earliest path best [] = best
earliest path best (fact ∷ facts) = earliest path (earlier path best fact) facts

-- the one of two facts that stands first on the path
abbrev pub either : List Fact → Fact → Fact → Option (List Fact)
either path first second = listed (earliest path None (first ∷ second ∷ []))

-- that each formula has the sign
abbrev pub signs : List ℕ → Bool → List Fact
signs [] s = []
signs (f ∷ fs) s = facts.Sign f s ∷ signs fs s

-- that all formulas have the sign, where they do
abbrev pub all_given : List Fact → List ℕ → Bool → Option (List Fact)
all_given path fs s = if all_have path fs s then Some (signs fs s) else None

-- the first fact on the path that gives one of the formulas the sign
abbrev pub some_given : List Fact → List ℕ → Bool → Option (List Fact)
some_given path fs s = listed (earliest path None (signs fs s))

-- the sign of a formula, a plus where both stand
abbrev pub signed : List Fact → ℕ → Option (List Fact)
signed path f = otherwise (given path (facts.Sign f true)) (given path (facts.Sign f false))

-- the same, a minus where both stand
abbrev pub denied : List Fact → ℕ → Option (List Fact)
denied path f = otherwise (given path (facts.Sign f false)) (given path (facts.Sign f true))

-- that f and g have equal signs, and that they have different signs
abbrev pub agreeing : List Fact → ℕ → ℕ → Option (List Fact)
agreeing path f g = otherwise (both path (facts.Sign f true) (facts.Sign g true)) (both path (facts.Sign f false) (facts.Sign g false))

abbrev pub differing_signs : List Fact → ℕ → ℕ → Option (List Fact)
differing_signs path f g = otherwise (both path (facts.Sign f true) (facts.Sign g false)) (both path (facts.Sign f false) (facts.Sign g true))

-- the signs of f and g
abbrev pub signed_pair : List Fact → ℕ → ℕ → Option (List Fact)
signed_pair path f g = otherwise (agreeing path f g) (differing_signs path f g)

-- what forces the sign of this formula
abbrev pub own_premises : List Fact → Formula → Option (List Fact)
own_premises path formulas.True = Some []
own_premises path formulas.False = Some []
own_premises path (formulas.Not f) = denied path f
own_premises path (formulas.And fs) = otherwise (all_given path fs true) (some_given path fs false)
own_premises path (formulas.Or fs) = otherwise (some_given path fs true) (all_given path fs false)
own_premises path (formulas.Iff f g) = signed_pair path f g
own_premises path _ = None

-- that formula n has the one sign, and each formula of the list but the p-th the other
abbrev pub all_but : List Fact → ℕ → List ℕ → ℕ → Bool → Option (List Fact)
all_but path n fs p s =
    if sign path n s && others_have path fs p (not s) then Some (facts.Sign n s ∷ signs (take (p - 1) fs) (not s) ++ signs (drop p fs) (not s)) else None

-- what forces the sign of the p-th part of formula n, which is this node
abbrev pub part_premises : List Fact → ℕ → Formula → ℕ → Option (List Fact)
part_premises path n (formulas.Not f) p = denied path n
part_premises path n (formulas.And fs) p = all_but path n fs p false
part_premises path n (formulas.Or fs) p = all_but path n fs p true
part_premises path n (formulas.Iff f g) p = if nat_eq p 1 then signed_pair path n g else signed_pair path n f
part_premises path n _ p = None

-- unit n p
abbrev pub unit_premises : Parts → List Fact → ℕ → ℕ → Option (List Fact)
unit_premises problem path n p = do
  node ← formula_at problem n
  if nat_eq p 0 then own_premises path node else (part_at node p >>= λ f. part_premises path n node p)

-- the plus of an and, the minus of an or
abbrev pub parts_premises : List Fact → ℕ → Formula → Option (List Fact)
parts_premises path n (formulas.And fs) = given path (facts.Sign n true)
parts_premises path n (formulas.Or fs) = given path (facts.Sign n false)
parts_premises path n _ = None

-- all n p
abbrev pub all_premises : Parts → List Fact → ℕ → ℕ → Option (List Fact)
all_premises problem path n p = do
  node ← formula_at problem n
  f ← part_at node p
  parts_premises path n node

-- atom n
abbrev pub atom_premises : Parts → List Fact → ℕ → Option (List Fact)
atom_premises problem path n = do
  node ← formula_at problem n
  fact ← atom_with node true
  signed path n

-- where e is said to be in s or outside it, inside where both are said
abbrev pub placed_in : List Fact → ℕ → ℕ → Option (List Fact)
placed_in path e s = otherwise (given path (facts.Member e s true)) (given path (facts.Member e s false))

-- what forces a membership of e at place p of set term n, which is made of a and b
abbrev pub union_premises : List Fact → ℕ → ℕ → ℕ → ℕ → ℕ → Option (List Fact)
union_premises path e n a b p =
    if nat_eq p 0 then otherwise (either path (facts.Member e a true) (facts.Member e b true)) (both path (facts.Member e a false) (facts.Member e b false))
    else if nat_eq p 1 then otherwise (both path (facts.Member e n true) (facts.Member e b false)) (given path (facts.Member e n false))
    else if nat_eq p 2 then otherwise (both path (facts.Member e n true) (facts.Member e a false)) (given path (facts.Member e n false))
    else None

abbrev pub inter_premises : List Fact → ℕ → ℕ → ℕ → ℕ → ℕ → Option (List Fact)
inter_premises path e n a b p =
    if nat_eq p 0 then otherwise (both path (facts.Member e a true) (facts.Member e b true)) (either path (facts.Member e a false) (facts.Member e b false))
    else if nat_eq p 1 then otherwise (given path (facts.Member e n true)) (both path (facts.Member e n false) (facts.Member e b true))
    else if nat_eq p 2 then otherwise (given path (facts.Member e n true)) (both path (facts.Member e n false) (facts.Member e a true))
    else None

abbrev pub minus_premises : List Fact → ℕ → ℕ → ℕ → ℕ → ℕ → Option (List Fact)
minus_premises path e n a b p =
    if nat_eq p 0 then otherwise (both path (facts.Member e a true) (facts.Member e b false)) (either path (facts.Member e a false) (facts.Member e b true))
    else if nat_eq p 1 then otherwise (given path (facts.Member e n true)) (both path (facts.Member e n false) (facts.Member e b false))
    else if nat_eq p 2 then otherwise (both path (facts.Member e n false) (facts.Member e a true)) (given path (facts.Member e n true))
    else None

-- the same, of set term n, which is this term and not empty
abbrev pub operator_premises : List Fact → ℕ → ℕ → SetTerm → ℕ → Option (List Fact)
operator_premises path e n (sets.Union a b) p = union_premises path e n a b p
operator_premises path e n (sets.Inter a b) p = inter_premises path e n a b p
operator_premises path e n (sets.Minus a b) p = minus_premises path e n a b p
operator_premises path e n _ p = None

-- the same, of any term; what could be a member is outside the empty set without premises
abbrev pub term_premises : Parts → List Fact → ℕ → ℕ → SetTerm → ℕ → Option (List Fact)
term_premises problem path e n (sets.Empty sort) p = no_premises (nat_eq p 0 && may_hold problem n e)
term_premises problem path e n node p = operator_premises path e n node p

-- op e n p
abbrev pub op_premises : Parts → List Fact → ℕ → ℕ → ℕ → Option (List Fact)
op_premises problem path e n p = set_at problem n >>= λ node. term_premises problem path e n node p

-- single e s
abbrev pub into_single_premises : Parts → List Fact → ℕ → ℕ → Option (List Fact)
into_single_premises problem path e s = do
  f ← single_of (set_at problem s)
  otherwise (given path (equal_fact e f true)) (given path (equal_fact e f false))

-- unsingle e s
abbrev pub from_single_premises : Parts → List Fact → ℕ → ℕ → Option (List Fact)
from_single_premises problem path e s = do
  f ← single_of (set_at problem s)
  placed_in path e s

-- the fact, and where e is said to be in s or outside it
abbrev pub with_placed : List Fact → Fact → ℕ → ℕ → Option (List Fact)
with_placed path fact e s = otherwise (both path fact (facts.Member e s true)) (both path fact (facts.Member e s false))

-- that e is in s and f outside t, or the reverse
abbrev pub on_both_sides : List Fact → ℕ → ℕ → ℕ → ℕ → Option (List Fact)
on_both_sides path e s f t = otherwise (both path (facts.Member e s true) (facts.Member f t false)) (both path (facts.Member e s false) (facts.Member f t true))

-- what is said of two pairs, which are equal but for one at most
abbrev pub chain_premises : List Fact → (Bool → Fact) → (Bool → Fact) → Option (List Fact)
chain_premises path first second =
    otherwise (both path (first true) (second true)) (otherwise (both path (first true) (second false)) (both path (first false) (second true)))

-- differ s t
abbrev pub differ_premises : Parts → List Fact → ℕ → ℕ → Option (List Fact)
differ_premises problem path s t = diff_of problem s t >>= λ d. given path (same_set_fact s t false)

-- those of a step that has one premise or two
abbrev pub few_premises : Parts → List Fact → PlainStep → Option (List Fact)
few_premises problem path (steps.Atom n) = atom_premises problem path n
few_premises problem path (steps.All n p) = all_premises problem path n p
few_premises problem path (steps.Single e s) = into_single_premises problem path e s
few_premises problem path (steps.Unsingle e s) = from_single_premises problem path e s
few_premises problem path (steps.Carry e f s) = with_placed path (equal_fact e f true) e s
few_premises problem path (steps.Apart e f s) = on_both_sides path e s f s
few_premises problem path (steps.Move e s t) = with_placed path (same_set_fact s t true) e s
few_premises problem path (steps.SetApart e s t) = on_both_sides path e s e t
few_premises problem path (steps.EqStep e f g) = chain_premises path (equal_fact e f) (equal_fact f g)
few_premises problem path (steps.SeqStep s t u) = chain_premises path (same_set_fact s t) (same_set_fact t u)
few_premises problem path (steps.Differ s t) = differ_premises problem path s t
few_premises problem path _ = None

-- the premises of a step on a path, in the order in which its condition names them, or nothing where the step does not apply
abbrev pub premises : Parts → List Fact → PlainStep → Option (List Fact)
premises problem path (steps.Unit n p) = unit_premises problem path n p
premises problem path (steps.Cut name) = no_premises (names_fact problem name)
premises problem path (steps.Op e s p) = op_premises problem path e s p
premises problem path (steps.EqRefl e) = no_premises (is_some (element_at problem e))
premises problem path (steps.SeqRefl s) = no_premises (is_some (set_at problem s))
premises problem path step = few_premises problem path step

-- the places with the first places of more facts behind them, or nothing where one of the facts does not stand on the path
abbrev pub places_from : List Fact → List ℕ → List Fact → Option (List ℕ)
places_from path places [] = Some places
places_from path places (fact ∷ facts) = first_place path fact >>= λ place. places_from path (places ++ place ∷ []) facts

-- the first places, from 0, of the premises of a step
abbrev pub premise_places : Parts → List Fact → PlainStep → Option (List ℕ)
premise_places problem path step = premises problem path step >>= places_from path []

-- the result is the list that is due, or that the step does not apply where none is, unless memory was refused
abbrev pub IsDue : Result (List Fact) StepError → Option (List Fact) → Type 0
IsDue (Ok xs) due = due ≡ Some xs
IsDue (Err NotApplicable) due = due ≡ None
IsDue (Err Memory) due = ⊤

abbrev pub IsDuePlaces : Result (Vec ℕ) StepError → Option (List ℕ) → Type 0
IsDuePlaces (Ok places) due = due ≡ Some places.items
IsDuePlaces (Err NotApplicable) due = due ≡ None
IsDuePlaces (Err Memory) due = ⊤

-- all these facts stand on the path
abbrev pub AllStand : List Fact → List Fact → Type 0
AllStand path facts = AllByRecursion (λ fact. has path fact ≡ true) facts

-- a list of facts of the path that has the premises of a step has the step's branches
abbrev pub PremisesKeepSteps : Type 0
PremisesKeepSteps =
    (problem : Parts) (path part : List Fact) → ((fact : Fact) → has part fact ≡ true → has path fact ≡ true) →
    (step : PlainStep) (needed : List Fact) → premises problem path step ≡ Some needed → AllStand part needed →
    branches problem part step ≡ branches problem path step

-- the premises of a step stand on the path
abbrev pub PremisesStand : Type 0
PremisesStand =
    (problem : Parts) (path : List Fact) (step : PlainStep) (needed : List Fact) → premises problem path step ≡ Some needed → AllStand path needed

-- there are premises exactly where the step applies
abbrev pub PremisesWhereStepsApply : Type 0
PremisesWhereStepsApply =
    (problem : Parts) (path : List Fact) (step : PlainStep) → is_some (premises problem path step) ≡ is_some (branches problem path step)

-- the premises of a step have first places on the path, which are those that are told
abbrev pub PremisesHavePlaces : Type 0
PremisesHavePlaces =
    (problem : Parts) (path : List Fact) (step : PlainStep) (needed : List Fact) → premises problem path step ≡ Some needed →
    (places : List ℕ) × (premise_places problem path step ≡ Some places) × (map (first_place path) needed ≡ map Some places)

-- the earliest of some facts is the first fact of the path that is one of them
abbrev pub EarliestIsFirst : Type 0
EarliestIsFirst = (path candidates : List Fact) → earliest path None candidates ≡ find (has candidates) path
