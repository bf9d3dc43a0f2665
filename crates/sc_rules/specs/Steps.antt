-- The branches of each step, and what it means that they are sound.
use Rattle.std.specs.Prelude.{◌≡◌, Bool, true, false, ◌&&◌, nat_le, if◌then◌else◌, is_some, List, [], ◌∷◌, Option, Some, None, Result, Ok, Err, ⊤}
use Rattle.sc_base.specs.Options.{◌>>=◌}
use Rattle.sc_terms.specs.declared.problem.Parts.{Parts}
use Rattle.sc_terms.specs.Lookup.{formula_at}
use Rattle.sc_terms.specs.Meaning.{Interpretation, Valuation, Fits}
use Rattle.sc_facts.specs.declared.fact.Fact.{Fact}
use Rattle.sc_facts.specs.declared.name.FactName.{FactName}
use Rattle.sc_facts.specs.declared.name.FactName.TheVariants as names
use Rattle.sc_facts.specs.Facts.{named, Hold, OneHolds}
use Rattle.sc_rules.specs.declared.step.PlainStep.{PlainStep}
use Rattle.sc_rules.specs.declared.step.PlainStep.TheVariants as steps
use Rattle.sc_rules.specs.declared.step.Branches.{Branches}
use Rattle.sc_rules.specs.declared.step.Branches.TheVariants.{One, Two}
use Rattle.sc_rules.specs.declared.step.StepError.{StepError}
use Rattle.sc_rules.specs.declared.step.StepError.TheVariants.{NotApplicable, Memory}
use Rattle.sc_sorts.specs.Sorts.{may_hold, elements_alike, sets_alike}
use Rattle.sc_rules.specs.Boolean.{atom_of, all_of, unit_of}
use Rattle.sc_rules.specs.Members.{op_of, into_single, from_single, carry_of, apart_of, move_of, set_apart_of, reflexive_of, set_reflexive_of, equal_step_of, set_step_of, differ_of}

-- the lists of facts of the branches
abbrev pub lists_of : Branches → List (List Fact)
lists_of (One first) = first ∷ []
lists_of (Two first second) = first ∷ second ∷ []

-- one branch with one fact
abbrev pub one : Option Fact → Option (List (List Fact))
one fact = fact >>= λ f. Some ((f ∷ []) ∷ [])

-- the one fact of the one branch
abbrev pub alone : Option (List (List Fact)) → Option Fact
alone (Some ((fact ∷ []) ∷ [])) = Some fact
alone _ = None

-- whether it is the name of a fact on things of the problem: they are there and of matching sorts, and the first number of a pair is at most the second
abbrev pub names_fact : Parts → FactName → Bool
names_fact problem (names.Sign f) = is_some (formula_at problem f)
names_fact problem (names.Member e s) = may_hold problem s e
names_fact problem (names.Eq e f) = nat_le e f && elements_alike problem e f
names_fact problem (names.EqSet s t) = nat_le s t && sets_alike problem s t
names_fact problem (names.Empty cube) = false

-- the fact with a plus, and the fact with a minus
abbrev pub cut_of : Parts → FactName → Option (List (List Fact))
cut_of problem name = if names_fact problem name then Some ((named name true ∷ []) ∷ (named name false ∷ []) ∷ []) else None

-- the branches of a step, or nothing where it does not apply
abbrev pub branches : Parts → List Fact → PlainStep → Option (List (List Fact))
branches problem path (steps.Atom n) = one (atom_of problem path n)
branches problem path (steps.All n p) = one (all_of problem path n p)
branches problem path (steps.Unit n p) = one (unit_of problem path n p)
branches problem path (steps.Cut name) = cut_of problem name
branches problem path (steps.Op e s p) = one (op_of problem path e s p)
branches problem path (steps.Single e s) = one (into_single problem path e s)
branches problem path (steps.Unsingle e s) = one (from_single problem path e s)
branches problem path (steps.Carry e f s) = one (carry_of path e f s)
branches problem path (steps.Apart e f s) = one (apart_of path e f s)
branches problem path (steps.Move e s t) = one (move_of path e s t)
branches problem path (steps.SetApart e s t) = one (set_apart_of path e s t)
branches problem path (steps.EqRefl e) = one (reflexive_of problem e)
branches problem path (steps.EqStep e f g) = one (equal_step_of path e f g)
branches problem path (steps.SeqRefl s) = one (set_reflexive_of problem s)
branches problem path (steps.SeqStep s t u) = one (set_step_of path s t u)
branches problem path (steps.Differ s t) = differ_of problem path s t

-- the result is what is due: the branches where the step applies, else that it does not, unless memory was refused
abbrev pub Gives : Result Branches StepError → Option (List (List Fact)) → Type 0
Gives (Ok b) due = due ≡ Some (lists_of b)
Gives (Err NotApplicable) due = due ≡ None
Gives (Err Memory) due = ⊤

-- where a valuation makes the facts of the path true, it makes all facts of one branch true
abbrev pub StepsAreSound : Type 0
StepsAreSound =
    (problem : Parts) (i : Interpretation) (v : Valuation) → Fits problem i v →
    (path : List Fact) (step : PlainStep) (bs : List (List Fact)) → branches problem path step ≡ Some bs →
    Hold problem v path → OneHolds problem v bs
