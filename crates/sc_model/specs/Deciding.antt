-- What is due on a path that is not settled.
use Rattle.std.specs.Prelude.{◌≡◌, ◌≢◌, ◌≤◌, ℕ, Bool, true, false, not, ◌&&◌, ◌||◌, nat_eq, ⊤, List, [], ◌∷◌, length, Option, Some, None, is_some, is_none}
use Rattle.std.specs.List.{list_any, AllByRecursion}
use Rattle.sc_terms.specs.declared.nodes.Formula.{Formula}
use Rattle.sc_terms.specs.declared.nodes.Formula.TheVariants as formulas
use Rattle.sc_terms.specs.declared.problem.Parts.{Parts}
use Rattle.sc_terms.specs.Lookup.{formula_at, is_listed}
use Rattle.sc_terms.specs.Conditions.{IsIn, FormulaIn}
use Rattle.sc_sorts.specs.Posed.{IsIntlessFormula}
use Rattle.sc_facts.specs.declared.fact.Fact.{Fact}
use Rattle.sc_facts.specs.declared.fact.Fact.TheVariants as facts
use Rattle.sc_facts.specs.Facts.{has}
use Rattle.sc_rules.specs.declared.step.PlainStep.{PlainStep}
use Rattle.sc_sorts.specs.Sorts.{may_hold}
use Rattle.sc_rules.specs.Pairs.{equal, same_set}
use Rattle.sc_rules.specs.Members.{within, within_of, op_of, from_single}
use Rattle.sc_rules.specs.Boolean.{sign, sign_of}
use Rattle.sc_rules.specs.Steps.{branches}
use Rattle.sc_classes.specs.Classes.{Merges, least_of}
use Rattle.sc_classes.specs.Explanations.{HoldsPairs}
use Rattle.sc_tree.specs.Events.{HasNoClash}
use Rattle.sc_model.specs.Settled.{Stands, MovesStand, AreToldApart}
use Rattle.sc_model.specs.Modelling.{label_in}
use Rattle.sc_tree.specs.Lean.{brings_more}
use Rattle.sc_model.specs.declared.steps.Due.{Due}
use Rattle.sc_model.specs.declared.steps.Due.TheVariants.{Take, Split}

-- the fact, where it is no row
abbrev pub no_row : Fact → Option Fact
no_row (facts.Row row) = None
no_row fact = Some fact

-- the one fact of the one branch, where it is no row
abbrev pub sole : Option (List (List Fact)) → Option Fact
sole (Some ((fact ∷ []) ∷ [])) = no_row fact
sole _ = None

-- whether there is a fact, and the path lacks it
abbrev pub is_lacking : List Fact → Option Fact → Bool
is_lacking path None = false
is_lacking path (Some fact) = not (has path fact)

-- the step concludes one fact, which is no row and not on the path
abbrev pub Concludes : Parts → List Fact → PlainStep → Type 0
Concludes problem path step = (fact : Fact) × (sole (branches problem path step) ≡ Some fact) × (has path fact ≡ false)

-- the step has two branches, each of which brings a fact that the path lacks
abbrev pub Divides : Parts → List Fact → PlainStep → Type 0
Divides problem path step = (pair : List Fact × List Fact) × (branches problem path step ≡ Some (pair.0 ∷ pair.1 ∷ [])) × (brings_more path pair.0 ≡ true) × (brings_more path pair.1 ≡ true)

-- a step that concludes a new fact, or one whose branches each bring one
abbrev pub IsDue : Parts → List Fact → Due → Type 0
IsDue problem path (Take step) = Concludes problem path step
IsDue problem path (Split step) = Divides problem path step

-- ---- classes and labels
-- The path says of each merged pair that its two are equal, the labels are the least elements of the classes, and elements that the path has as equal have one label.
pub record AreLabelsOf (problem : Parts) (path : List Fact) (merges : Merges) (labels : List ℕ) : Type 0 where
  pub count : merges.count ≡ length problem.elements
  pub stand : HoldsPairs merges.pairs path
  pub least : (e : ℕ) → IsIn (length problem.elements) e → label_in labels e ≡ least_of merges.pairs e
  pub same : (e f : ℕ) → IsIn (length problem.elements) e → IsIn (length problem.elements) f → equal path e f true ≡ true → label_in labels e ≡ label_in labels f

-- ---- signs of formulas
-- the formulas that are parts of a formula
abbrev pub parts_of : Formula → List ℕ
parts_of (formulas.Not f) = f ∷ []
parts_of (formulas.And fs) = fs
parts_of (formulas.Or fs) = fs
parts_of (formulas.Iff f g) = f ∷ g ∷ []
parts_of _ = []

abbrev pub is_unsigned : List Fact → ℕ → Bool
is_unsigned path f = is_none (sign_of path f)

-- one of the formulas, which has no sign, or nothing where each has one
abbrev pub IsUnsignedOf : List Fact → List ℕ → Option ℕ → Type 0
IsUnsignedOf path fs None = list_any (is_unsigned path) fs ≡ false
IsUnsignedOf path fs (Some f) = (is_unsigned path f ≡ true) × (is_listed f fs ≡ true)

-- formula n is this node, which is no inequality, and has this sign; no clash stands
pub record HasSign (problem : Parts) (path : List Fact) (n : ℕ) (node : Formula) (b : Bool) : Type 0 where
  pub at : formula_at problem n ≡ Some node
  pub signed : sign path n b ≡ true
  pub intless : IsIntlessFormula node
  pub inside : FormulaIn problem node
  pub consistent : HasNoClash path

-- ---- equal elements
-- whether x is e, or the path has it as equal to e
abbrev pub is_linked : List Fact → ℕ → ℕ → Bool
is_linked path e x = nat_eq e x || equal path e x true

-- where one of a pair is linked to e, so is the other
abbrev pub PassesOn : List Fact → ℕ → ℕ × ℕ → Type 0
PassesOn path e p = is_linked path e p.0 ≡ is_linked path e p.1

abbrev pub AllPassOn : List Fact → ℕ → List (ℕ × ℕ) → Type 0
AllPassOn path e pairs = AllByRecursion (PassesOn path e) pairs

-- the path's say on e in s is its say on e's label in s
abbrev pub IsLabelled : List Fact → (ℕ → ℕ) → ℕ → ℕ → Type 0
IsLabelled path label e s = (b : Bool) → within_of path e s ≡ Some b → within_of path (label e) s ≡ Some b

-- the path has what follows of e in s from its parts, from its element, and for its label
pub record FollowsAt (problem : Parts) (path : List Fact) (label : ℕ → ℕ) (e s : ℕ) : Type 0 where
  pub op : Stands path (op_of problem path e s 0)
  pub single : Stands path (from_single problem path e s)
  pub labelled : IsLabelled path label e s

-- the same for each element of set s's sort
abbrev pub FollowsIn : Parts → List Fact → (ℕ → ℕ) → ℕ → Type 0
FollowsIn problem path label s = (e : ℕ) → IsIn (length problem.elements) e → may_hold problem s e ≡ true → FollowsAt problem path label e s

-- the path has each element of set s's sort in it or outside it
abbrev pub IsDecidedIn : Parts → List Fact → ℕ → Type 0
IsDecidedIn problem path s = (e : ℕ) → IsIn (length problem.elements) e → may_hold problem s e ≡ true → is_some (within_of path e s) ≡ true

-- where a fact says that two elements differ, their labels do
abbrev pub HasOtherLabels : Parts → (ℕ → ℕ) → Fact → Type 0
HasOtherLabels problem label (facts.Eq e f false) = e ≤ f → IsIn (length problem.elements) e → IsIn (length problem.elements) f → label e ≢ label f
HasOtherLabels problem label _ = ⊤

-- ---- equations of sets
-- whether the path has element e in one of two sets, and not in the other
abbrev pub tells : List Fact → ℕ → ℕ → ℕ → Bool
tells path e s t = (within path e s true && within path e t false) || (within path e s false && within path e t true)

-- whether formula n is an equation of these sets
abbrev pub IsEquation : Parts → ℕ → ℕ → ℕ → Type 0
IsEquation problem n s t = formula_at problem n ≡ Some (formulas.EqSet s t)

-- what follows from two sets that are equal stands
abbrev pub AreMoved : Parts → List Fact → ℕ → ℕ → Type 0
AreMoved problem path s t = (e : ℕ) → IsIn (length problem.elements) e → may_hold problem s e ≡ true → MovesStand path e s t

-- the same at formula n, where it is an equation of sets
abbrev pub HasMoves : Parts → List Fact → ℕ → Type 0
HasMoves problem path n = (s t : ℕ) → IsEquation problem n s t → AreMoved problem path s t

-- no element of the sets' sort tells them apart
abbrev pub AreUntold : Parts → List Fact → ℕ → ℕ → Type 0
AreUntold problem path s t = (e : ℕ) → IsIn (length problem.elements) e → may_hold problem s e ≡ true → tells path e s t ≡ false

-- at formula n, where it is an equation of sets that differ, they are told apart
abbrev pub IsTold : Parts → List Fact → ℕ → Type 0
IsTold problem path n = (s t : ℕ) → IsEquation problem n s t → same_set path s t false ≡ true → AreToldApart problem path s t
