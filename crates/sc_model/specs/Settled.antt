-- Paths that have all that they call for, and from which a model can be read off.
use Rattle.std.specs.Prelude.{◌≡◌, ◌≢◌, ℕ, Bool, true, false, ◌⊎◌, length, List, Option, None, Some, is_some, ⊤}
use Rattle.std.specs.List.{AllByRecursion}
use Rattle.sc_terms.specs.declared.nodes.Formula.{Formula}
use Rattle.sc_terms.specs.declared.nodes.Formula.TheVariants as formulas
use Rattle.sc_terms.specs.declared.problem.Parts.{Parts}
use Rattle.sc_terms.specs.Lookup.{formula_at}
use Rattle.sc_terms.specs.Conditions.{IsIn}
use Rattle.sc_facts.specs.declared.fact.Fact.{Fact}
use Rattle.sc_facts.specs.declared.fact.Fact.TheVariants as facts
use Rattle.sc_facts.specs.Facts.{has}
use Rattle.sc_sorts.specs.Sorts.{may_hold}
use Rattle.sc_rules.specs.Pairs.{equal, equal_fact, same_set, same_set_fact}
use Rattle.sc_rules.specs.Boolean.{sign, own_sign}
use Rattle.sc_rules.specs.Members.{within, within_of, op_of, from_single, move_of}
use Rattle.sc_tree.specs.Events.{HasNoClash}

-- the path bears out the sign of a formula: any sign of a constant, that of a membership or of an equation by the fact that it states, and any other by the signs of the formula's parts
abbrev pub BearsOut : List Fact → Formula → Bool → Type 0
BearsOut path (formulas.Flag c) b = ⊤
BearsOut path (formulas.Member e s) b = within path e s b ≡ true
BearsOut path (formulas.Eq e f) b = equal path e f b ≡ true
BearsOut path (formulas.EqSet s t) b = same_set path s t b ≡ true
BearsOut path node b = own_sign path node ≡ Some b

-- the path bears out the signs of formula n
abbrev pub IsBorneOut : Parts → List Fact → ℕ → Type 0
IsBorneOut problem path n = (node : Formula) (b : Bool) → formula_at problem n ≡ Some node → sign path n b ≡ true → BearsOut path node b

-- the fact, where there is one, stands on the path
abbrev pub Stands : List Fact → Option Fact → Type 0
Stands path None = ⊤
Stands path (Some fact) = has path fact ≡ true

-- the path has element e in one of two sets, and not in the other
abbrev pub TellsApart : List Fact → ℕ → ℕ → ℕ → Type 0
TellsApart path e s t = ((within path e s true ≡ true) × (within path e t false ≡ true)) ⊎ ((within path e s false ≡ true) × (within path e t true ≡ true))

-- some element, which could be a member of the sets, tells them apart
abbrev pub AreToldApart : Parts → List Fact → ℕ → ℕ → Type 0
AreToldApart problem path s t = (e : ℕ) × (may_hold problem s e ≡ true) × TellsApart path e s t

-- what follows from two sets that are equal, for an element of either
abbrev pub MovesStand : List Fact → ℕ → ℕ → ℕ → Type 0
MovesStand path e s t = Stands path (move_of path e s t) × Stands path (move_of path e t s)

-- The path has the roots, and no clash. It bears out each sign of a formula. Each element is in each set of its sort or outside it, as the operators, the sets of one and the equations of sets that hold demand. Elements that are equal have equal labels, elements that differ have different ones, and those with equal labels are in the same sets. Sets that differ are told apart by an element.
pub record IsSettledBy (problem : Parts) (path : List Fact) (label : ℕ → ℕ) : Type 0 where
  pub roots : AllByRecursion (λ r. sign path r true ≡ true) problem.roots
  pub consistent : HasNoClash path
  pub borne_out : (n : ℕ) → IsBorneOut problem path n
  pub decided : (e s : ℕ) → may_hold problem s e ≡ true → is_some (within_of path e s) ≡ true
  pub ops : (e s : ℕ) → may_hold problem s e ≡ true → Stands path (op_of problem path e s 0)
  pub singles : (e s : ℕ) → may_hold problem s e ≡ true → Stands path (from_single problem path e s)
  pub moves : (n s t e : ℕ) → formula_at problem n ≡ Some (formulas.EqSet s t) → may_hold problem s e ≡ true → MovesStand path e s t
  pub told : (n s t : ℕ) → formula_at problem n ≡ Some (formulas.EqSet s t) → same_set path s t false ≡ true → AreToldApart problem path s t
  pub same : (e f : ℕ) → IsIn (length problem.elements) e → IsIn (length problem.elements) f → equal path e f true ≡ true → label e ≡ label f
  pub apart : (e f : ℕ) → IsIn (length problem.elements) e → IsIn (length problem.elements) f → equal path e f false ≡ true → label e ≢ label f
  pub congruent : (e f s : ℕ) → may_hold problem s e ≡ true → may_hold problem s f ≡ true → label e ≡ label f → within_of path e s ≡ within_of path f s
