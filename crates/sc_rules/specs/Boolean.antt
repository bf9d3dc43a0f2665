-- The Boolean steps: what each concludes from the facts of a path, or nothing where its condition fails.
use Rattle.std.specs.Prelude.{ℕ, ◌-◌, Bool, true, false, ◌&&◌, ◌||◌, nat_eq, if◌then◌else◌, List, take, drop, Option, Some, None}
use Rattle.std.specs.List.{list_any, list_all}
use Rattle.sc_terms.specs.declared.nodes.Formula.{Formula}
use Rattle.sc_terms.specs.declared.nodes.Formula.TheVariants as formulas
use Rattle.sc_terms.specs.declared.problem.Parts.{Parts}
use Rattle.sc_base.specs.Numbered.{item_at}
use Rattle.sc_base.specs.Options.{◌>>=◌}
use Rattle.sc_terms.specs.Lookup.{formula_at}
use Rattle.sc_facts.specs.declared.fact.Fact.{Fact}
use Rattle.sc_facts.specs.declared.fact.Fact.TheVariants as facts
use Rattle.sc_facts.specs.Facts.{has}
use Rattle.sc_rules.specs.Pairs.{first_sign, equal_fact, same_set_fact}

-- whether the path gives formula f the sign s
abbrev pub sign : List Fact → ℕ → Bool → Bool
sign path f s = has path (facts.Sign f s)

-- whether the path gives f a sign
abbrev pub sign_of : List Fact → ℕ → Option Bool
sign_of path f = first_sign (sign path f true) (sign path f false)

abbrev pub all_have : List Fact → List ℕ → Bool → Bool
all_have path fs s = list_all (λ f. sign path f s) fs

abbrev pub some_has : List Fact → List ℕ → Bool → Bool
some_has path fs s = list_any (λ f. sign path f s) fs

-- f and g have equal signs, and different signs
abbrev pub agree : List Fact → ℕ → ℕ → Bool
agree path f g = (sign path f true && sign path g true) || (sign path f false && sign path g false)

abbrev pub differ : List Fact → ℕ → ℕ → Bool
differ path f g = (sign path f true && sign path g false) || (sign path f false && sign path g true)

-- the sign that a formula's parts force on it
abbrev pub own_sign : List Fact → Formula → Option Bool
own_sign path formulas.True = Some true
own_sign path formulas.False = Some false
own_sign path (formulas.Not f) = first_sign (sign path f false) (sign path f true)
own_sign path (formulas.And fs) = first_sign (all_have path fs true) (some_has path fs false)
own_sign path (formulas.Or fs) = first_sign (some_has path fs true) (all_have path fs false)
own_sign path (formulas.Iff f g) = first_sign (agree path f g) (differ path f g)
own_sign path _ = None

-- the part of a formula with a number that counts from 1
abbrev pub part_at : Formula → ℕ → Option ℕ
part_at (formulas.Not f) p = if nat_eq p 1 then Some f else None
part_at (formulas.And fs) p = item_at fs p
part_at (formulas.Or fs) p = item_at fs p
part_at (formulas.Iff f g) p = if nat_eq p 1 then Some f else if nat_eq p 2 then Some g else None
part_at _ p = None

-- each formula of the list but the p-th has the sign
abbrev pub others_have : List Fact → List ℕ → ℕ → Bool → Bool
others_have path fs p s = all_have path (take (p - 1) fs) s && all_have path (drop p fs) s

-- the sign that formula n, which is this node, and its other parts force on its p-th part
abbrev pub part_sign : List Fact → ℕ → Formula → ℕ → Option Bool
part_sign path n (formulas.Not f) p = first_sign (sign path n false) (sign path n true)
part_sign path n (formulas.And fs) p = if sign path n false && others_have path fs p true then Some false else None
part_sign path n (formulas.Or fs) p = if sign path n true && others_have path fs p false then Some true else None
part_sign path n (formulas.Iff f g) p = if nat_eq p 1 then first_sign (agree path n g) (differ path n g) else first_sign (agree path n f) (differ path n f)
part_sign path n _ p = None

-- unit n p
abbrev pub unit_of : Parts → List Fact → ℕ → ℕ → Option Fact
unit_of problem path n p = do
  node ← formula_at problem n
  if nat_eq p 0 then (own_sign path node >>= λ s. Some (facts.Sign n s)) else (part_at node p >>= λ f. part_sign path n node p >>= λ s. Some (facts.Sign f s))

-- whether the node is an and with a plus, or an or with a minus, and then the sign of its parts
abbrev pub parts_sign : List Fact → ℕ → Formula → Option Bool
parts_sign path n (formulas.And fs) = if sign path n true then Some true else None
parts_sign path n (formulas.Or fs) = if sign path n false then Some false else None
parts_sign path n _ = None

-- all n p
abbrev pub all_of : Parts → List Fact → ℕ → ℕ → Option Fact
all_of problem path n p = do
  node ← formula_at problem n
  s ← parts_sign path n node
  f ← part_at node p
  Some (facts.Sign f s)

-- the fact that an atomic formula states
abbrev pub atom_with : Formula → Bool → Option Fact
atom_with (formulas.Member e s) b = Some (facts.Member e s b)
atom_with (formulas.Eq e f) b = Some (equal_fact e f b)
atom_with (formulas.EqSet s t) b = Some (same_set_fact s t b)
atom_with _ b = None

-- atom n
abbrev pub atom_of : Parts → List Fact → ℕ → Option Fact
atom_of problem path n = do
  node ← formula_at problem n
  s ← sign_of path n
  atom_with node s
