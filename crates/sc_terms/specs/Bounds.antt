-- The bounds that a problem's assertions give its atoms.
use Rattle.std.specs.Prelude.{◌≡◌, ℕ, true, ℤ, pos, ◌+ℤ◌, ◌≤ℤ◌, negsuc, slice_get, List, [], ◌∷◌, Option, Some}
use Rattle.std.proofs.Math.IntN.{neg_ℤ}
use Rattle.sc_terms.specs.declared.atoms.Sign.{Sign}
use Rattle.sc_terms.specs.declared.atoms.Atom.{Atom}
use Rattle.sc_terms.specs.declared.atoms.Atom.TheVariants as atoms
use Rattle.sc_terms.specs.declared.form.Row.{Row}
use Rattle.sc_terms.specs.declared.nodes.Formula.TheVariants as formulas
use Rattle.sc_terms.specs.declared.nodes.SetTerm.{SetTerm}
use Rattle.sc_terms.specs.declared.nodes.SetTerm.TheVariants as sets
use Rattle.sc_terms.specs.declared.problem.Parts.{Parts}
use Rattle.sc_terms.specs.Lookup.{formula_at, set_at, is_listed, component_of, basis_of}
use Rattle.sc_terms.specs.Meaning.{signed_basis, is_plus}

-- z is the least integer of which P holds, or the greatest
pub record IsLeastOf (P : ℤ → Type 0) (z : ℤ) : Type 0 where
  pub is : P z
  pub least : (other : ℤ) → P other → z ≤ℤ other

pub record IsGreatestOf (P : ℤ → Type 0) (z : ℤ) : Type 0 where
  pub is : P z
  pub greatest : (other : ℤ) → P other → other ≤ℤ z

-- Formula n is a root, or a part of an asserted conjunction.
pub data IsAsserted (problem : Parts) : ℕ → Type 0 where
  root : (n : ℕ) → is_listed n problem.roots ≡ true → IsAsserted problem n
  part : (n f : ℕ) (parts : List ℕ) → IsAsserted problem n → formula_at problem n ≡ Some (formulas.And parts) → is_listed f parts ≡ true → IsAsserted problem f

-- that the row is asserted
abbrev pub AssertsRow : Parts → Row → Type 0
AssertsRow problem row = (n : ℕ) × IsAsserted problem n × (formula_at problem n ≡ Some (formulas.Le row))

-- that the atom is at most h, and at least l
abbrev pub at_most : Atom → ℤ → Row
at_most a h = record { form = (pos 1, a) ∷ []; bound = h }

abbrev pub at_least : Atom → ℤ → Row
at_least a l = record { form = (negsuc 0, a) ∷ []; bound = neg_ℤ l }

-- by the assertions the set of a basis has no more than h elements: a constant by the least bound that is asserted, and an empty set and a set of one always
abbrev pub SetHigh : Parts → ℕ → Option SetTerm → ℤ → Type 0
SetHigh problem s (Some (sets.Const c sort)) h = IsLeastOf (λ k. AssertsRow problem (at_most (atoms.Card s) k)) h
SetHigh problem s (Some (sets.Empty sort)) h = h ≡ pos 0
SetHigh problem s (Some (sets.Single e)) h = h ≡ pos 1
SetHigh problem s _ h = ⊥

-- h is the sum of the bounds of all these sets
abbrev pub SumHigh : Parts → List ℕ → ℤ → Type 0
SumHigh problem [] h = h ≡ pos 0
SumHigh problem (s ∷ ss) h = (k : ℤ) × (rest : ℤ) × SetHigh problem s (set_at problem s) k × SumHigh problem ss rest × (h ≡ k +ℤ rest)

-- a set that is no constant, set of one or empty set has the sum of its component's basis
abbrev pub CardHigh : Parts → ℕ → Option SetTerm → ℤ → Type 0
CardHigh problem s (Some (sets.Union a b)) h = (c : ℕ) × (component_of problem s ≡ Some c) × SumHigh problem (basis_of problem c) h
CardHigh problem s (Some (sets.Inter a b)) h = (c : ℕ) × (component_of problem s ≡ Some c) × SumHigh problem (basis_of problem c) h
CardHigh problem s (Some (sets.Minus a b)) h = (c : ℕ) × (component_of problem s ≡ Some c) × SumHigh problem (basis_of problem c) h
CardHigh problem s node h = SetHigh problem s node h

-- The atom has this greatest value by the assertions alone; and this least one.
abbrev pub High : Parts → Atom → ℤ → Type 0
High problem (atoms.Int n) h = IsLeastOf (λ k. AssertsRow problem (at_most (atoms.Int n) k)) h
High problem (atoms.Card s) h = CardHigh problem s (set_at problem s) h
High problem (atoms.Diff e) h = ⊥
High problem (atoms.Size cube) h = IsLeastOf (λ k. (i : ℕ) × (p : ℕ × Sign) × (slice_get (signed_basis problem cube) i ≡ Some p) × (is_plus p.1 ≡ true) × SetHigh problem p.0 (set_at problem p.0) k) h

abbrev pub Low : Parts → Atom → ℤ → Type 0
Low problem (atoms.Int n) l = IsGreatestOf (λ k. AssertsRow problem (at_least (atoms.Int n) k)) l
Low problem (atoms.Card s) l = l ≡ pos 0
Low problem (atoms.Diff e) l = ⊥
Low problem (atoms.Size cube) l = l ≡ pos 0
