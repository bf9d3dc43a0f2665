-- What a step of one branch concludes is one fact, which is no row.
use Rattle.std.proofs.Common.{◌≡◌, ℕ, Bool, true, false, ◌&&◌, ◌||◌, nat_eq, List, [], ◌∷◌, Option, Some, None, refl}
use Rattle.std.specs.Prelude.{⊤, if◌then◌else◌}
use Rattle.sc_base.specs.Options.{◌>>=◌}
use Rattle.sc_terms.specs.declared.problem.Parts.{Parts}
use Rattle.sc_terms.specs.declared.nodes.Formula.{Formula}
use Rattle.sc_terms.specs.declared.nodes.Formula.TheVariants as formulas
use Rattle.sc_terms.specs.Lookup.{formula_at, set_at, element_at}
use Rattle.sc_facts.specs.declared.fact.Fact.{Fact}
use Rattle.sc_facts.specs.declared.fact.Fact.TheVariants as facts
use Rattle.sc_facts.specs.declared.name.FactName.{FactName}
use Rattle.sc_facts.specs.Facts.{row_in, named}
use Rattle.sc_rules.specs.declared.step.PlainStep.{PlainStep}
use Rattle.sc_rules.specs.declared.step.PlainStep.TheVariants as plain
use Rattle.sc_rules.specs.Pairs.{ordered, equal, equal_of, equal_fact, same_set, same_set_fact}
use Rattle.sc_rules.specs.Boolean.{sign_of, own_sign, part_at, part_sign, parts_sign, atom_with, unit_of, all_of, atom_of}
use Rattle.sc_rules.specs.Members.{within, within_of, op_sign, argument, op_of, single_of, into_single, from_single, carry_of, apart_of, move_of, set_apart_of, reflexive_of, set_reflexive_of, chained, equal_step_of, set_step_of, tells_apart, differing, differ_of}
use Rattle.sc_rules.specs.Steps.{one, names_fact, cut_of, branches}

-- what is there is no row
abbrev IsPlain : Option Fact → Type 0
IsPlain None = ⊤
IsPlain (Some fact) = row_in fact ≡ None

plain-bind : {A : Type 0} (o : Option A) (f : A → Option Fact) → ((x : A) → IsPlain (f x)) → IsPlain (o >>= f)
plain-bind None f h = tt
plain-bind (Some x) f h = h x

plain-if : (b : Bool) (x y : Option Fact) → IsPlain x → IsPlain y → IsPlain (if b then x else y)
plain-if true x y h k = h
plain-if false x y h k = k

stated : (node : Formula) (b : Bool) → IsPlain (atom_with node b)
stated (formulas.Member e s) b = refl
stated (formulas.Eq e f) b = refl
stated (formulas.EqSet s t) b = refl
stated _ b = tt

-- one fact, which is no row
abbrev pub IsOneFact : List Fact → Type 0
IsOneFact bs = (fact : Fact) × (bs ≡ fact ∷ []) × (row_in fact ≡ None)

of_one : (o : Option Fact) → IsPlain o → (bs : List Fact) → one o ≡ Some (bs ∷ []) → IsOneFact bs
of_one None p bs e = absurd cc
of_one (Some fact) p bs e = (fact, cc, p)

no_cut : (b : Bool) (name : FactName) (bs : List Fact) → (if b then Some ((named name true ∷ []) ∷ (named name false ∷ []) ∷ []) else None) ≡ Some (bs ∷ []) → IsOneFact bs
no_cut true name bs e = absurd cc
no_cut false name bs e = absurd cc

no_differ : (o : Option ℕ) (pair : ℕ × ℕ) (bs : List Fact) → (o >>= λ d. Some (tells_apart d pair true ∷ tells_apart d pair false ∷ [])) ≡ Some (bs ∷ []) → IsOneFact bs
no_differ None pair bs e = absurd cc
no_differ (Some d) pair bs e = absurd cc

module _ (problem : Parts) (path : List Fact) where
  atom-plain : (n : ℕ) → IsPlain (atom_of problem path n)
  atom-plain n = plain-bind (formula_at problem n) (λ node. sign_of path n >>= λ s. atom_with node s) (λ node. plain-bind (sign_of path n) (λ s. atom_with node s) (λ s. stated node s))

  all-plain : (n p : ℕ) → IsPlain (all_of problem path n p)
  all-plain n p =
      plain-bind (formula_at problem n) (λ node. parts_sign path n node >>= λ s. part_at node p >>= λ f. Some (facts.Sign f s))
      (λ node. plain-bind (parts_sign path n node) (λ s. part_at node p >>= λ f. Some (facts.Sign f s)) (λ s. plain-bind (part_at node p) (λ f. Some (facts.Sign f s)) (λ f. refl)))

  unit-plain : (n p : ℕ) → IsPlain (unit_of problem path n p)
  unit-plain n p =
      plain-bind (formula_at problem n) (λ node. if nat_eq p 0 then (own_sign path node >>= λ s. Some (facts.Sign n s)) else (part_at node p >>= λ f. part_sign path n node p >>= λ s. Some (facts.Sign f s)))
      (λ node. plain-if (nat_eq p 0) (own_sign path node >>= λ s. Some (facts.Sign n s)) (part_at node p >>= λ f. part_sign path n node p >>= λ s. Some (facts.Sign f s))
      (plain-bind (own_sign path node) (λ s. Some (facts.Sign n s)) (λ s. refl))
      (plain-bind (part_at node p) (λ f. part_sign path n node p >>= λ s. Some (facts.Sign f s)) (λ f. plain-bind (part_sign path n node p) (λ s. Some (facts.Sign f s)) (λ s. refl))))

  op-plain : (e n p : ℕ) → IsPlain (op_of problem path e n p)
  op-plain e n p =
      plain-bind (set_at problem n) (λ node. argument n node p >>= λ s. op_sign problem path e n node p >>= λ b. Some (facts.Member e s b))
      (λ node. plain-bind (argument n node p) (λ s. op_sign problem path e n node p >>= λ b. Some (facts.Member e s b)) (λ s. plain-bind (op_sign problem path e n node p) (λ b. Some (facts.Member e s b)) (λ b. refl)))

  into-plain : (e s : ℕ) → IsPlain (into_single problem path e s)
  into-plain e s = plain-bind (single_of (set_at problem s)) (λ f. equal_of path e f >>= λ b. Some (facts.Member e s b)) (λ f. plain-bind (equal_of path e f) (λ b. Some (facts.Member e s b)) (λ b. refl))

  from-plain : (e s : ℕ) → IsPlain (from_single problem path e s)
  from-plain e s = plain-bind (single_of (set_at problem s)) (λ f. within_of path e s >>= λ b. Some (equal_fact e f b)) (λ f. plain-bind (within_of path e s) (λ b. Some (equal_fact e f b)) (λ b. refl))

  placed-plain : (e s : ℕ) (f : Bool → Fact) → ((b : Bool) → row_in (f b) ≡ None) → IsPlain (within_of path e s >>= λ b. Some (f b))
  placed-plain e s f h = plain-bind (within_of path e s) (λ b. Some (f b)) h

  pub one_fact : (step : PlainStep) (bs : List Fact) → branches problem path step ≡ Some (bs ∷ []) → IsOneFact bs
  one_fact (plain.Atom n) bs e = of_one (atom_of problem path n) (atom-plain n) bs e
  one_fact (plain.All n p) bs e = of_one (all_of problem path n p) (all-plain n p) bs e
  one_fact (plain.Unit n p) bs e = of_one (unit_of problem path n p) (unit-plain n p) bs e
  one_fact (plain.Cut name) bs e = no_cut (names_fact problem name) name bs e
  one_fact (plain.Op x n p) bs e = of_one (op_of problem path x n p) (op-plain x n p) bs e
  one_fact (plain.Single x s) bs e = of_one (into_single problem path x s) (into-plain x s) bs e
  one_fact (plain.Unsingle x s) bs e = of_one (from_single problem path x s) (from-plain x s) bs e
  one_fact (plain.Carry x y s) bs e =
      of_one (carry_of path x y s) (plain-if (equal path x y true) (within_of path x s >>= λ b. Some (facts.Member y s b)) None (placed-plain x s (λ b. facts.Member y s b) (λ b. refl)) tt) bs e
  one_fact (plain.Apart x y s) bs e =
      of_one (apart_of path x y s) (plain-if ((within path x s true && within path y s false) || (within path x s false && within path y s true)) (Some (equal_fact x y false)) None refl tt) bs e
  one_fact (plain.Move x s t) bs e =
      of_one (move_of path x s t) (plain-if (same_set path s t true) (within_of path x s >>= λ b. Some (facts.Member x t b)) None (placed-plain x s (λ b. facts.Member x t b) (λ b. refl)) tt) bs e
  one_fact (plain.SetApart x s t) bs e =
      of_one (set_apart_of path x s t) (plain-if ((within path x s true && within path x t false) || (within path x s false && within path x t true)) (Some (same_set_fact s t false)) None refl tt) bs e
  one_fact (plain.EqRefl x) bs e = of_one (reflexive_of problem x) (plain-bind (element_at problem x) (λ node. Some (facts.Eq x x true)) (λ node. refl)) bs e
  one_fact (plain.EqStep x y z) bs e =
      of_one (equal_step_of path x y z) (plain-bind (chained (equal path x y) (equal path y z)) (λ b. Some (equal_fact x z b)) (λ b. refl)) bs e
  one_fact (plain.SeqRefl s) bs e = of_one (set_reflexive_of problem s) (plain-bind (set_at problem s) (λ node. Some (facts.EqSet s s true)) (λ node. refl)) bs e
  one_fact (plain.SeqStep s t u) bs e =
      of_one (set_step_of path s t u) (plain-bind (chained (same_set path s t) (same_set path t u)) (λ b. Some (same_set_fact s u b)) (λ b. refl)) bs e
  one_fact (plain.Differ s t) bs e = no_differ (differing problem path s t) (ordered s t) bs e
