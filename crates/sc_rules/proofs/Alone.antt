-- What a step concludes alone.
use Rattle.std.proofs.Common.{◌≡◌, ℕ, Bool, true, false, List, [], ◌∷◌, Option, Some, None, refl}
use Rattle.std.specs.Prelude.{if◌then◌else◌}
use Rattle.sc_base.specs.Options.{◌>>=◌}
use Rattle.sc_terms.specs.declared.problem.Parts.{Parts}
use Rattle.sc_facts.specs.declared.fact.Fact.{Fact}
use Rattle.sc_facts.specs.declared.name.FactName.{FactName}
use Rattle.sc_facts.specs.Facts.{named}
use Rattle.sc_rules.specs.Pairs.{ordered}
use Rattle.sc_rules.specs.Members.{differing, tells_apart, differ_of}
use Rattle.sc_rules.specs.Steps.{one, alone, names_fact, cut_of}

pub alone_one : (fact : Option Fact) → alone (one fact) ≡ fact
alone_one None = refl
alone_one (Some fact) = refl

pub alone_cut : (problem : Parts) (name : FactName) → alone (cut_of problem name) ≡ None
alone_cut problem name = by (names_fact problem name)
  where
    by : (b : Bool) → alone (if b then Some ((named name true ∷ []) ∷ (named name false ∷ []) ∷ []) else None) ≡ None
    by true = refl
    by false = refl

pub alone_differ : (problem : Parts) (path : List Fact) (s t : ℕ) → alone (differ_of problem path s t) ≡ None
alone_differ problem path s t = by (differing problem path s t)
  where
    by : (o : Option ℕ) → alone (o >>= (λ d. Some (tells_apart d (ordered s t) true ∷ tells_apart d (ordered s t) false ∷ []))) ≡ None
    by None = refl
    by (Some d) = refl
