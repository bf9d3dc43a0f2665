-- The pairs that facts have as equal.
use Rattle.std.proofs.Common.{◌≡◌, ℕ, Bool, true, false, List, [], ◌∷◌, ◌++◌, refl, ap, ◌∙◌}
use Rattle.std.proofs.lemmas.List.{append-nil}
use Rattle.sc_facts.specs.declared.fact.Fact.{Fact}
use Rattle.sc_facts.specs.declared.fact.Fact.TheVariants as facts
use Rattle.sc_facts.specs.Facts.{root_facts}
use Rattle.sc_member.specs.Memberships.{equations}

-- roots have none
pub equations_roots : (roots : List ℕ) → equations (root_facts roots) ≡ []
equations_roots [] = refl
equations_roots (r ∷ roots) = equations_roots roots

-- one more fact behind the others
pub equations_more : (path : List Fact) (fact : Fact) → equations (path ++ fact ∷ []) ≡ equations path ++ equations (fact ∷ [])
equations_more [] fact = refl
equations_more (facts.Eq e f true ∷ path) fact = ap (λ ps. (e, f) ∷ ps) (equations_more path fact)
equations_more (facts.Eq e f false ∷ path) fact = equations_more path fact
equations_more (facts.Sign f b ∷ path) fact = equations_more path fact
equations_more (facts.Member e s b ∷ path) fact = equations_more path fact
equations_more (facts.EqSet s t b ∷ path) fact = equations_more path fact
equations_more (facts.Row row ∷ path) fact = equations_more path fact
equations_more (facts.Empty cube b ∷ path) fact = equations_more path fact

-- a fact that is no equation of elements adds none
pub equations_member : (path : List Fact) (e s : ℕ) (b : Bool) → equations (path ++ facts.Member e s b ∷ []) ≡ equations path
equations_member path e s b = equations_more path (facts.Member e s b) ∙ append-nil (equations path)

pub equations_sets : (path : List Fact) (s t : ℕ) (b : Bool) → equations (path ++ facts.EqSet s t b ∷ []) ≡ equations path
equations_sets path s t b = equations_more path (facts.EqSet s t b) ∙ append-nil (equations path)
