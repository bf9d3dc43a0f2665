-- The one fact of the one branch of a step.
use Rattle.std.proofs.Common.{◌≡◌, List, [], ◌∷◌, Option, Some, None, refl}
use Rattle.sc_base.specs.Options.{◌>>=◌}
use Rattle.sc_facts.specs.declared.fact.Fact.{Fact}
use Rattle.sc_rules.specs.Steps.{alone}
use Rattle.sc_model.specs.Deciding.{no_row, sole}

pub sole_alone : (bs : Option (List (List Fact))) → sole bs ≡ (alone bs >>= no_row)
sole_alone None = refl
sole_alone (Some []) = refl
sole_alone (Some ([] ∷ bs)) = refl
sole_alone (Some ((f ∷ g ∷ fs) ∷ bs)) = refl
sole_alone (Some ((f ∷ []) ∷ [])) = refl
sole_alone (Some ((f ∷ []) ∷ c ∷ bs)) = refl
