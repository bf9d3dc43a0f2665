-- Steps lead on from where the steps before them led, and add to the path.
use Rattle.std.proofs.Common.{◌≡◌, List, [], ◌∷◌, ◌++◌, Option, Some, None, refl, sym, ◌∙◌, append_assoc, append-nil}
use Rattle.sc_base.specs.Options.{◌>>=◌}
use Rattle.sc_base.proofs.Options.{bind_some}
use Rattle.sc_facts.specs.declared.fact.Fact.{Fact}
use Rattle.sc_deriv.specs.Taking.{concluded, path_from, StepsLeadOn, StepsAdd}

pub steps_lead_on : StepsLeadOn
steps_lead_on problem path [] rest = refl
steps_lead_on problem path (taken ∷ first) rest = by (concluded problem path taken) (λ facts. steps_lead_on problem (path ++ facts) first rest)
  where
    by : (o : Option (List Fact)) → ((facts : List Fact) → path_from problem (path ++ facts) (first ++ rest) ≡ (path_from problem (path ++ facts) first >>= λ new. path_from problem new rest)) → (o >>= λ facts. path_from problem (path ++ facts) (first ++ rest)) ≡ ((o >>= λ facts. path_from problem (path ++ facts) first) >>= λ new. path_from problem new rest)
    by None below = refl
    by (Some facts) below = below facts

same : (path new : List Fact) → Some path ≡ Some new → new ≡ path
same path new e = cc

pub steps_add : StepsAdd
steps_add problem path new [] e = ([], same path new e ∙ sym (append-nil path))
steps_add problem path new (taken ∷ steps) e =
    let facts = bind_some (concluded problem path taken) (λ facts. path_from problem (path ++ facts) steps) new e in
    let more = steps_add problem (path ++ facts.0) new steps facts.2 in
    (facts.0 ++ more.0, more.1 ∙ append_assoc path facts.0 more.0)
