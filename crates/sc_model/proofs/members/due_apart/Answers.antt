use Rattle.std.proofs.Common.{◌≡◌, ◌<◌, length, get_or, subst}
use Rattle.sc_model.proofs.Telling.{has_item}
use Rattle.sc_model.proofs.members.due_apart.Goals as goal

pub due_apart_of-requires-clause-stands : goal.due_apart_of-requires-clause-stands
due_apart_of-requires-clause-stands c =
    has_item c.args.path.now.facts c.loop-fact.fact-index c.fact-item.result
    (subst (λ fs. c.loop-fact.fact-index < length fs) c.facts-fact-items.ensures.facts c.loop-fact-test.true)
    (subst (λ fs. c.fact-item.result ≡ get_or fs c.loop-fact.fact-index c.fact-item.result) c.facts-fact-items.ensures.facts c.fact-item.is)
