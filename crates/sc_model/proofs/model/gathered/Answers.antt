use Rattle.std.proofs.Common.{◌≡◌, ◌<◌, length, get_or, subst}
use Rattle.sc_model.proofs.Gathering.{gathers_next}
use Rattle.sc_model.proofs.model.gathered.Goals as goal

pub loop-fact-preserved : goal.loop-fact-preserved
loop-fact-preserved c =
    gathers_next (length c.args.problem.now.sets) c.args.path.now.facts c.loop-fact.fact-index c.fact-item.result c.loop-fact.lists.items c.gather.new.lists.items
    (subst (λ fs. c.loop-fact.fact-index < length fs) c.facts-fact-items.ensures.facts c.loop-fact-test.true)
    (subst (λ fs. c.fact-item.result ≡ get_or fs c.loop-fact.fact-index c.fact-item.result) c.facts-fact-items.ensures.facts c.fact-item.is)
    c.loop-fact.invariant c.in_ok-gather.ensures
