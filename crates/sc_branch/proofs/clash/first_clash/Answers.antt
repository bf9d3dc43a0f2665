use Rattle.std.proofs.Common.{◌≤◌, length, subst}
use Rattle.sc_branch.proofs.Clashing.{IsClear, all_taken, no_clash}
use Rattle.sc_branch.proofs.clash.first_clash.Goals as goal

pub returns : goal.returns
returns c = no_clash c.args.path.now.facts (all_taken (IsClear c.args.path.now.facts) c.args.path.now.facts c.loop-fact.fact-index (subst (λ fs. length fs ≤ c.loop-fact.fact-index) c.facts-fact-items.ensures.facts c.loop-fact-test.false) c.loop-fact.invariant)
