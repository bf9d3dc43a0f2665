use Rattle.sc_meaning.proofs.Sets.{same_ascending}
use Rattle.sc_meaning.proofs.node.same_sets.Goals as goal

pub returns : goal.returns
returns c = same_ascending c.args.a.now c.args.b.now c.same.result c.spans-first.ensures.ascending c.spans-second.ensures.ascending c.same.ensures
