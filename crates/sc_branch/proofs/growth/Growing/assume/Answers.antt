use Rattle.sc_branch.proofs.Clashing.{clash_added}
use Rattle.sc_branch.proofs.growth.Growing.assume.Goals as goal

pub invariant_of-self-in-None-3 : goal.invariant_of-self-in-None-3
invariant_of-self-in-None-3 c = clash_added c.self.inside.path c.push.new.self c.args.fact c.self.inside.clash c.in_ok-name.name c.clash_of.result c.self.invariant c.in-None.is c.in_ok-push.ensures.ok c.in_ok-name.ensures c.clash_of.ensures
