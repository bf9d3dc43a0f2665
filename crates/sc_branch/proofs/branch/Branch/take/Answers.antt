use Rattle.std.proofs.Common.{sym}
use Rattle.sc_branch.proofs.Allowed.{taken_held}
use Rattle.sc_branch.proofs.branch.Branch.take.Goals as goal

pub returns-clause-held : goal.returns-clause-held
returns-clause-held c = taken_held c.args.problem.now c.args.budget c.self.inside.about.value c.args.self.now c.self.inside.growing c.attempt-attempt.new.self c.take_chain-chain.new.self c.take_chain-chain.result (sym c.self.view_is) c.self.invariant c.requires.on c.in_ok-attempt.ensures.goes c.take_chain-chain.ensures.chain c.take_chain-chain.ensures.rest
