use Rattle.sc_branch.proofs.Splitting.{split_allowed}
use Rattle.sc_branch.proofs.branch.Branch.split_by.Goals as goal

pub returns-clause-allowed : goal.returns-clause-allowed
returns-clause-allowed c = split_allowed c.args.problem.now c.args.budget c.args.self.now.path.facts c.args.self.now.steps c.args.step c.requires.on c.requires.divides c.requires.room
