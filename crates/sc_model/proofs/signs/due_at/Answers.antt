use Rattle.std.proofs.Common.{sym}
use Rattle.sc_model.specs.Deciding.{IsDue}
use Rattle.sc_model.proofs.Forcing.{due_is, borne_out}
use Rattle.sc_model.proofs.signs.due_at.Goals as goal

pub returns-in-Some : goal.returns-in-Some
returns-in-Some c = due_is (IsDue c.args.problem.now c.args.path.now.facts) c.due_of.result (borne_out c.args.problem.now c.args.path.now.facts c.args.number c.formula.result.now c.in-Some.sign c.requires.consistent c.formula.ensures (sym c.in-Some.ensures)) c.due_of.ensures
