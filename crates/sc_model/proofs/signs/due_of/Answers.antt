use Rattle.std.proofs.Common.{sym, ◌∙◌}
use Rattle.sc_model.proofs.Forcing.{due_atom}
use Rattle.sc_model.proofs.signs.due_of.Goals as goal

pub returns-in-Some : goal.returns-in-Some
returns-in-Some c = due_atom c.args.problem.now c.args.path.now.facts c.args.number c.args.node.now c.args.sign c.in-Some.fact c.requires c.in-Some.ensures (sym c.has.ensures ∙ c.if-has.false)
