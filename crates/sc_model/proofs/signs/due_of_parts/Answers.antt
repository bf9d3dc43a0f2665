use Rattle.std.proofs.Common.{sym, ap, ◌∙◌}
use Rattle.std.specs.Prelude.{is_some}
use Rattle.sc_model.proofs.Forcing.{due_unit, due_cut, borne_by_none}
use Rattle.sc_model.proofs.signs.due_of_parts.Goals as goal

pub returns-then-is_some : goal.returns-then-is_some
returns-then-is_some c = due_unit c.args.problem.now c.args.path.now.facts c.args.number c.args.node.now c.args.sign c.requires.signed c.requires.unforced (ap is_some (sym c.own_sign.ensures) ∙ (sym c.is_some.ensures ∙ c.if-is_some.true))

pub returns-in-Some : goal.returns-in-Some
returns-in-Some c = due_cut c.args.problem.now c.args.path.now.facts c.args.number c.args.node.now c.args.sign c.in-Some.part c.requires.signed c.in-Some.ensures

pub returns-in-None : goal.returns-in-None
returns-in-None c = borne_by_none c.args.path.now.facts c.args.node.now c.args.sign c.requires.signed.intless c.requires.other c.in-None.ensures (ap is_some (sym c.own_sign.ensures) ∙ (sym c.is_some.ensures ∙ c.if-is_some.false))
