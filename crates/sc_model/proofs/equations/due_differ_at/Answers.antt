use Rattle.std.proofs.Common.{Some, sym, ap, ◌∙◌, arith}
use Rattle.sc_facts.specs.Facts.{has}
use Rattle.sc_model.proofs.Held.{element_in_range}
use Rattle.sc_model.proofs.Telling.{set_itself_new, differ_divides}
use Rattle.sc_model.proofs.equations.due_differ_at.Goals as goal

pub returns-then-first-second : goal.returns-then-first-second
returns-then-first-second c = set_itself_new c.args.problem.now c.args.path.now.facts c.args.number c.in-EqSet.first c.in-EqSet.second c.roots-roots.ensures.problem c.requires.consistent (c.formula.ensures ∙ ap Some c.in-EqSet.is) (ap (has c.args.path.now.facts) (sym c.same_set_fact.ensures) ∙ (sym c.has.ensures ∙ c.if-not-has.false)) (omega (arith, c.if-first-second.true))

pub returns : goal.returns
returns c = differ_divides c.sorts_match.ensures c.args.problem.now c.roots-roots.ensures.problem c.requires.script c.args.path.now.facts c.args.number c.in-EqSet.first c.in-EqSet.second (c.formula.ensures ∙ ap Some c.in-EqSet.is) (ap (has c.args.path.now.facts) (sym c.same_set_fact.ensures) ∙ (sym c.has.ensures ∙ c.if-not-has.false)) (λ same. omega (arith, c.if-first-second.false, same)) (λ e may. c.are_told_apart.ensures.untold c.if-are_told_apart.false e (element_in_range c.args.problem.now c.in-EqSet.first e may) may)
