use Rattle.std.proofs.Common.{◌≡◌, true, sym, ap, subst, ◌∙◌, arith}
use Rattle.std.specs.Prelude.{MatchOption}
use Rattle.sc_facts.specs.declared.fact.Fact.TheVariants.{Eq}
use Rattle.sc_facts.specs.Facts.{has}
use Rattle.sc_terms.specs.Conditions.{IsIn}
use Rattle.sc_model.specs.Modelling.{label_in}
use Rattle.sc_model.specs.Deciding.{AllPassOn, Concludes}
use Rattle.sc_model.proofs.Telling.{apart_new}
use Rattle.sc_model.proofs.members.due_apart_of.Goals as goal

pub returns-in-None : goal.returns-in-None
returns-in-None c =
    apart_new c.args.problem.now c.args.path.now.facts c.args.classes.now c.args.labels.now c.in-Eq.first c.in-Eq.second c.requires.consistent c.requires.labels
    (omega (arith, c.if-first-second.false))
    (omega (arith, c.if-first-eq0.false), omega (arith, c.if-second-count.false, c.if-first-second.false, c.counts-count.ensures.elements))
    (omega (arith, c.if-first-eq0.false, c.if-first-second.false), omega (arith, c.if-second-count.false, c.counts-count.ensures.elements))
    (subst (λ x. has c.args.path.now.facts x ≡ true) (c.in-Eq.is ∙ ap (Eq c.in-Eq.first c.in-Eq.second) c.if-sign.false) c.requires.stands)
    (sym c.label_of.ensures ∙ (omega (arith, c.if-label_of.false) ∙ c.label_of-2.ensures))
    (subst (λ o. MatchOption o (AllPassOn c.args.path.now.facts c.in-Eq.first c.args.classes.now.pairs) (Concludes c.args.problem.now c.args.path.now.facts)) c.in-None.is c.in_ok-step.ensures)
