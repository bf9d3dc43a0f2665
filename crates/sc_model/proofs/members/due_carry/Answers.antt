use Rattle.std.proofs.Common.{◌≡◌, true, sym, subst, ◌∙◌}
use Rattle.std.specs.Prelude.{MatchOption}
use Rattle.sc_model.specs.Deciding.{AllPassOn, Concludes, is_linked}
use Rattle.sc_model.proofs.Following.{carry_new, least_linked}
use Rattle.sc_model.proofs.members.due_carry.Goals as goal

pub returns-in-None : goal.returns-in-None
returns-in-None c =
    carry_new c.args.problem.now c.args.path.now.facts c.args.element c.args.label c.args.set c.args.sign c.requires.consistent
    (subst (λ k. is_linked c.args.path.now.facts c.args.element k ≡ true) (sym (c.requires.label ∙ c.requires.labels.least c.args.element c.requires.element))
    (least_linked c.args.path.now.facts c.args.element c.args.classes.now.pairs (subst (λ o. MatchOption o (AllPassOn c.args.path.now.facts c.args.element c.args.classes.now.pairs) (Concludes c.args.problem.now c.args.path.now.facts)) c.in-None.is c.in_ok-step.ensures)))
    c.requires.member c.requires.other
