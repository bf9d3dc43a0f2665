use Rattle.std.proofs.Common.{◌&&◌, sym, ap, subst, ◌∙◌}
use Rattle.sc_tree.specs.Events.{AllowsOn}
use Rattle.sc_branch.specs.Growing.{IsHeldAfter}
use Rattle.sc_workers.specs.Seats.{IsAsked, is_done}
use Rattle.sc_workers.proofs.Seats.{asked, same_problem, to_tree}
use Rattle.sc_workers.proofs.alone.ask.Goals as goal

pub returns-clause-asked : goal.returns-clause-asked
returns-clause-asked c =
    subst (IsAsked c.step.new.self c.args.branch.now c.advance.new.self) (sym (c.is_still_held.ensures ∙ ap (λ g. g && is_done c.in_ok-reply.reply) c.is_growth-growth.ensures))
    (asked c.leaves_are_tried.ensures c.args.tree.now c.step.new.self c.args.branch.now c.advance.new.self c.in_ok-event.event c.in_ok-reply.reply c.requires.busy
    (to_tree (λ p b. AllowsOn p b c.args.branch.now.path.facts c.args.branch.now.steps c.in_ok-event.event) c.args.problem.now c.args.budget c.args.tree.now c.requires.about c.in_ok-event.ensures.allowed)
    (to_tree (λ p b. IsHeldAfter p c.args.branch.now c.in_ok-event.event c.advance.new.self) c.args.problem.now c.args.budget c.args.tree.now c.requires.about c.in_ok-event.ensures.held)
    c.in_ok-reply.ensures.ok c.step.ensures.legal)

pub returns-clause-same : goal.returns-clause-same
returns-clause-same c = same_problem c.args.problem.now c.args.branch.now c.advance.new.self c.in_ok-event.event c.in_ok-event.ensures.held

pub advance-requires-clause-about : goal.advance-requires-clause-about
advance-requires-clause-about c = c.requires.busy.1.about ∙ c.requires.about.about
