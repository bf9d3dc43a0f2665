use Rattle.std.proofs.Common.{◌∷◌, ◌++◌, [], ap, ◌∙◌, arith}
use Rattle.sc_rules.specs.declared.step.PlainStep.TheVariants.{EqStep}
use Rattle.sc_classes.proofs.Along.{long_first, long_more, long_ends}
use Rattle.sc_classes.proofs.explain.long.Goals as goal

pub loop-at-init : goal.loop-at-init
loop-at-init c =
    let made = long_first c.args.visits.now c.args.e c.args.second c.visit_at-first.result c.visit_at.result c.push.new.self c.requires.back c.requires.within c.requires.apart c.visit_at-first.ensures c.visit_at.ensures (c.in_ok-push.ensures.ok ∙ ap (λ xs. xs ++ EqStep c.args.e c.visit_at-first.result.number c.visit_at.result.number ∷ []) c.new-steps.ensures) in
    record { within = made.0; follows = made.1 }

pub loop-at-preserved : goal.loop-at-preserved
loop-at-preserved c =
    let made = long_more c.args.visits.now c.args.e c.args.second c.loop-at.at c.visit_at-here.result c.visit_at-next.result c.loop-at.steps c.push-in-loop-at.new.self c.requires.back (omega (arith, c.loop-at-test.true)) c.loop-at.invariant.within c.visit_at-here.ensures c.visit_at-next.ensures c.in_ok-push-2.ensures.ok c.loop-at.invariant.follows in
    record { within = made.0; follows = made.1 }

pub returns : goal.returns
returns c = long_ends c.args.visits.now c.args.e c.args.second c.loop-at.at c.loop-at.steps (omega (arith, c.loop-at-test.false)) c.loop-at.invariant.follows
