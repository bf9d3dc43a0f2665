use Rattle.std.proofs.Common.{◌≡◌, arith}
use Rattle.sc_classes.specs.Explanations.{Explains, Follows, short_steps}
use Rattle.sc_classes.proofs.Along.{from_low, if_ok, along_short, along_long}
use Rattle.sc_classes.proofs.explain.steps_along.Goals as goal

pub returns-then-here-eq0 : goal.returns-then-here-eq0
returns-then-here-eq0 c = λ problem pairs start goal within chain.
    if_ok (λ steps. steps ≡ short_steps c.visit_at-here.result.number c.visit_at.result.number) (λ steps. Explains problem pairs goal start steps) c.short.result c.short.ensures
    (λ steps are. along_short problem pairs start goal c.args.visits.now c.args.place c.visit_at-here.result c.visit_at.result steps within chain c.visit_at-here.ensures c.visit_at.ensures c.if-here-eq0.true are)

pub long-requires-clause-within : goal.long-requires-clause-within
long-requires-clause-within c = omega (arith, from_low c.args.visits.now c.args.place c.visit_at-here.result c.requires.first c.requires.back c.requires.within c.visit_at-here.ensures, c.requires.within)

pub returns : goal.returns
returns c = λ problem pairs start goal within chain.
    if_ok (λ steps. Follows c.args.visits.now c.visit_at-here.result.number c.visit_at-here.result.from steps) (λ steps. Explains problem pairs goal start steps) c.long.result c.long.ensures
    (λ steps follows. along_long problem pairs start goal c.args.visits.now c.args.place c.visit_at-here.result steps chain c.visit_at-here.ensures c.if-here-eq0.false follows)
