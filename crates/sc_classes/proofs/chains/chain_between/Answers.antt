use Rattle.std.proofs.Common.{◌≡◌, ◌≢◌, ap, subst, ◌∙◌, arith}
use Rattle.sc_classes.specs.declared.chains.Visit.{Visit}
use Rattle.sc_classes.specs.Classes.{neighbours_of}
use Rattle.sc_classes.specs.Searches.{visit_at, searching}
use Rattle.sc_classes.proofs.Searching.{goes_on, goes_never}
use Rattle.sc_classes.proofs.chains.chain_between.Goals as goal

pub loop-place-preserved : goal.loop-place-preserved
loop-place-preserved c =
    let here : c.visit_at-number.result ≡ visit_at c.loop-place.visits.items c.loop-place.place = c.visit_at-number.ensures ∙ ap (λ vs. visit_at vs c.loop-place.place) c.as_slice.ensures.value in
    goes_on c.args.classes.now.pairs c.args.classes.now.count c.args.start c.args.goal c.loop-place.place (searching c.loop-place.visits.items c.loop-place.marks.items) (searching c.meet_all.new.visits.items c.meet_all.new.marks.items) c.neighbours.result.now
    c.loop-place.invariant
    (omega (arith, c.loop-place-test.true, c.len.ensures, c.loop-place.visits.ok))
    (subst (λ (v : Visit). v.number ≢ c.args.goal) here c.if-number-goal.false)
    (c.neighbours.ensures.neighbours ∙ ap (λ (v : Visit). neighbours_of c.args.classes.now.pairs v.number) here)
    c.neighbours.ensures.within
    c.in_ok-meet_all.ensures

pub unreachable-requires : goal.unreachable-requires
unreachable-requires c = goes_never c.args.classes.now.pairs c.args.classes.now.count c.args.start c.args.goal c.loop-place.place (searching c.loop-place.visits.items c.loop-place.marks.items) c.loop-place.invariant (omega (arith, c.loop-place-test.false, c.len.ensures, c.loop-place.visits.ok)) c.requires.joined
