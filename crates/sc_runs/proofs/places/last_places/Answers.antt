use Rattle.std.proofs.Common.{ap, arith, ◌+◌, ◌++◌, ℕ, List}
use Rattle.sc_runs.specs.Places.{last_places}
use Rattle.sc_runs.proofs.Steps.{zero_span}
use Rattle.sc_runs.proofs.Sets.{length-members_le}
use Rattle.sc_runs.proofs.Placed.{room, room_more, places_more, places_done, at_least}
use Rattle.sc_runs.proofs.places.last_places.Goals as goal

pub loop-span-init : goal.loop-span-init
loop-span-init c = (ap (λ (xs : List ℕ). xs ++ last_places 0 c.args.spans.now) c.new-places.ensures.items, omega (arith, length-members_le c.args.spans.now c.requires))

pub overflow_add-last : goal.overflow_add-last
overflow_add-last c =
    let below = room c.args.spans.now c.loop-span.span-index c.loop-span.first c.width.result zero_span c.loop-span-test.true c.loop-span.invariant.1 c.width.ensures in
    record { fits = below }

pub returns-in_default : goal.returns-in_default
returns-in_default c =
    places_done c.loop-span.places.items _ _ c.args.spans.now c.loop-span.span-index c.loop-span.first (c.loop-span.first + c.width.result) zero_span c.loop-span-test.true
    c.in_ok-push.ensures.items (ap (λ w. c.loop-span.first + w) c.width.ensures) (at_least (c.loop-span.first + c.width.result + 1) c.in_default.ensures) c.loop-span.invariant.1 c.loop-span.invariant.0

pub loop-span-preserved : goal.loop-span-preserved
loop-span-preserved c = (
  places_more c.loop-span.places.items _ _ c.args.spans.now c.loop-span.span-index c.loop-span.first (c.loop-span.first + c.width.result) c.in-Some.next zero_span c.loop-span-test.true
      c.in_ok-push.ensures.items (ap (λ w. c.loop-span.first + w) c.width.ensures) c.in-Some.ensures.1 c.loop-span.invariant.0,
  room_more c.args.spans.now c.loop-span.span-index c.loop-span.first c.in-Some.next zero_span c.loop-span-test.true c.loop-span.invariant.1 (let w = c.width.ensures in let n = c.in-Some.ensures.1 in omega (arith, w, n)),
)
