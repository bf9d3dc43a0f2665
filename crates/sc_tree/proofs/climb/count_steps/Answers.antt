use Rattle.std.proofs.Common.{sym, arith}
use Rattle.sc_tree.proofs.Counting.{counted, lower_place, none_counted}
use Rattle.sc_tree.proofs.climb.count_steps.Goals as goal

pub count_own-count-requires : goal.count_own-count-requires
count_own-count-requires c =
    let up = counted c.args.places.now c.requires.0 c.loop-place.number c.in-Some.place.now c.requires.1 (sym c.in-Some.ensures) in
    let all = c.loop-place.invariant c.requires.0 c.requires.1 in
    let few = c.requires.2 in
    omega (arith, up, all, few)

pub overflow_add-count : goal.overflow_add-count
overflow_add-count c =
    let up = counted c.args.places.now c.requires.0 c.loop-place.number c.in-Some.place.now c.requires.1 (sym c.in-Some.ensures) in
    let all = c.loop-place.invariant c.requires.0 c.requires.1 in
    let few = c.requires.2 in
    let own = c.count_own-count.ensures in
    omega (arith, up, all, few, own)

pub loop-place-smaller : goal.loop-place-smaller
loop-place-smaller c = lower_place c.args.places.now c.requires.0 c.loop-place.number c.in-Some.place.now c.requires.1 (sym c.in-Some.ensures)

pub loop-place-preserved : goal.loop-place-preserved
loop-place-preserved c cells climbed =
    let up = counted c.args.places.now cells c.loop-place.number c.in-Some.place.now climbed (sym c.in-Some.ensures) in
    let all = c.loop-place.invariant cells climbed in
    let own = c.count_own-count.ensures in
    omega (arith, up, all, own)

pub returns : goal.returns
returns c cells climbed =
    let none = none_counted c.args.places.now cells c.loop-place.number climbed (sym c.in_default.ensures) in
    let all = c.loop-place.invariant cells climbed in
    omega (arith, none, all)
