use Rattle.std.proofs.Common.{◌<◌, ◌+◌, drop, sym, subst, length}
use Rattle.std.specs.List.{AllByRecursion}
use Rattle.sc_flatten.proofs.Grouping.{classed_more, grouped_count}
use Rattle.sc_flatten.proofs.Grown.{range_more}
use Rattle.sc_flatten.proofs.components.classes.Goals as goal

pub loop-number-preserved : goal.loop-number-preserved
loop-number-preserved c = record {
  low = c.find-key.ensures.low;
  count = grouped_count c.find-key.result _ c.loop-number.keys.keys c.enter.new.keys.keys c.loop-number.lists.items c.enter.new.lists.items c.in_ok-enter.ensures.keys c.in_ok-enter.ensures.lists c.loop-number.invariant.count;
  range = subst (λ k. AllByRecursion (λ n. n < k) (drop (c.loop-number.number-index + 1) c.args.numbers.now)) (sym c.find-key.auto.parents) (range_more (λ n. n < length c.loop-number.parents) c.args.numbers.now c.loop-number.number-index 0 c.loop-number-test.true c.loop-number.invariant.range);
  stands = classed_more c.args.numbers.now c.loop-number.number-index c.find-key.result c.args.parents.now c.loop-number.parents c.find-key.new.parents c.loop-number.keys.keys c.enter.new.keys.keys c.loop-number.lists.items c.enter.new.lists.items c.loop-number-test.true c.find-key.ensures.finds c.in_ok-enter.ensures.keys c.in_ok-enter.ensures.lists c.loop-number.invariant.stands;
}
