use Rattle.std.proofs.Common.{ap, length, get_or, ◌∙◌}
use Rattle.sc_classes.specs.Searches.{searching, meet_all, Searching}
use Rattle.sc_classes.proofs.Searching.{meets_next, range_next, meet_length}
use Rattle.sc_classes.proofs.chains.meet_all.Goals as goal

pub loop-number-preserved : goal.loop-number-preserved
loop-number-preserved c = record {
  goes = meets_next c.args.numbers.now c.loop-number.number-index c.args.from (searching c.loop-number.visits.items c.loop-number.marks.items) (searching c.meet.new.visits.items c.meet.new.marks.items) (meet_all c.args.from (searching c.args.visits.now.items c.args.marks.now.items) c.args.numbers.now) c.loop-number-test.true c.in_ok-meet.ensures c.loop-number.invariant.goes;
  within = range_next c.args.numbers.now c.loop-number.number-index c.loop-number.marks.items c.meet.new.marks.items c.loop-number-test.true (ap (λ (s : Searching). length s.marks) c.in_ok-meet.ensures ∙ meet_length c.args.from (searching c.loop-number.visits.items c.loop-number.marks.items) (get_or c.args.numbers.now c.loop-number.number-index 0)) c.loop-number.invariant.within;
}
