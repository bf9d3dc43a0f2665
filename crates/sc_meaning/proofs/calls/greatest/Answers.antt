use Rattle.sc_meaning.proofs.Tops.{larger_next, item_within}
use Rattle.sc_meaning.proofs.calls.greatest.Goals as goal

pub loop-number-preserved : goal.loop-number-preserved
loop-number-preserved c =
    let within = item_within c.args.limit c.args.numbers.now c.loop-number.number-index 0 c.loop-number-test.true c.requires in
    record {
      taken = larger_next c.args.numbers.now c.loop-number.number-index 0 c.loop-number.greatest c.larger-greatest.result c.args.limit c.loop-number-test.true c.requires c.larger-greatest.ensures.first c.larger-greatest.ensures.second c.loop-number.invariant.taken;
      limit = c.larger-greatest.ensures.limit c.args.limit c.loop-number.invariant.limit within.1;
    }
