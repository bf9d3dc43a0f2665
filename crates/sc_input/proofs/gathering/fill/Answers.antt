use Rattle.sc_input.proofs.Feeding.{stops}
use Rattle.sc_input.proofs.gathering.fill.Goals as goal

pub returns-in-Err : goal.returns-in-Err
returns-in-Err g c =
    stops (g.S.Source.moment c.args.source.now) (g.S.Source.moment c.loop-left.source) (g.S.Source.moment c.more.new.source) c.args.splitter.now c.loop-left.splitter c.more.new.splitter c.args.most c.loop-left.left c.loop-left.invariant c.loop-left-test.true c.in-Err.error c.in-Err.ensures
