use Rattle.sc_io.proofs.Writings.{goes_on}
use Rattle.sc_io.proofs.put.put_all.Goals as goal

pub loop-rest-preserved : goal.loop-rest-preserved
loop-rest-preserved g c = goes_on (g.O.Sink.moment c.args.out.now) (g.O.Sink.moment c.loop-rest.out) (g.O.Sink.moment c.write.new.self) c.args.piece.now c.loop-rest.rest.now c.in-Took.count c.loop-rest.invariant c.in-Took.ensures.4
