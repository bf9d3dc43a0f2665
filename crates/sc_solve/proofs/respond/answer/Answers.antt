use Rattle.std.proofs.Common.{Err}
use Rattle.sc_session.specs.Doing.{said_by}
use Rattle.sc_solve.proofs.Going.{answered}
use Rattle.sc_solve.proofs.respond.answer.Goals as goal

pub returns-clause-gives : goal.returns-clause-gives
returns-clause-gives g c = λ i told. rw c.of_writing.ensures (answered c.args.session.now c.do_item.new.self i c.args.budget (g.O.Sink.moment c.args.out.now) (g.O.Sink.moment c.put_response.new.out) (said_by c.in-Ok.response c.do_item.new.self) (Err c.in-Err.error) (c.in-Ok.ensures.does i told) c.in-Err.ensures)
