use Rattle.sc_solve.specs.Ends.{Moment, at_moment}
use Rattle.sc_solve.proofs.Feeding.{is_split}
use Rattle.sc_solve.proofs.Solving.{solves}
use Rattle.sc_solve.proofs.solver.run.Goals as goal

pub returns-in-Ok : goal.returns-in-Ok
returns-in-Ok g c =
    let before : Moment = at_moment (g.S.Source.moment c.args.source.now) (g.O.Sink.moment c.args.out.now) in
    let after : Moment = at_moment (g.S.Source.moment c.gather.new.source) (g.O.Sink.moment c.respond-ending.new.out) in
    let f = is_split (g.S.Source.moment c.args.source.now) (g.S.Source.moment c.gather.new.source) c.new-splitter.result c.gather.new.splitter c.in-Ok.field-0 c.new-splitter.ensures c.in-Ok.ensures in
    solves c.scripts_are_read.ensures c.long_texts_are_cut.ensures c.args.budget before after c.gather.new.splitter f.0 f.1 f.2 c.respond-ending.result c.respond-ending.new.session.verdicts c.respond-ending.ensures
