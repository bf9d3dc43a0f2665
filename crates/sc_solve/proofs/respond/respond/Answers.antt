use Rattle.std.proofs.Common.{[], refl, ap, ◌∙◌}
use Rattle.sc_sexpr.specs.Scans.{with_top}
use Rattle.sc_sexpr.specs.Laws.{reading_of}
use Rattle.sc_solve.proofs.Going.{begins, goes, ends, at_end, at_fault, given_text}
use Rattle.sc_solve.proofs.respond.respond.Goals as goal

pub loop-line-init : goal.loop-line-init
loop-line-init g c = record {
  finished = c.requires.finished;
  under = λ script is. begins c.sessions_say_the_same.ensures c.args.budget script (g.O.Sink.moment c.args.out.now) c.args.session.now (reading_of c.args.splitter.now []) c.requires.fresh is;
}

pub returns-in-Some : goal.returns-in-Some
returns-in-Some g c = λ script is. ends c.sessions_say_the_same.ensures c.args.budget script (g.O.Sink.moment c.args.out.now) (g.O.Sink.moment c.loop-line.out) (g.O.Sink.moment c.answer.new.out) c.loop-line.session c.answer.new.session (reading_of c.loop-line.splitter []) (c.loop-line.invariant.under script is) c.answer.ensures.session c.item.result.now c.in-Top.line (reading_of c.next_item.new.self [])
    (c.in-Top.ensures.reading [] (λ p. refl) ∙ ap (λ t. with_top t c.in-Top.line (reading_of c.next_item.new.self [])) (given_text c.next_item.new.self.given c.item.result.now c.item.ensures)) c.in-Some.end c.in-Some.ensures.gives

pub loop-line-preserved : goal.loop-line-preserved
loop-line-preserved g c = record {
  finished = c.in-Top.ensures.last ∙ c.loop-line.invariant.finished;
  under = λ script is. goes c.sessions_say_the_same.ensures c.args.budget script (g.O.Sink.moment c.args.out.now) (g.O.Sink.moment c.loop-line.out) (g.O.Sink.moment c.answer.new.out) c.loop-line.session c.answer.new.session (reading_of c.loop-line.splitter []) (c.loop-line.invariant.under script is) c.answer.ensures.session c.item.result.now c.in-Top.line (reading_of c.next_item.new.self [])
      (c.in-Top.ensures.reading [] (λ p. refl) ∙ ap (λ t. with_top t c.in-Top.line (reading_of c.next_item.new.self [])) (given_text c.next_item.new.self.given c.item.result.now c.item.ensures)) c.in-None.ensures.gives;
}

pub returns-in-End : goal.returns-in-End
returns-in-End g c = λ script is. at_end c.args.budget script (g.O.Sink.moment c.args.out.now) (g.O.Sink.moment c.loop-line.out) c.loop-line.session (reading_of c.loop-line.splitter []) (c.in-End.ensures.reading [] (λ p. refl)) (c.loop-line.invariant.under script is)

pub returns-in-Bad : goal.returns-in-Bad
returns-in-Bad g c = λ script is. at_fault c.args.budget script (g.O.Sink.moment c.args.out.now) (g.O.Sink.moment c.loop-line.out) (g.O.Sink.moment c.refuse.new.out) c.loop-line.session (reading_of c.loop-line.splitter []) c.in-Bad.fault (c.in-Bad.ensures.reading [] (λ p. refl)) c.refuse.result c.refuse.ensures (c.loop-line.invariant.under script is)
