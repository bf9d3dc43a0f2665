use Rattle.std.proofs.Common.{false, refl, sym, ◌∙◌}
use Rattle.sc_check.proofs.Tallying.{begins, goes_by, stops, at_fault}
use Rattle.sc_check.proofs.judge.judge_all.Goals as goal

pub loop-line-init : goal.loop-line-init
loop-line-init g c = begins c.args.splitter.now c.args.session.now.bank c.args.asked.now (record { number = 0; refused = false }) (g.O.Sink.moment c.args.out.now) refl c.requires.finished

pub returns-in-Err : goal.returns-in-Err
returns-in-Err g c =
    stops c.args.splitter.now c.loop-line.splitter c.next_item.new.self c.args.session.now.bank c.args.asked.now c.loop-line.count c.judge_item.new.count
    (g.O.Sink.moment c.args.out.now) (g.O.Sink.moment c.loop-line.out) (g.O.Sink.moment c.judge_item.new.out) c.loop-line.invariant
    c.in-Top.line c.item.result.now (sym c.next_item.ensures.result ∙ c.in-Top.is) c.next_item.ensures.state c.item.ensures c.next_item.ensures.last c.in-Err.ending c.in-Err.ensures

pub loop-line-preserved : goal.loop-line-preserved
loop-line-preserved g c =
    goes_by c.args.splitter.now c.loop-line.splitter c.next_item.new.self c.args.session.now.bank c.args.asked.now c.loop-line.count c.judge_item.new.count
    (g.O.Sink.moment c.args.out.now) (g.O.Sink.moment c.loop-line.out) (g.O.Sink.moment c.judge_item.new.out) c.loop-line.invariant
    c.in-Top.line c.item.result.now (sym c.next_item.ensures.result ∙ c.in-Top.is) c.next_item.ensures.state c.item.ensures c.next_item.ensures.last c.judge_item.result c.judge_item.ensures c.in_default.not-Err

pub returns-in-Bad : goal.returns-in-Bad
returns-in-Bad g c =
    at_fault c.args.splitter.now c.loop-line.splitter c.args.session.now.bank c.args.asked.now c.loop-line.count (g.O.Sink.moment c.args.out.now) (g.O.Sink.moment c.loop-line.out) (g.O.Sink.moment c.refuse.new.out) c.loop-line.invariant
    c.in-Bad.fault c.as_slice.result.now c.refuse.result (sym c.next_item.ensures.result ∙ c.in-Bad.is) (c.as_slice.ensures ∙ c.in-Ok.ensures) c.refuse.ensures
