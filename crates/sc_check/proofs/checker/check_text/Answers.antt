use Rattle.sc_check.proofs.Checking.{judged_text, stopped_text, unended_text, wanting}
use Rattle.sc_check.proofs.checker.check_text.Goals as goal

pub returns-in-Ok-Exited : goal.returns-in-Ok-Exited
returns-in-Ok-Exited g c =
    judged_text c.args.splitter.now c.follow.new.splitter c.go_on.new.self c.in-Ok-Exited.asked c.follow.new.session (g.O.Sink.moment c.args.out.now) (g.O.Sink.moment c.judge_all.new.out)
    (rw c.in-Ok-Exited.field-0-is at c.in-Ok-Exited.ensures) c.go_on.ensures c.judge_all.result c.judge_all.ensures

pub returns-in-Ok-Stopped : goal.returns-in-Ok-Stopped
returns-in-Ok-Stopped g c =
    stopped_text c.args.splitter.now c.as_slice.result.now c.in-Ok-Stopped.line (g.O.Sink.moment c.args.out.now) (g.O.Sink.moment c.refuse.new.out) c.refuse.result
    c.as_slice.ensures (rw c.in-Ok-Stopped.field-0-is at c.in-Ok-Stopped.ensures) c.refuse.ensures

pub returns-in-Ok-Unended : goal.returns-in-Ok-Unended
returns-in-Ok-Unended g c = unended_text c.args.splitter.now (g.O.Sink.moment c.args.out.now) (rw c.in-Ok-Unended.field-0-is at c.in-Ok-Unended.ensures)

pub returns : goal.returns
returns g c = wanting c.args.splitter.now (g.O.Sink.moment c.args.out.now)
