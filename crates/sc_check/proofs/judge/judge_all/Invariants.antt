use Rattle.sc_sexpr.specs.Laws.{work_of}
use Rattle.sc_check.proofs.Tallying.{IsTallying}
use Rattle.sc_check.proofs.judge.judge_all.Given as goal

-- the lines so far were written
abbrev pub invariant-loop-line : goal.invariant-loop-line
invariant-loop-line g l = IsTallying l.initial.splitter l.splitter l.session.bank l.asked l.count (g.O.Sink.moment l.initial.out) (g.O.Sink.moment l.out)

abbrev pub decreases-loop-line : goal.decreases-loop-line
decreases-loop-line g l = work_of l.splitter
