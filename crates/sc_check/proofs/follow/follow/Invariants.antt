use Rattle.sc_sexpr.specs.Laws.{work_of}
use Rattle.sc_check.specs.Reports.{standing}
use Rattle.sc_check.proofs.Following.{Under}
use Rattle.sc_check.proofs.follow.follow.Given as goal

-- the items so far were followed
abbrev pub invariant-loop-line : goal.invariant-loop-line
invariant-loop-line l = Under l.initial.splitter l.splitter (standing l.session l.asked)

abbrev pub decreases-loop-line : goal.decreases-loop-line
decreases-loop-line l = work_of l.splitter
