use Rattle.sc_input.proofs.Feeding.{IsFilling}
use Rattle.sc_input.proofs.gathering.fill.Given as goal

-- so much was read and fed, and so much more may be
abbrev pub invariant-loop-left : goal.invariant-loop-left
invariant-loop-left g l = IsFilling (g.S.Source.moment l.initial.source) (g.S.Source.moment l.source) l.initial.splitter l.splitter l.most l.left

abbrev pub decreases-loop-left : goal.decreases-loop-left
decreases-loop-left g l = l.left
