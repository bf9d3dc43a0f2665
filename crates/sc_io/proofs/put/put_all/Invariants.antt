use Rattle.std.proofs.Common.{length}
use Rattle.sc_io.proofs.Writings.{IsPutting}
use Rattle.sc_io.proofs.put.put_all.Given as goal

-- what was written so far, and what is left of the piece
abbrev pub invariant-loop-rest : goal.invariant-loop-rest
invariant-loop-rest g l = IsPutting (g.O.Sink.moment l.initial.out) (g.O.Sink.moment l.out) l.piece l.rest

abbrev pub decreases-loop-rest : goal.decreases-loop-rest
decreases-loop-rest g l = length l.rest
