use Rattle.std.proofs.Common.{drop}
use Rattle.std.specs.List.{flat_map}
use Rattle.sc_io.proofs.Writings.{IsPutting}
use Rattle.sc_deriv_text.proofs.writing.put_each.Given as goal

abbrev pub invariant-loop-piece : goal.invariant-loop-piece
invariant-loop-piece g l = IsPutting (g.O.Sink.moment l.initial.out) (g.O.Sink.moment l.out) (flat_map (λ p. p.now) l.pieces) (flat_map (λ p. p.now) (drop l.piece-index l.pieces))
