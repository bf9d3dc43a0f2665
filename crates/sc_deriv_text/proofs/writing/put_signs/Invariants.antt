use Rattle.std.proofs.Common.{drop}
use Rattle.sc_io.proofs.Writings.{IsPutting}
use Rattle.sc_deriv_text.specs.Spelling.{cube_bytes}
use Rattle.sc_deriv_text.proofs.writing.put_signs.Given as goal

abbrev pub invariant-loop-sign : goal.invariant-loop-sign
invariant-loop-sign g l = IsPutting (g.O.Sink.moment l.initial.out) (g.O.Sink.moment l.out) (cube_bytes l.signs) (cube_bytes (drop l.sign-index l.signs))
