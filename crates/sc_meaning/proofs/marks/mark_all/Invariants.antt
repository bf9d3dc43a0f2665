use Rattle.std.proofs.Common.{◌≡◌, drop}
use Rattle.sc_meaning.specs.Marks.{with_marks}
use Rattle.sc_meaning.proofs.marks.mark_all.Given as goal

abbrev pub invariant-loop-number : goal.invariant-loop-number
invariant-loop-number l = record { rest : with_marks (drop l.number-index l.numbers) l.marks.items ≡ with_marks l.numbers l.fn.marks.items }
