use Rattle.std.proofs.Common.{◌≡◌}
use Rattle.sc_meaning.specs.Marks.{unmarked}
use Rattle.sc_meaning.proofs.marks.unmarked.Given as goal

abbrev pub invariant-loop : goal.invariant-loop
invariant-loop l = record { made : l.marks.items ≡ unmarked l.counter }
