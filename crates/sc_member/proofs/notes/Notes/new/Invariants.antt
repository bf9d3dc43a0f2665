use Rattle.std.proofs.Common.{◌≡◌, length}
use Rattle.sc_member.proofs.notes.Notes.new.Given as goal

abbrev pub invariant-loop-number : goal.invariant-loop-number
invariant-loop-number l = length l.lists.items ≡ l.number
