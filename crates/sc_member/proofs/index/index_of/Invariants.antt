use Rattle.sc_member.specs.Notes.{AreNotedTo}
use Rattle.sc_member.proofs.index.index_of.Given as goal

-- the set terms so far are noted
abbrev pub invariant-loop-place : goal.invariant-loop-place
invariant-loop-place l = AreNotedTo l.problem l.place l.index.parents l.index.singles
