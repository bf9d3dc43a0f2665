use Rattle.std.proofs.Common.{◌≡◌, filter}
use Rattle.sc_flatten.specs.Classes.{is_home, numbers_from}
use Rattle.sc_flatten.proofs.components.homes.Given as goal

-- the homes so far
abbrev pub invariant-loop-index : goal.invariant-loop-index
invariant-loop-index l = l.homes.items ≡ filter (is_home l.sets) (numbers_from 1 l.index)
