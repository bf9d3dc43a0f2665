use Rattle.std.proofs.Common.{◌≡◌, ◌+◌, ◌≤◌, ◌^◌, ◌++◌, drop, length}
use Rattle.sc_base.specs.Spans.{members}
use Rattle.sc_runs.specs.Places.{last_places}
use Rattle.sc_runs.proofs.places.last_places.Given as goal

abbrev pub invariant-loop-span : goal.invariant-loop-span
invariant-loop-span l = (l.places.items ++ last_places l.first (drop l.span-index l.spans) ≡ last_places 0 l.spans) × (l.first + length (members (drop l.span-index l.spans)) ≤ 2 ^ 128)
