use Rattle.std.proofs.Common.{sym}
use Rattle.std.specs.Int.{w128}
use Rattle.std.proofs.lemmas.Int.{to_z-of_z}
use Rattle.sc_base.proofs.Members.{has_element-members}
use Rattle.sc_runs.proofs.runs.Runs.has.Goals as goal

pub returns : goal.returns
returns c =
    rw (c.covers.ensures, to_z-of_z w128 c.args.value c.ranges.value, c.as_slice.ensures.value, ← c.self.view_is) (sym (has_element-members _ c.self.invariant.apart c.args.value))
