use Rattle.std.proofs.Common.{rules, ◌≤◌, length}
use Rattle.sc_elab.proofs.Shaped.{not_end}
use Rattle.sc_elab.proofs.heads.is_end.Goals as goal

pub returns-in-len1-up : goal.returns-in-len1-up
returns-in-len1-up c =
    let long : 1 ≤ length c.args.trees.now = search rules in
    not_end c.args.trees.now long
