use Rattle.std.proofs.Common.{length, ap, arith}
use Rattle.sc_tree.proofs.Kept.{kept-new}
use Rattle.sc_tree.proofs.tree.Tree.root.Goals as goal

pub invariant_of-result : goal.invariant_of-result
invariant_of-result c =
    let none = ap length c.new-2.ensures in
    (rw (c.in_ok-push.ensures.items, c.in_ok-push-2.ensures.items) (kept-new _ c.args.budget _ _ _ _ _ c.new-places.ensures.items c.new.ensures c.new-opened.ensures.items c.new-2.ensures c.new-3.ensures.items), omega (arith, none, c.new-3.ensures.len), omega (arith, none, c.new-opened.ensures.len, c.in_ok-push-2.ensures.upper_bound, c.in_ok-push-2.ensures.lower_bound, c.in_ok-push-2.ensures.len))
