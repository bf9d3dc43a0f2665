use Rattle.std.proofs.Common.{rules, ◌≡◌, ◌∷◌, [], ◌++◌, arith}
use Rattle.sc_deriv_text.proofs.Loop.{goes_on, fails, front_at}
use Rattle.sc_deriv_text.proofs.reading.tree_nodes.Goals as goal

pub returns-in-Err : goal.returns-in-Err
returns-in-Err c =
    let front = front_at c.args.trees.now c.loop-tree.tree-index c.tree-item.result (search rules) c.tree-item.is in
    fails c.loop-tree.nodes.items c.loop-tree.due c.loop-tree.tree-index c.len.result c.tree-item.result _ _ c.args.trees.now c.in-Err.error c.loop-tree.invariant front (omega (arith, c.if-due-eq0.false)) (search rules) c.in-Err.ensures

pub loop-tree-preserved : goal.loop-tree-preserved
loop-tree-preserved c =
    let front = front_at c.args.trees.now c.loop-tree.tree-index c.tree-item.result (search rules) c.tree-item.is in
    let made : c.push.new.self.items ≡ c.loop-tree.nodes.items ++ c.in-Ok.node ∷ [] = search rules in
    rw c.branch_count.ensures.count (goes_on c.loop-tree.nodes.items c.push.new.self.items c.loop-tree.due c.loop-tree.tree-index c.len.result c.tree-item.result _ _ c.args.trees.now c.in-Ok.node c.loop-tree.invariant front (omega (arith, c.if-due-eq0.false)) (search rules) c.in-Ok.ensures made)
