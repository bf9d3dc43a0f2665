use Rattle.sc_tree.proofs.Kept.{at-own, was_done, was_done_ok}
use Rattle.sc_tree.proofs.tree.Tree.change.Goals as goal

pub grow-requires-clause-at : goal.grow-requires-clause-at
grow-requires-clause-at c = at-own _ _ _ _ _ c.args.event _ c.own_leaf-leaf.ensures c.requires.at c.in-Grow.is

pub split-requires-clause-at : goal.split-requires-clause-at
split-requires-clause-at c = at-own _ _ _ _ _ c.args.event _ c.own_leaf-leaf.ensures c.requires.at c.in-Split.is

pub close-requires-clause-at : goal.close-requires-clause-at
close-requires-clause-at c = at-own _ _ _ _ _ c.args.event _ c.own_leaf-leaf.ensures c.requires.at c.in-Close.is

pub spend-requires-clause-at : goal.spend-requires-clause-at
spend-requires-clause-at c = at-own _ _ _ _ _ c.args.event _ c.own_leaf-leaf.ensures c.requires.at c.in-Spend.is

pub find-requires-clause-at : goal.find-requires-clause-at
find-requires-clause-at c = at-own _ _ _ _ _ c.args.event _ c.own_leaf-leaf.ensures c.requires.at c.in-Found.is

pub returns-in-Grow-clause-ok : goal.returns-in-Grow-clause-ok
returns-in-Grow-clause-ok c = was_done_ok _ _ c.grow.result c.args.seat _ c.args.event _ c.in-Grow.is (λ e. cc) c.requires.going (at-own _ _ _ _ _ c.args.event _ c.own_leaf-leaf.ensures c.requires.at c.in-Grow.is) c.grow.ensures.ok

pub returns-in-Split-clause-ok : goal.returns-in-Split-clause-ok
returns-in-Split-clause-ok c = was_done_ok _ _ c.split.result c.args.seat _ c.args.event _ c.in-Split.is (λ e. cc) c.requires.going (at-own _ _ _ _ _ c.args.event _ c.own_leaf-leaf.ensures c.requires.at c.in-Split.is) c.split.ensures.ok

pub returns-in-Close-clause-ok : goal.returns-in-Close-clause-ok
returns-in-Close-clause-ok c = was_done_ok _ _ c.close.result c.args.seat _ c.args.event _ c.in-Close.is (λ e. cc) c.requires.going (at-own _ _ _ _ _ c.args.event _ c.own_leaf-leaf.ensures c.requires.at c.in-Close.is) c.close.ensures.ok

pub returns-in-Spend-clause-ok : goal.returns-in-Spend-clause-ok
returns-in-Spend-clause-ok c = was_done _ _ c.args.seat _ c.args.event _ c.in-Spend.is (λ e. cc) c.requires.going (at-own _ _ _ _ _ c.args.event _ c.own_leaf-leaf.ensures c.requires.at c.in-Spend.is) c.spend.ensures

pub returns-in-Found-clause-ok : goal.returns-in-Found-clause-ok
returns-in-Found-clause-ok c = was_done _ _ c.args.seat _ c.args.event _ c.in-Found.is (λ e. cc) c.requires.going (at-own _ _ _ _ _ c.args.event _ c.own_leaf-leaf.ensures c.requires.at c.in-Found.is) c.find.ensures
