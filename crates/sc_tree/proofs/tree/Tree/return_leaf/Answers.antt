use Rattle.std.proofs.Common.{true, ◌≡◌, sym, subst}
use Rattle.sc_tree.specs.Machine.{entry, state, has_answer, HasLeaf}
use Rattle.sc_tree.specs.Keeping.{GivesBack}
use Rattle.sc_tree.proofs.Kept.{gives_over}
use Rattle.sc_tree.proofs.tree.Tree.return_leaf.Goals as goal

pub give_back-requires : goal.give_back-requires
give_back-requires c =
    let over = subst (λ t. has_answer (state t) ≡ true) (sym c.self.view_is) c.requires.over in
    let held = subst (λ t. HasLeaf (state t).cells c.args.seat c.args.leaf) (sym c.self.view_is) c.requires.held in
    record { gives = rw c.new.ensures (subst (λ t. GivesBack t (entry c.args.seat c.args.leaf c.args.event true) c.self.inside.found) c.self.view_is (gives_over _ _ _ _ _ c.args.seat c.args.leaf c.args.event c.self.invariant.0 over held)) }
