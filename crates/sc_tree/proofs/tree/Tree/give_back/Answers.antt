use Rattle.std.proofs.Common.{length, sym, ap, subst, arith}
use Rattle.sc_tree.specs.Keeping.{GivesBack}
use Rattle.sc_tree.proofs.Kept.{kept-reopened, kept-as, room-of, reverse-pushed}
use Rattle.sc_tree.proofs.tree.Tree.give_back.Goals as goal

pub push_reserved-requires : goal.push_reserved-requires
push_reserved-requires c =
    let g = subst (λ t. GivesBack t c.args.entry c.args.found) (sym c.self.view_is) c.requires.gives in
    let r = room-of _ c.self.inside.held c.args.entry.seat c.args.entry.leaf _ _ c.self.invariant.0.holds g.held c.self.invariant.2 in
    omega (arith, r)

pub push_reserved-requires-2 : goal.push_reserved-requires-2
push_reserved-requires-2 c =
    let g = subst (λ t. GivesBack t c.args.entry c.args.found) (sym c.self.view_is) c.requires.gives in
    let r = room-of _ c.self.inside.held c.args.entry.seat c.args.entry.leaf _ _ c.self.invariant.0.holds g.held c.self.invariant.1 in
    omega (arith, r)

pub invariant_of-self : goal.invariant_of-self
invariant_of-self c =
    let g = subst (λ t. GivesBack t c.args.entry c.args.found) (sym c.self.view_is) c.requires.gives in
    let k = kept-reopened _ _ _ _ _ _ c.args.found c.args.entry c.self.invariant.0 g c.set_mark.ensures.marked in
    let r = room-of _ c.self.inside.held c.args.entry.seat c.args.entry.leaf _ _ c.self.invariant.0.holds g.held c.self.invariant.1 in
    let o = room-of _ c.self.inside.held c.args.entry.seat c.args.entry.leaf _ _ c.self.invariant.0.holds g.held c.self.invariant.2 in
    let h = ap length c.remove.ensures in
    (kept-as _ _ _ _ _ _ _ _ _ _ k (reverse-pushed _ c.args.entry.leaf _ c.push_reserved.ensures.items) c.remove.ensures c.push_reserved-2.ensures.items, omega (arith, r, h, c.push_reserved-2.ensures.len, c.push_reserved-2.ensures.capacity), omega (arith, o, h, c.push_reserved.ensures.len, c.push_reserved.ensures.capacity))
