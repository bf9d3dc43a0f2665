use Rattle.std.proofs.Common.{length, sym, ap, subst, refl, arith}
use Rattle.sc_tree.specs.Keeping.{GivesUp}
use Rattle.sc_tree.proofs.Kept.{kept-ended, kept-as, room-of}
use Rattle.sc_tree.proofs.tree.Tree.give_up.Goals as goal

pub push_reserved-requires : goal.push_reserved-requires
push_reserved-requires c =
    let g = subst (λ t. GivesUp t c.args.entry c.args.mark) (sym c.self.view_is) c.requires.gives in
    let r = room-of _ c.self.inside.held c.args.entry.seat c.args.entry.leaf _ _ c.self.invariant.0.holds g.held c.self.invariant.1 in
    omega (arith, r)

pub invariant_of-self : goal.invariant_of-self
invariant_of-self c =
    let g = subst (λ t. GivesUp t c.args.entry c.args.mark) (sym c.self.view_is) c.requires.gives in
    let k = kept-ended _ _ _ _ _ _ c.args.entry c.args.mark c.self.invariant.0 g c.requires.held c.requires.ended c.set_mark.ensures.marked in
    let r = room-of _ c.self.inside.held c.args.entry.seat c.args.entry.leaf _ _ c.self.invariant.0.holds g.held c.self.invariant.1 in
    let o = room-of _ c.self.inside.held c.args.entry.seat c.args.entry.leaf _ _ c.self.invariant.0.holds g.held c.self.invariant.2 in
    let h = ap length c.remove.ensures in
    (kept-as _ _ _ _ _ _ _ _ _ _ k refl c.remove.ensures c.push_reserved.ensures.items, omega (arith, r, h, c.push_reserved.ensures.len, c.push_reserved.ensures.capacity), omega (arith, o, h))
