use Rattle.std.proofs.Common.{◌≡◌, ◌∙◌, ◌∷◌, ◌+◌, false, reverse, refl, length, sym, ap, subst, arith}
use Rattle.sc_tree.specs.declared.machine.Event.TheVariants as events
use Rattle.sc_tree.specs.Machine.{state, has_answer, IsAt}
use Rattle.sc_tree.proofs.Kept.{kept-split, pushed-entry, room-of}
use Rattle.sc_tree.proofs.tree.Tree.split.Goals as goal

pub push_reserved-requires : goal.push_reserved-requires
push_reserved-requires c =
    let at = subst (λ t. IsAt t.problem t.budget (state t).cells c.args.seat c.args.leaf (events.Split c.args.step)) (sym c.self.view_is) c.requires.at in
    let r = room-of _ c.self.inside.held c.args.seat c.args.leaf _ _ c.self.invariant.0.holds (at.place, at.is, at.held) c.self.invariant.1 in
    omega (arith, r)

pub invariant_of-self-2 : goal.invariant_of-self-2
invariant_of-self-2 c =
    let going = subst (λ t. has_answer (state t) ≡ false) (sym c.self.view_is) c.requires.going in
    let at = subst (λ t. IsAt t.problem t.budget (state t).cells c.args.seat c.args.leaf (events.Split c.args.step)) (sym c.self.view_is) c.requires.at in
    let r = room-of _ c.self.inside.held c.args.seat c.args.leaf _ _ c.self.invariant.0.holds (at.place, at.is, at.held) c.self.invariant.1 in
    let f = room-of _ c.self.inside.held c.args.seat c.args.leaf 0 (length c.self.inside.held) c.self.invariant.0.holds (at.place, at.is, at.held) (omega arith) in
    let h = ap length c.remove.ensures in
    (kept-split _ _ _ _ _ _ _ c.args.seat c.args.leaf c.args.step _ _ _ _ _ c.self.invariant.0 going at c.in_ok-first.ensures.ok.0 c.in_ok-first.ensures.ok.1 (c.open_two.ensures.opened ∙ ap (λ l. c.in_ok-first.first ∷ (c.in_ok-first.first + 1) ∷ reverse l) c.in_ok-reserve.ensures.items) c.remove.ensures (pushed-entry _ _ _ _ _ c.push_reserved.ensures.items refl c.new.ensures), omega (arith, r, h, c.push_reserved.ensures.len, c.push_reserved.ensures.capacity), omega (arith, h, c.open_two.ensures.count, c.open_two.ensures.room, c.in_ok-reserve.ensures.ok, c.in_ok-reserve.ensures.len, c.len.ensures, f))
