use Rattle.std.proofs.Common.{◌≡◌, true, sym, subst, refl, arith}
use Rattle.sc_tree.specs.Machine.{state, has_answer, HoldsNone}
use Rattle.sc_tree.proofs.Kept.{kept-noted, kept-as, pushed-entry}
use Rattle.sc_tree.proofs.tree.Tree.note_end.Goals as goal

pub invariant_of-self-2 : goal.invariant_of-self-2
invariant_of-self-2 c =
    let over = subst (λ t. has_answer (state t) ≡ true) (sym c.self.view_is) c.requires.over in
    let none = subst (λ t. HoldsNone (state t).cells c.args.seat) (sym c.self.view_is) c.requires.none in
    let k = kept-noted _ _ _ _ _ _ _ c.args.seat c.args.event c.self.invariant.0 over none in
    (kept-as _ _ _ _ _ _ _ _ _ _ k refl refl (pushed-entry _ _ _ _ _ c.push_reserved.ensures.items c.in_ok-reserve.ensures.items c.new.ensures), omega (arith, c.push_reserved.ensures.len, c.push_reserved.ensures.capacity, c.in_ok-reserve.ensures.ok, c.in_ok-reserve.ensures.len, c.len.ensures), c.self.invariant.2)
