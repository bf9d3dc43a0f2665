use Rattle.std.proofs.Common.{◌≡◌, ◌∙◌, false, sym, subst, refl, arith}
use Rattle.sc_tree.specs.declared.machine.Event.TheVariants as events
use Rattle.sc_tree.specs.Machine.{state, has_answer, IsAt}
use Rattle.sc_tree.specs.Keeping.{HasMore}
use Rattle.sc_tree.proofs.Kept.{kept-grown, kept-as, pushed-entry}
use Rattle.sc_tree.proofs.tree.Tree.grow.Goals as goal

pub invariant_of-self-2 : goal.invariant_of-self-2
invariant_of-self-2 c =
    let going = subst (λ t. has_answer (state t) ≡ false) (sym c.self.view_is) c.requires.going in
    let at = subst (λ t. IsAt t.problem t.budget (state t).cells c.args.seat c.args.leaf (events.Grow c.args.chain)) (sym c.self.view_is) c.requires.at in
    let more : HasMore c.self.inside.places.items c.args.leaf c.args.chain c.add_steps.new.places.items = subst (λ l. HasMore c.self.inside.places.items c.args.leaf l c.add_steps.new.places.items) (c.in_ok-steps.ensures ∙ c.as_slice.ensures) c.in_ok-add_steps.ensures.ok in
    let k = kept-grown _ _ _ _ _ _ _ c.args.seat c.args.leaf c.args.chain _ c.self.invariant.0 going at more in
    (kept-as _ _ _ _ _ _ _ _ _ _ k refl refl (pushed-entry _ _ _ _ _ c.push_reserved.ensures.items c.in_ok-reserve.ensures.items c.new.ensures), omega (arith, c.push_reserved.ensures.len, c.push_reserved.ensures.capacity, c.in_ok-reserve.ensures.ok, c.in_ok-reserve.ensures.len, c.len.ensures), c.self.invariant.2)
