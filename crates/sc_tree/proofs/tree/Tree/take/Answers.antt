use Rattle.std.proofs.Common.{◌≡◌, ◌∙◌, ◌∷◌, [], false, reverse, length, length-append, inl, refl, sym, ap, subst, arith}
use Rattle.sc_tree.specs.declared.machine.Event.TheVariants as events
use Rattle.sc_tree.specs.Machine.{Kept, kept, with_entry, entry, state, has_answer, HoldsNone}
use Rattle.sc_tree.specs.Keeping.{IsKept, holding, without}
use Rattle.sc_tree.specs.Climbing.{GoesTo}
use Rattle.sc_tree.proofs.Kept.{kept-taken, kept-as, none-open, place-within, pushed-entry}
use Rattle.sc_tree.proofs.Lists.{without-added}
use Rattle.sc_tree.proofs.HandingOut.{none_of, top_mark, goes_to, path_some, open_leaf, popped, popped_count}
use Rattle.sc_tree.proofs.tree.Tree.take.Goals as goal

pub returns-in_default-clause-ok : goal.returns-in_default-clause-ok
returns-in_default-clause-ok c =
    let k = subst (λ (t : Kept). IsKept t.problem t.budget c.self.inside.places.items (reverse c.self.inside.opened.items) c.self.inside.held c.self.inside.found t.journal) c.self.view_is c.self.invariant.0 in
    (refl, none-open _ _ _ _ _ _ _ k (none_of _ (sym c.first_open.ensures ∙ c.in_default.is)), c.requires.going, refl)

pub lead_to-requires : goal.lead_to-requires
lead_to-requires c =
    let k = subst (λ (t : Kept). IsKept t.problem t.budget c.self.inside.places.items (reverse c.self.inside.opened.items) c.self.inside.held c.self.inside.found t.journal) c.self.view_is c.self.invariant.0 in
    let h = top_mark c.args.self.now _ _ _ _ c.in-Some.leaf k (sym c.first_open.ensures ∙ c.in-Some.is) in
    let goes = subst (λ l. GoesTo l (state c.args.self.now).cells c.in-Some.leaf) (sym c.as_slice.ensures.value) (goes_to c.args.self.now _ _ _ _ c.in-Some.leaf k h) in
    record { goes = ((state c.args.self.now).cells, goes, path_some c.args.self.now _ _ _ _ c.in-Some.leaf c.args.problem.now _ k h c.requires.about refl) }

pub set_mark-requires-clause-first : goal.set_mark-requires-clause-first
set_mark-requires-clause-first c =
    let k = subst (λ (t : Kept). IsKept t.problem t.budget c.self.inside.places.items (reverse c.self.inside.opened.items) c.self.inside.held c.self.inside.found t.journal) c.self.view_is c.self.invariant.0 in
    let h = top_mark c.args.self.now _ _ _ _ c.in-Some.leaf k (sym c.first_open.ensures ∙ c.in-Some.is) in
    (place-within _ _ _ _ _ _ _ c.in-Some.leaf h.0 k h.1).0

pub set_mark-requires-clause-last : goal.set_mark-requires-clause-last
set_mark-requires-clause-last c =
    let k = subst (λ (t : Kept). IsKept t.problem t.budget c.self.inside.places.items (reverse c.self.inside.opened.items) c.self.inside.held c.self.inside.found t.journal) c.self.view_is c.self.invariant.0 in
    let h = top_mark c.args.self.now _ _ _ _ c.in-Some.leaf k (sym c.first_open.ensures ∙ c.in-Some.is) in
    (place-within _ _ _ _ _ _ _ c.in-Some.leaf h.0 k h.1).1

pub invariant_of-self-in-Ok : goal.invariant_of-self-in-Ok
invariant_of-self-in-Ok c =
    let going = subst (λ t. has_answer (state t) ≡ false) (sym c.self.view_is) c.requires.going in
    let none = subst (λ t. HoldsNone (state t).cells c.args.seat) (sym c.self.view_is) c.requires.none in
    let top = sym c.first_open.ensures ∙ c.in-Some.is in
    let stack = popped c.take_open.result _ _ c.in-Some.leaf top c.take_open.ensures.first in
    let fewer = popped_count c.take_open.result _ _ c.in-Some.leaf _ _ top c.take_open.ensures.first c.take_open.ensures.count in
    let k = kept-taken _ _ _ _ _ _ _ _ c.args.seat c.in-Some.leaf _ c.self.invariant.0 going none stack c.set_mark.ensures.marked in
    let longer = ap length c.in_ok-add.ensures.ok ∙ length-append c.self.inside.held (holding c.args.seat c.in-Some.leaf ∷ []) in
    (kept-as _ _ _ _ _ _ _ _ _ _ k refl c.in_ok-add.ensures.ok (pushed-entry _ _ _ _ _ c.push_reserved.ensures.items c.in_ok-reserve.ensures.items c.new.ensures), omega (arith, longer, c.push_reserved.ensures.len, c.push_reserved.ensures.capacity, c.in_ok-reserve.ensures.ok, c.in_ok-reserve.ensures.len, c.len.ensures), omega (arith, longer, fewer, c.take_open.ensures.room, c.self.invariant.2))

pub invariant_of-self-in-Err : goal.invariant_of-self-in-Err
invariant_of-self-in-Err c =
    let none = subst (λ t. HoldsNone (state t).cells c.args.seat) (sym c.self.view_is) c.requires.none in
    let back = c.remove.ensures ∙ (ap (λ l. without l c.args.seat) c.in_ok-add.ensures.ok ∙ without-added _ c.self.inside.held c.args.seat c.in-Some.leaf c.self.invariant.0.holds none) in
    let same = ap length back in
    (kept-as _ _ _ _ _ _ _ _ _ _ c.self.invariant.0 refl back c.in_ok-reserve.ensures.items, omega (arith, same, c.in_ok-reserve.ensures.len, c.in_ok-reserve.ensures.capacity, c.self.invariant.1), omega (arith, same, c.self.invariant.2))

pub returns-in-Ok-clause-ok : goal.returns-in-Ok-clause-ok
returns-in-Ok-clause-ok c =
    let k = subst (λ (t : Kept). IsKept t.problem t.budget c.self.inside.places.items (reverse c.self.inside.opened.items) c.self.inside.held c.self.inside.found t.journal) c.self.view_is c.self.invariant.0 in
    let h = top_mark c.args.self.now _ _ _ _ c.in-Some.leaf k (sym c.first_open.ensures ∙ c.in-Some.is) in
    let goes = subst (λ l. GoesTo l (state c.args.self.now).cells c.in-Some.leaf) (sym c.as_slice.ensures.value) (goes_to c.args.self.now _ _ _ _ c.in-Some.leaf k h) in
    let lead = c.in-Ok.ensures (state c.args.self.now).cells goes in
    (refl, open_leaf c.args.self.now _ _ _ _ c.in-Some.leaf c.args.problem.now c.in-Ok.path c.in-Ok.steps k h c.requires.about lead.0 lead.1, record { step = (c.requires.going, inl (c.requires.none, refl, h)); new_is = ap (λ j. kept c.self.inside.about.value c.self.inside.budget j) (pushed-entry _ _ _ _ _ c.push_reserved.ensures.items c.in_ok-reserve.ensures.items c.new.ensures) ∙ ap (λ t. with_entry t (entry c.args.seat c.in-Some.leaf events.Take false)) c.self.view_is })
