use Rattle.std.proofs.Common.{◌≡◌, ◌∙◌, reverse, sym, ap, subst, arith}
use Rattle.sc_base.specs.Numbered.{item_at}
use Rattle.sc_tree.specs.Machine.{Kept, state}
use Rattle.sc_tree.specs.Keeping.{IsKept}
use Rattle.sc_tree.specs.Climbing.{IsClimbed}
use Rattle.sc_tree.proofs.Counting.{climbed_by, few_steps, out_by_count}
use Rattle.sc_tree.proofs.tree.Tree.is_out_at.Goals as goal

pub is_full-requires : goal.is_full-requires
is_full-requires c =
    let k = subst (λ (t : Kept). IsKept t.problem t.budget c.self.inside.places.items (reverse c.self.inside.opened.items) c.self.inside.held c.self.inside.found t.journal) c.self.view_is c.self.invariant.0 in
    let climbed = subst (λ l. IsClimbed l (state c.args.self.now).cells) (sym c.as_slice-2.ensures.value) (climbed_by c.args.self.now _ _ _ _ k) in
    let few = few_steps c.args.self.now c.args.number k.legal in
    let limit : c.self.inside.budget ≡ c.args.self.now.budget = ap (λ (t : Kept). t.budget) c.self.view_is in
    ((state c.args.self.now).cells, climbed, omega (arith, few, limit))

pub returns : goal.returns
returns c =
    let k = subst (λ (t : Kept). IsKept t.problem t.budget c.self.inside.places.items (reverse c.self.inside.opened.items) c.self.inside.held c.self.inside.found t.journal) c.self.view_is c.self.invariant.0 in
    let climbed = climbed_by c.args.self.now _ _ _ _ k in
    let same = subst (λ l. IsClimbed l (state c.args.self.now).cells) (sym c.as_slice-2.ensures.value) climbed in
    let at = ap (λ l. item_at l c.args.number) (sym c.as_slice.ensures.value) ∙ sym c.in-Some.ensures in
    let spent = sym c.is_spent.ensures ∙ c.if-not-is_spent.false in
    let told = c.is_full.ensures (state c.args.self.now).cells same in
    let limit : c.self.inside.budget ≡ c.args.self.now.budget = ap (λ (t : Kept). t.budget) c.self.view_is in
    let out = out_by_count c.args.self.now c.self.inside.places.items c.args.number c.in-Some.place.now climbed at spent in
    (λ e. out.0 (told.0 e ∙ limit), λ h. told.1 (out.1 h ∙ sym limit))
