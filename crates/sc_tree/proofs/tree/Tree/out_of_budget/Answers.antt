use Rattle.std.proofs.Common.{◌<◌, ◌+◌, ◌∙◌, length, reverse, sym, subst, arith}
use Rattle.std.proofs.lemmas.Bool.{false≢true}
use Rattle.sc_tree.specs.Machine.{Kept}
use Rattle.sc_tree.specs.Keeping.{IsKept}
use Rattle.sc_tree.proofs.Counting.{none_up, none_first, none_at_all}
use Rattle.sc_tree.proofs.tree.Tree.out_of_budget.Goals as goal

pub loop-before-init : goal.loop-before-init
loop-before-init c = none_first c.args.self.now

pub loop-before-preserved : goal.loop-before-preserved
loop-before-preserved c =
    none_up c.args.self.now (c.loop-before.before + 1) c.loop-before.invariant (λ out. false≢true (sym c.if-is_out_at.false ∙ c.is_out_at.ensures.1 out))

pub returns : goal.returns
returns c =
    let k = subst (λ (t : Kept). IsKept t.problem t.budget c.self.inside.places.items (reverse c.self.inside.opened.items) c.self.inside.held c.self.inside.found t.journal) c.self.view_is c.self.invariant.0 in
    let long : length c.self.inside.places.items < c.loop-before.before + 1 = (let h = c.loop-before-test.false in let e = c.len-before-end.ensures in omega (arith, h, e)) in
    (λ e. absurd (false≢true e), λ out. absurd (none_at_all c.args.self.now c.self.inside.places.items _ k.places_are long c.loop-before.invariant out))
