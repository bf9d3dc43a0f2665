use Rattle.std.proofs.Common.{◌≡◌, ◌∙◌, map, reverse, sym, ap, subst}
use Rattle.std.specs.List.{list_any}
use Rattle.sc_tree.specs.declared.machine.Place.{Place}
use Rattle.sc_tree.specs.Machine.{Kept, state}
use Rattle.sc_tree.specs.Keeping.{IsKept, place_of, is_spent}
use Rattle.sc_tree.proofs.Deciding.{spent-some, some-spent}
use Rattle.sc_tree.proofs.tree.Tree.has_spent.Goals as goal

pub returns : goal.returns
returns c =
    let k = subst (λ (t : Kept). IsKept t.problem t.budget c.self.inside.places.items (reverse c.self.inside.opened.items) c.self.inside.held c.self.inside.found t.journal) c.self.view_is c.self.invariant.0 in
    let is : c.some_is_spent.result ≡ list_any (λ (p : Place). is_spent p.mark) (map place_of (state c.args.self.now).cells) = c.some_is_spent.ensures ∙ ap (list_any (λ (p : Place). is_spent p.mark)) (c.as_slice.ensures.value ∙ k.places_are) in
    (λ e. spent-some (state c.args.self.now).cells (sym is ∙ e), λ h. is ∙ some-spent (state c.args.self.now).cells h)
