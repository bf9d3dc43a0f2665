use Rattle.std.proofs.Common.{◌≤◌, ap, subst, ◌∙◌}
use Rattle.std.specs.List.{AllByRecursion}
use Rattle.sc_classes.specs.Classes.{Merges}
use Rattle.sc_classes.specs.Forests.{held_at}
use Rattle.sc_classes.proofs.Near.{near_within}
use Rattle.sc_classes.proofs.classes.Classes.neighbours.Goals as goal

pub returns-clause-within : goal.returns-clause-within
returns-clause-within c =
    subst (λ (m : Merges). AllByRecursion (λ n. n ≤ m.count) c.held_at.result.now) c.self.view_is
    (near_within c.self.inside.last c.self.inside.forest.pairs.items c.self.inside.neighbours.items c.args.e c.held_at.result.now c.self.invariant.1 (c.held_at.ensures ∙ ap (λ ls. held_at ls c.args.e) c.as_slice.ensures.value))
