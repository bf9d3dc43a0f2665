use Rattle.std.proofs.Common.{◌≡◌, Some, ap, subst, ◌∙◌}
use Rattle.sc_rules.specs.Steps.{lists_of}
use Rattle.sc_model.specs.Deciding.{Divides}
use Rattle.sc_branch.specs.Growing.{Growth}
use Rattle.sc_branch.proofs.Splitting.{divides_by}
use Rattle.sc_branch.proofs.growth.Growing.can_split.Goals as goal

pub returns-in-Ok-Two : goal.returns-in-Ok-Two
returns-in-Ok-Two c =
    let path : c.self.inside.path.facts ≡ c.args.self.now.path.facts = ap (λ (g : Growth). g.path.facts) c.self.view_is in
    λ holds. subst (λ p. Divides c.args.problem.now p c.args.step.now) path
    (divides_by c.args.problem.now c.self.inside.path.facts c.args.step.now c.in-Ok-Two.first c.in-Ok-Two.second _ (c.in-Ok-Two.ensures ∙ ap (λ b. Some (lists_of b)) c.in-Ok-Two.field-0-is) c.both_bring_more.ensures holds)
