use Rattle.std.proofs.Common.{◌≡◌, true, sym, ap, subst, ◌∙◌}
use Rattle.std.specs.List.{AllByRecursion}
use Rattle.sc_rules.specs.Boolean.{sign}
use Rattle.sc_facts.specs.Paths.{PathFacts}
use Rattle.sc_branch.specs.Growing.{Held}
use Rattle.sc_branch.proofs.Allowed.{roots_there}
use Rattle.sc_branch.proofs.branch.Branch.settle.Goals as goal

pub first_due-requires-clause-roots : goal.first_due-requires-clause-roots
first_due-requires-clause-roots c =
    let same : c.path-path.result.now ≡ c.args.self.now.path = c.path-path.ensures ∙ ap (λ (h : Held). h.path) c.self.view_is in
    subst (λ (p : PathFacts). AllByRecursion (λ r. sign p.facts r true ≡ true) c.args.problem.now.roots) (sym same)
    (roots_there c.args.problem.now c.args.self.now.path.facts c.args.self.now.steps c.requires.on.leads)
