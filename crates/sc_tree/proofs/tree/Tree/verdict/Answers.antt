use Rattle.std.proofs.Common.{subst}
use Rattle.sc_terms.specs.Values.{Shows}
use Rattle.sc_tree.specs.Verdicts.{IsJust}
use Rattle.sc_tree.proofs.tree.Tree.verdict.Goals as goal

pub returns-in-Some-clause-just : goal.returns-in-Some-clause-just
unfolding IsJust
returns-in-Some-clause-just c =
    subst (λ p. Shows p c.into_model.result) c.requires.about (c.models_show.ensures c.args.self.problem c.args.self.budget c.args.self.journal c.len-legal.ensures.legal c.into_model.result c.into_model.ensures)
