use Rattle.std.proofs.Common.{◌∙◌, sym}
use Rattle.std.proofs.lemmas.Bool.{false≢true}
use Rattle.sc_tree.specs.Machine.{state}
use Rattle.sc_tree.specs.Verdicts.{IsJust}
use Rattle.sc_tree.proofs.Deciding.{all_closed, unknown}
use Rattle.sc_tree.proofs.tree.Tree.verdict_without_model.Goals as goal

pub returns-then-has_spent-clause-just : goal.returns-then-has_spent-clause-just
unfolding IsJust
returns-then-has_spent-clause-just c =
    unknown c.args.self c.args.problem.now c.requires.about c.len-legal.ensures.legal c.requires.over c.requires.none (c.has_spent.ensures.0 c.if-has_spent.true)

pub derivation-requires-clause-closed : goal.derivation-requires-clause-closed
derivation-requires-clause-closed c =
    all_closed (state c.args.self) c.requires.over c.requires.none (λ spent. false≢true (sym c.if-has_spent.false ∙ c.has_spent.ensures.1 spent))

pub returns-clause-just : goal.returns-clause-just
unfolding IsJust
returns-clause-just c = c.in_ok-derivation.ensures.just
