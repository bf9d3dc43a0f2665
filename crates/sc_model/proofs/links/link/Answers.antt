use Rattle.std.proofs.Common.{sym, ◌∙◌}
use Rattle.sc_model.specs.Deciding.{PassesOn, Concludes}
use Rattle.sc_model.proofs.Following.{kept_some, kept_none, pairs_next}
use Rattle.sc_model.proofs.links.link.Goals as goal

pub loop-pair-preserved : goal.loop-pair-preserved
loop-pair-preserved c =
    pairs_next (PassesOn c.args.path.now.facts c.args.element) c.args.pairs.now c.loop-pair.pair-index (0, 0) c.loop-pair-test.true c.loop-pair.invariant
    (kept_none (Concludes c.args.problem.now c.args.path.now.facts) c.link_by-step.result (sym c.is_some.ensures ∙ c.if-is_some.false) c.link_by-step.ensures)

pub returns-then-is_some : goal.returns-then-is_some
returns-then-is_some c = kept_some _ _ (Concludes c.args.problem.now c.args.path.now.facts) c.link_by-step.result (sym c.is_some.ensures ∙ c.if-is_some.true) c.link_by-step.ensures
