use Rattle.sc_deriv.specs.Acceptance.{hypotheses_of}
use Rattle.sc_deriv.proofs.Checked.{no_hypotheses, accepted_if, refused_if, sound_if}
use Rattle.sc_deriv.proofs.checker.check.Goals as goal

pub returns-clause-accepted : goal.returns-clause-accepted
returns-clause-accepted c =
    accepted_if c.args.problem.now (hypotheses_of c.args.derivation.now.lemmas) c.args.derivation.now.nodes c.judge_roots.result c.accepts_closed_trees.ensures c.judge_roots.ensures.judgement

pub returns-clause-refused : goal.returns-clause-refused
returns-clause-refused c =
    refused_if c.args.problem.now (hypotheses_of c.args.derivation.now.lemmas) c.args.derivation.now.nodes c.judge_roots.result c.refuses_first_failure.ensures.first c.requires.tree c.judge_roots.ensures.judgement

pub returns-clause-sound : goal.returns-clause-sound
returns-clause-sound c =
    sound_if c.args.problem.now (hypotheses_of c.args.derivation.now.lemmas) c.args.derivation.now.nodes c.judge_roots.result c.accepts_closed_trees.ensures c.closed_trees_refute.ensures c.meanings_fit.ensures c.judge_roots.ensures.problem (no_hypotheses c.args.derivation.now.lemmas c.requires.no_lemmas) c.judge_roots.ensures.judgement
